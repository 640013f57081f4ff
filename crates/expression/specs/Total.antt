-- Every list of bytes is right, or has a fault at a place. Assumes nothing.
use Rattle.std.specs.Prelude.{◌≡◌, refl, List, [], ◌∷◌, ◌++◌, ◌⊎◌, ◌↔◌, ℕ, zero, suc, ◌+◌, ◌<◌, ◌≤◌, length}
use Rattle.std.proofs.Common.{sym, subst, inl, inr, le_refl, arith}
use Rattle.std.proofs.Math.Decide.{dec_le, dec_lt, ℕ_discrete}
use Rattle.answer.specs.Faults.{FaultAt}
use Rattle.answer.specs.Laws.{fault-after}
use Rattle.expression.specs.declared.Kind.{Kind}
use Rattle.expression.specs.declared.Kind.TheVariants.{Privilege, Protection}
use Rattle.expression.specs.Bytes.{MayOR, Written, Right}
use Rattle.expression.specs.Scan.{Rest, head-is, cons-nil, rest-none, rest-and, rest-or, rest-other, written-rest, whole-one, whole-range}
use Rattle.expression.specs.Scan.{fault-over, fault-end, fault-code, fault-one, fault-securon, fault-from, fault-to, fault-right}

-- bytes are legal, or have a fault
abbrev pub Judged : (List ℕ → Type 0) → List ℕ → Type 0
Judged Legal l = Legal l ⊎ ((k : ℕ) × FaultAt Legal l k)

-- what is judged after a front is judged with it
after : (L M : List ℕ → Type 0) (front l : List ℕ) → ((r : List ℕ) → L (front ++ r) ↔ M r) → Judged M l → Judged L (front ++ l)
after L M front l goes (inl m) = inl ((goes l).1 m)
after L M front l goes (inr (k, f)) = inr (length front + k, fault-after L M front l goes f)

may-or : (kind : Kind) → Dec (MayOR kind)
may-or Privilege = no (λ b. b)
may-or Protection = yes tt

-- a byte that is not as it must be is the first of what is there
not-it : (P : ℕ → Type 0) (x : ℕ) (r : List ℕ) → (P x → ⊥) → (y : ℕ) (t : List ℕ) → x ∷ r ≡ y ∷ t → P y → ⊥
not-it P x r n y t e p = n (subst P (sym (head-is e)) p)

module _ (kind : Kind) (n d : ℕ) (some : 0 < n) where
  -- with k operands to follow
  abbrev Left : ℕ → List ℕ → Type 0
  Left = Rest kind n d

  -- what fewer bytes come to
  abbrev Fewer : ℕ → Type 0
  Fewer f = (k : ℕ) (l : List ℕ) → length l ≤ f → Judged (Left k) l

  -- after 01
  one-judged : (f k : ℕ) (l : List ℕ) → length l ≤ f → Fewer f → Judged (Left (suc k)) (1 ∷ l)
  one-judged f k [] h fewer = inr (1, fault-one kind n d some k [] (λ s r e _. cons-nil (sym e)))
  one-judged f k (s ∷ r) h fewer = go (dec_lt s n)
    where
      go : Dec (s < n) → Judged (Left (suc k)) (1 ∷ s ∷ r)
      go (yes p) = after (Left (suc k)) (Left k) (1 ∷ s ∷ []) r (λ t. whole-one kind n d k s t p) (fewer k r (omega arith))
      go (no p) = inr (1, fault-one kind n d some k (s ∷ r) (not-it (λ i. i < n) s r p))

  -- after 02: the securon, the first level, the second
  securon-wrong : (k s : ℕ) (r : List ℕ) → (s < n → ⊥) → Judged (Left (suc k)) (2 ∷ s ∷ r)
  securon-wrong k s r p = inr (1, fault-securon kind n d some k (s ∷ r) (not-it (λ i. i < n) s r p))

  from_wrong : (k s i : ℕ) (r : List ℕ) → s < n → (i ≤ d → ⊥) → Judged (Left (suc k)) (2 ∷ s ∷ i ∷ r)
  from_wrong k s i r p q = inr (2, fault-from kind n d some k s (i ∷ r) p (not-it (λ j. j ≤ d) i r q))

  range-judged : (f k : ℕ) (l : List ℕ) → length l ≤ f → Fewer f → Judged (Left (suc k)) (2 ∷ l)
  range-judged f k [] h fewer = inr (1, fault-securon kind n d some k [] (λ s r e _. cons-nil (sym e)))
  range-judged f k (s ∷ []) h fewer = go (dec_lt s n)
    where
      go : Dec (s < n) → Judged (Left (suc k)) (2 ∷ s ∷ [])
      go (yes p) = inr (2, fault-from kind n d some k s [] p (λ i r e _. cons-nil (sym e)))
      go (no p) = securon-wrong k s [] p
  range-judged f k (s ∷ i ∷ []) h fewer = go (dec_lt s n) (dec_le i d)
    where
      go : Dec (s < n) → Dec (i ≤ d) → Judged (Left (suc k)) (2 ∷ s ∷ i ∷ [])
      go (yes p) (yes q) = inr (3, fault-to kind n d some k s i [] p q (λ j r e _ _. cons-nil (sym e)))
      go (yes p) (no q) = from_wrong k s i [] p q
      go (no p) q = securon-wrong k s (i ∷ []) p
  range-judged f k (s ∷ i ∷ j ∷ r) h fewer = go (dec_lt s n) (dec_le i d) (dec_le i j) (dec_le j d)
    where
      whole : s < n → i ≤ d → i ≤ j → j ≤ d → Judged (Left (suc k)) (2 ∷ s ∷ i ∷ j ∷ r)
      whole p q u v =
          let goes : (t : List ℕ) → Left (suc k) (2 ∷ s ∷ i ∷ j ∷ t) ↔ Left k t = λ t. whole-range kind n d k s i j t p q u v in
          after (Left (suc k)) (Left k) (2 ∷ s ∷ i ∷ j ∷ []) r goes (fewer k r (omega arith))

      go : Dec (s < n) → Dec (i ≤ d) → Dec (i ≤ j) → Dec (j ≤ d) → Judged (Left (suc k)) (2 ∷ s ∷ i ∷ j ∷ r)
      go (yes p) (yes q) (yes u) (yes v) = whole p q u v
      go (yes p) (yes q) (yes u) (no v) = inr (3, fault-to kind n d some k s i (j ∷ r) p q (λ y t e _ o. not-it (λ x. x ≤ d) j r v y t e o))
      go (yes p) (yes q) (no u) v = inr (3, fault-to kind n d some k s i (j ∷ r) p q (λ y t e o _. not-it (λ x. i ≤ x) j r u y t e o))
      go (yes p) (no q) u v = from_wrong k s i (j ∷ r) p q
      go (no p) q u v = securon-wrong k s (i ∷ j ∷ r) p

  -- after 03 and 04 one operand more is to follow
  and-judged : (f k : ℕ) (l : List ℕ) → length l ≤ f → Fewer f → Judged (Left (suc k)) (3 ∷ l)
  and-judged f k l h fewer = after (Left (suc k)) (Left (suc (suc k))) (3 ∷ []) l (rest-and kind n d k) (fewer (suc (suc k)) l h)

  or-judged : MayOR kind → (f k : ℕ) (l : List ℕ) → length l ≤ f → Fewer f → Judged (Left (suc k)) (4 ∷ l)
  or-judged m f k l h fewer = after (Left (suc k)) (Left (suc (suc k))) (4 ∷ []) l (rest-or kind n d m k) (fewer (suc (suc k)) l h)

  -- a first byte, of which something is to follow
  first-judged : (f k x : ℕ) (l : List ℕ) → length l ≤ f → Fewer f → Judged (Left (suc k)) (x ∷ l)
  first-judged f k x l h fewer = go (ℕ_discrete x 1) (ℕ_discrete x 2) (ℕ_discrete x 3) (ℕ_discrete x 4) (may-or kind)
    where
      same : (c : ℕ) → x ≡ c → Judged (Left (suc k)) (c ∷ l) → Judged (Left (suc k)) (x ∷ l)
      same c e j = subst (λ (i : ℕ). Judged (Left (suc k)) (i ∷ l)) (sym e) j

      go : Dec (x ≡ 1) → Dec (x ≡ 2) → Dec (x ≡ 3) → Dec (x ≡ 4) → Dec (MayOR kind) → Judged (Left (suc k)) (x ∷ l)
      go (yes e) b c o m = same 1 e (one-judged f k l h fewer)
      go (no a) (yes e) c o m = same 2 e (range-judged f k l h fewer)
      go (no a) (no b) (yes e) o m = same 3 e (and-judged f k l h fewer)
      go (no a) (no b) (no c) (yes e) (yes m) = same 4 e (or-judged m f k l h fewer)
      go (no a) (no b) (no c) (yes e) (no m) = inr (0, fault-code kind n d some k x l (λ r. rest-other kind n d k x r a b c (λ _. m)))
      go (no a) (no b) (no c) (no o) m = inr (0, fault-code kind n d some k x l (λ r. rest-other kind n d k x r a b c (λ e. absurd (o e))))

  -- the end
  end-judged : (k : ℕ) → Judged (Left k) []
  end-judged zero = inl ((rest-none kind n d []).1 refl)
  end-judged (suc k) = inr (0, fault-end kind n d some k)

  next-judged : (f k x : ℕ) (l : List ℕ) → length l ≤ f → Fewer f → Judged (Left k) (x ∷ l)
  next-judged f zero x l h fewer = inr (0, fault-over kind n d some x l)
  next-judged f (suc k) x l h fewer = first-judged f k x l h fewer

  rest-judged : (f : ℕ) → Fewer f
  rest-judged zero k [] h = end-judged k
  rest-judged zero k (x ∷ l) h = absurd (omega arith)
  rest-judged (suc f) k [] h = end-judged k
  rest-judged (suc f) k (x ∷ l) h = next-judged f k x l (omega arith) (rest-judged f)

  -- all bytes are right, or have a fault
  pub judged : (l : List ℕ) → Judged (Right kind n d) l
  judged [] = inl (inl refl)
  judged (x ∷ l) = go (rest-judged (length (x ∷ l)) 1 (x ∷ l) (le_refl (length (x ∷ l))))
    where
      go : Judged (Left 1) (x ∷ l) → Judged (Right kind n d) (x ∷ l)
      go (inl w) = inl (inr ((written-rest kind n d (x ∷ l)).1 w))
      go (inr (k, f)) =
          let written = fault-after (Written kind n d) (Left 1) [] (x ∷ l) (written-rest kind n d) f in
          inr (0 + k, fault-right kind n d (x ∷ l) (0 + k) cons-nil written)
