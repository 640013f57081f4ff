-- There is one answer, one thing left behind, and one place of a first fault. Assumes nothing.
use Rattle.std.specs.Prelude.{◌≡◌, refl, List, [], ◌∷◌, ◌++◌, ◌↔◌, ℕ, ◌+◌, ◌<◌, ◌≤◌, length, take, drop}
use Rattle.std.proofs.Common.{sym, ap, ap₂, ◌∙◌, subst, append_assoc, inl, inr, not-suc-le-zero, arith, length-append, take-append-drop, take-take}
use Rattle.std.proofs.Math.Decide.{dec_lt, ℕ_discrete}
use Rattle.std.proofs.Common.{zero-le}
use Rattle.std.proofs.Math.Seq.{take-append-add}
use Rattle.answer.specs.declared.Answer.{Answer}
use Rattle.answer.specs.Answers.{Condition, Decides, Granted, Leaves}
use Rattle.answer.specs.Faults.{CanBegin, FaultAt}

-- at most one value has P
abbrev pub AtMostOne : {S : Type 0} → (S → Type 0) → Type 0
AtMostOne {S} P = (x y : S) → P x → P y → x ≡ y

-- each refusal of the list names one place
abbrev pub OnePlaceEach : List Condition → Type 0
OnePlaceEach [] = Unit {0}
OnePlaceEach (c ∷ cs) = AtMostOne c.names × OnePlaceEach cs

-- a place that is said outright is one place
pub said : (n : ℕ) → AtMostOne (λ (k : ℕ). k ≡ n)
said n x y p q = p ∙ sym q

same : (a b : Answer) → a.number ≡ b.number → a.place ≡ b.place → a ≡ b
same a b p q = ap₂ (λ (n k : ℕ). record { number = n; place = k }) p q

-- whatever the conditions are, they leave one answer
pub one_answer : (cs : List Condition) (grants : ℕ → Type 0) → OnePlaceEach cs
    → AtMostOne grants → (a b : Answer) → Decides cs grants a → Decides cs grants b → a ≡ b
one_answer [] grants one g a b p q = same a b (p.0 ∙ sym q.0) (g _ _ p.1 q.1)
one_answer (c ∷ cs) grants one g a b (inl p) (inl q) = same a b (p.1 ∙ sym q.1) (one.0 _ _ p.2 q.2)
one_answer (c ∷ cs) grants one g a b (inl p) (inr q) = absurd (p.0 q.0)
one_answer (c ∷ cs) grants one g a b (inr p) (inl q) = absurd (q.0 p.0)
one_answer (c ∷ cs) grants one g a b (inr p) (inr q) = one_answer cs grants one.1 g a b p.1 q.1

-- whatever the answer is, it leaves one thing behind
pub one_left : {S : Type 0} (a : Answer) (made : S → Type 0) → AtMostOne made → (before x y : S) → Leaves a made before x → Leaves a made before y → x ≡ y
one_left a made one before x y p q = go (ℕ_discrete a.number 0)
  where
    go : Dec (Granted a) → x ≡ y
    go (yes g) = one x y (p.on-grant g) (q.on-grant g)
    go (no r) = p.on-refusal r ∙ sym (q.on-refusal r)

module _ (Legal : List ℕ → Type 0) (bytes : List ℕ) where
  -- what begins so begins with less
  begins-less : (k m : ℕ) → k ≤ m → CanBegin Legal (take m bytes) → CanBegin Legal (take k bytes)
  begins-less k m h (rest, l) = (
    drop k (take m bytes) ++ rest,
    subst Legal
        (ap (λ (x : List ℕ). x ++ rest) (sym (take-append-drop k (take m bytes)))
        ∙ append_assoc (take k (take m bytes)) (drop k (take m bytes)) rest
        ∙ ap (λ (x : List ℕ). x ++ (drop k (take m bytes) ++ rest)) (take-take k m bytes h))
        l,
  )

  -- a first fault has one place
  pub one-fault : AtMostOne (FaultAt Legal bytes)
  one-fault k m f g = go (dec_lt k m) (dec_lt m k)
    where
      not-before : {i j : ℕ} → FaultAt Legal bytes i → FaultAt Legal bytes j → i < j → ⊥
      not-before {i} {j} p q h = p.there (omega (arith, q.within)) (begins-less (i + 1) j (omega arith) q.before)

      go : Dec (k < m) → Dec (m < k) → k ≡ m
      go (yes h) b = absurd (not-before f g h)
      go (no n) (yes h) = absurd (not-before g f h)
      go (no n) (no o) = omega arith

  -- what is legal has no fault
  pub no-fault : {k : ℕ} → Legal bytes → FaultAt Legal bytes k → ⊥
  no-fault {k} l f = go (dec_lt k (length bytes))
    where
      go : Dec (k < length bytes) → ⊥
      go (yes h) = f.there h (drop (k + 1) bytes, subst Legal (sym (take-append-drop (k + 1) bytes)) l)
      go (no n) = f.at-end (omega (arith, f.within)) l

-- where what is legal after a front is M, a fault of M is one of the whole, further on by the front
pub fault-after : (L M : List ℕ → Type 0) (front l : List ℕ)
    → ((r : List ℕ) → L (front ++ r) ↔ M r) → {k : ℕ} → FaultAt M l k
    → FaultAt L (front ++ l) (length front + k)
fault-after L M front l goes {k} f = record {
  within = rw (length-append front l) (omega (arith, f.within));
  before = begins k f.before;
  there = λ h w. f.there (omega (arith, length-append front l)) (less w.0 w.1);
  at-end = λ e w. f.at-end (omega (arith, length-append front l)) ((goes l).0 w);
}
  where
    begins : (j : ℕ) → CanBegin M (take j l) → CanBegin L (take (length front + j) (front ++ l))
    begins j (r, m) = (r, rw (take-append-add front l j, append_assoc front (take j l) r) ((goes (take j l ++ r)).1 m))

    less : (r : List ℕ) → L (take (length front + k + 1) (front ++ l) ++ r) → CanBegin M (take (k + 1) l)
    less r w =
        let e : length front + k + 1 ≡ length front + (k + 1) = omega arith in
        (r, (goes (take (k + 1) l ++ r)).0 (rw (e, take-append-add front l (k + 1), append_assoc front (take (k + 1) l) r) at w))

-- a fault at once: something legal there is, but nothing that begins with the next byte, nor is the end legal
pub fault-here : (M : List ℕ → Type 0) (l : List ℕ) → CanBegin M [] → ((x : ℕ) (r t : List ℕ) → l ≡ x ∷ r → M (x ∷ t) → ⊥) → (l ≡ [] → M [] → ⊥) → FaultAt M l 0
fault-here M [] b next end = record { within = zero-le; before = b; there = λ h _. absurd (not-suc-le-zero h); at-end = λ _. end refl }
fault-here M (x ∷ r) b next end = record { within = zero-le; before = b; there = λ _ w. next x r w.0 refl w.1; at-end = λ e. absurd (omega arith) }
