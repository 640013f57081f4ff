-- The meanings, computed: tests that the checker runs, each proved to say what the meaning says. For worked examples only. Assumes nothing.
use Rattle.std.specs.Prelude.{◌≡◌, Bool, true, false, not, ◌&&◌, ◌||◌, List, ◌⊎◌, ◌↔◌, eqb, ltb, get_or}
use Rattle.std.proofs.Math.Path.{refl, subst}
use Rattle.std.proofs.Common.{sym, ap, ◌∙◌, inl, inr, ⊎_elim, pos_of_ne-zero, le_refl, not-suc-le-zero, arith}
use Rattle.std.proofs.Math.Bool.{false≢true}
use Prim.Native.Nat.{ℕ, zero, suc, ◌<◌, ◌≤◌}
use Rattle.std.proofs.Math.Decide.{ℕ_discrete}
use borrow.Author.Tests.{eqb-true, eq-eqb, ne_eqb, leb-true, le-leb, ltb-true, lt-ltb}
use Rattle.std.proofs.Math.Dec.{leb}
use Rattle.securon.specs.Sets.{Marks, on}
use Rattle.logic.specs.Iff.{and-iff, or-iff, iff-refl, iff-sym, iff-trans}
use Rattle.tree.specs.declared.Tree.{Tree}
use Rattle.tree.specs.Tree.{Reaches, here, up, HasLevel, root, child, IsTree}
use Rattle.tree.specs.Laws.{reaches-up, reaches-root, one-level}
use Rattle.expression.specs.Expression.{Term, one, range, Expr, term, ◌AND◌, ◌OR◌, Between, term_set, privilege_set, Meets}
use Rattle.expression.specs.Laws.{meets-term, meets-AND, meets-OR}

-- every term's securon is one of the tree's
abbrev pub NamedBelow : ℕ → Expr → Type 0
NamedBelow n (term (one s)) = s < n
NamedBelow n (term (range s i j)) = s < n
NamedBelow n (a AND b) = NamedBelow n a × NamedBelow n b
NamedBelow n (a OR b) = NamedBelow n a × NamedBelow n b

unfoldable pub named_b : ℕ → Expr → Bool
named_b n (term (one s)) = ltb s n
named_b n (term (range s i j)) = ltb s n
named_b n (a AND b) = named_b n a && named_b n b
named_b n (a OR b) = named_b n a && named_b n b

-- walking up at most f steps
unfoldable pub reaches_b : List ℕ → ℕ → ℕ → ℕ → Bool
reaches_b p zero a b = eqb a b
reaches_b p (suc f) a b = eqb a b || (not (eqb a 0) && reaches_b p f (get_or p a 0) b)

unfoldable pub level_b : List ℕ → ℕ → ℕ → ℕ
level_b p zero a = 0
level_b p (suc f) zero = 0
level_b p (suc f) (suc a) = suc (level_b p f (get_or p (suc a) 0))

unfoldable pub any_b : (ℕ → Bool) → ℕ → Bool
any_b f zero = false
any_b f (suc k) = f k || any_b f k

unfoldable pub all_b : (ℕ → Bool) → ℕ → Bool
all_b f zero = true
all_b f (suc k) = f k && all_b f k

unfoldable pub between_b : List ℕ → ℕ → ℕ → ℕ → ℕ → Bool
between_b p s i j u = (leb i (level_b p u u) && leb (level_b p u u) j) && (reaches_b p u u s || reaches_b p s s u)

unfoldable pub in_term_b : Tree → Term → ℕ → Bool
in_term_b t (one s) u = eqb u s
in_term_b t (range s i j) u = ltb u t.n && between_b t.parent s i j u

-- u is in the value of a privilege expression
unfoldable pub in_b : Tree → Expr → ℕ → Bool
in_b t (term x) u = in_term_b t x u
in_b t (a AND b) u = in_b t a u || in_b t b u
in_b t (a OR b) u = false

-- the marks meet a protection expression
unfoldable pub met_b : Tree → Marks → Expr → Bool
met_b t H (term x) = any_b (λ u. in_term_b t x u && H u) t.n
met_b t H (a AND b) = met_b t H a && met_b t H b
met_b t H (a OR b) = met_b t H a || met_b t H b

pub both_true : (x y : Bool) → (x && y) ≡ true → (x ≡ true) × (y ≡ true)
both_true true y e = (refl, e)
both_true false y e = absurd (false≢true e)

pub named-true : (n : ℕ) (e : Expr) → named_b n e ≡ true → NamedBelow n e
unfolding named_b
named-true n (term (one s)) h = ltb-true s n h
named-true n (term (range s i j)) h = ltb-true s n h
named-true n (a AND b) h = let w = both_true (named_b n a) (named_b n b) h in (named-true n a w.0, named-true n b w.1)
named-true n (a OR b) h = let w = both_true (named_b n a) (named_b n b) h in (named-true n a w.0, named-true n b w.1)

below_last : (u k : ℕ) → u < suc k → (u ≡ k → ⊥) → u < k
below_last u k h n = omega arith

pub any-iff : (f : ℕ → Bool) (n : ℕ) → (any_b f n ≡ true) ↔ ((u : ℕ) × (u < n) × (f u ≡ true))
unfolding any_b
any-iff f zero = ((λ e. absurd (false≢true e)), λ (u, h, e). absurd (not-suc-le-zero h))
any-iff f (suc k) = iff-trans (or-iff (f k) (any_b f k) iff-refl (any-iff f k)) (
  ⊎_elim (λ e. (k, le_refl (suc k), e)) (λ (u, h, e). (u, omega arith, e)),
  λ (u, h, e). go u h e (ℕ_discrete u k),
)
  where
    go : (u : ℕ) → u < suc k → f u ≡ true → Dec (u ≡ k) → (f k ≡ true) ⊎ ((v : ℕ) × (v < k) × (f v ≡ true))
    go u h e (yes q) = inl (ap f (sym q) ∙ e)
    go u h e (no q) = inr (u, below_last u k h q, e)

all_true : (f : ℕ → Bool) (n : ℕ) → all_b f n ≡ true → (u : ℕ) → u < n → f u ≡ true
unfolding all_b
all_true f zero e u h = absurd (not-suc-le-zero h)
all_true f (suc k) e u h = go (ℕ_discrete u k) (all_true f k (both_true (f k) (all_b f k) e).1 u)
  where
    go : Dec (u ≡ k) → (u < k → f u ≡ true) → f u ≡ true
    go (yes q) less = ap f q ∙ (both_true (f k) (all_b f k) e).0
    go (no q) less = less (below_last u k h q)

pub all-iff : (f : ℕ → Bool) (n : ℕ) → (all_b f n ≡ true) ↔ ((u : ℕ) → u < n → f u ≡ true)
unfolding all_b
all-iff f n = (all_true f n, back n)
  where
    back : (n : ℕ) → ((u : ℕ) → u < n → f u ≡ true) → all_b f n ≡ true
    back zero w = refl
    back (suc k) w = rw (w k (le_refl (suc k))) (back k (λ u h. w u (omega arith)))

module _ (t : Tree) (tree : IsTree t) where
  reaches-iff : (f a b : ℕ) → a ≤ f → a < t.n → (reaches_b t.parent f a b ≡ true) ↔ Reaches t.parent a b
  unfolding reaches_b
  reaches-iff zero a b l h = (
    (λ e. subst (Reaches t.parent a) (eqb-true a b e) here),
    (λ r. eq-eqb a b (reaches-root r (omega arith))),
  )
  reaches-iff (suc f) a b l h = go (ℕ_discrete a b) (ℕ_discrete a 0) (λ pos.
      let less = tree.smaller a pos h in
      reaches-iff f (get_or t.parent a 0) b (omega arith) (omega arith))
    where
      go : Dec (a ≡ b) → Dec (a ≡ 0) → (0 < a → (reaches_b t.parent f (get_or t.parent a 0) b ≡ true) ↔ Reaches t.parent (get_or t.parent a 0) b)
          → ((eqb a b || (not (eqb a 0) && reaches_b t.parent f (get_or t.parent a 0) b)) ≡ true) ↔ Reaches t.parent a b
      go (yes e) z ih = ((λ _. subst (Reaches t.parent a) e here), λ _. rw (eq-eqb a b e) refl)
      go (no q) (yes z) ih = rw (ne_eqb a b q, eq-eqb a 0 z) ((λ e. absurd (false≢true e)), λ r. absurd (q (reaches-root r z)))
      go (no q) (no z) ih = rw (ne_eqb a b q, ne_eqb a 0 z)
          ((λ e. up (pos_of_ne-zero z) ((ih (pos_of_ne-zero z)).0 e)), λ r. (ih (pos_of_ne-zero z)).1 (reaches-up r q))

  level-is : (f a : ℕ) → a ≤ f → a < t.n → HasLevel t.parent a (level_b t.parent f a)
  unfolding level_b
  level-is zero zero l h = root
  level-is zero (suc a) l h = absurd (omega arith)
  level-is (suc f) zero l h = root
  level-is (suc f) (suc a) l h =
      let s = tree.smaller (suc a) (omega arith) h in
      child {u = suc a} (omega arith) (level-is f (get_or t.parent (suc a) 0) (omega arith) (omega arith))

  between-iff : (s i j u : ℕ) → s < t.n → u < t.n → (between_b t.parent s i j u ≡ true) ↔ Between t s i j u
  unfolding between_b
  between-iff s i j u hs hu =
      let k = level_b t.parent u u in
      let lv : HasLevel t.parent u k = level-is u u (le_refl u) hu in
      iff-trans
      (and-iff (leb i k && leb k j) (reaches_b t.parent u u s || reaches_b t.parent s s u)
      (and-iff (leb i k) (leb k j) (leb-true i k, le-leb i k) (leb-true k j, le-leb k j))
      (or-iff (reaches_b t.parent u u s) (reaches_b t.parent s s u) (reaches-iff u u s (le_refl u) hu) (reaches-iff s s u (le_refl s) hs))) (
        (λ w. record { present = hu; related = w.1; level = k; has-level = lv; from-i = w.0.0; to_j = w.0.1 }),
        (λ r. let e = one-level r.has-level lv refl in ((omega (arith, r.from-i), omega (arith, r.to_j)), r.related)),
      )

  term-iff : (x : Term) (u : ℕ) → NamedBelow t.n (term x) → (in_term_b t x u ≡ true) ↔ term_set t x u
  unfolding in_term_b
  term-iff (one s) u h = (eqb-true u s, eq-eqb u s)
  term-iff (range s i j) u h = (
    (λ e. let w = both_true (ltb u t.n) (between_b t.parent s i j u) e in (between-iff s i j u h (ltb-true u t.n w.0)).0 w.1),
    (λ b. rw (lt-ltb u t.n b.present) ((between-iff s i j u h b.present).1 b)),
  )

  -- every member of a named term's SET is one of the tree's
  term-below : (x : Term) (u : ℕ) → NamedBelow t.n (term x) → term_set t x u → u < t.n
  term-below (one s) u h m = rw m h
  term-below (range s i j) u h m = m.present

  pub in-below : (e : Expr) (u : ℕ) → NamedBelow t.n e → privilege_set t e u → u < t.n
  in-below (term x) u h m = term-below x u h m
  in-below (a AND b) u h m = ⊎_elim (in-below a u h.0) (in-below b u h.1) m
  in-below (a OR b) u h m = absurd m

  pub in-iff : (e : Expr) (u : ℕ) → NamedBelow t.n e → (in_b t e u ≡ true) ↔ privilege_set t e u
  unfolding in_b
  in-iff (term x) u h = term-iff x u h
  in-iff (a AND b) u h = or-iff (in_b t a u) (in_b t b u) (in-iff a u h.0) (in-iff b u h.1)
  in-iff (a OR b) u h = ((λ e. false≢true e), λ w. absurd w)

  pub met-iff : (H : Marks) (e : Expr) → NamedBelow t.n e → (met_b t H e ≡ true) ↔ Meets t (on H) e
  unfolding met_b
  met-iff H (term x) h =
      iff-trans (any-iff (λ u. in_term_b t x u && H u) t.n)
      (iff-trans (
        (λ (u, l, e). let w = (and-iff (in_term_b t x u) (H u) (term-iff x u h) iff-refl).0 e in (u, w.0, w.1)),
        (λ (u, s, m). (u, term-below x u h s, (and-iff (in_term_b t x u) (H u) (term-iff x u h) iff-refl).1 (s, m))),
      )
      (iff-sym (meets-term t (on H) x)))
  met-iff H (a AND b) h = iff-trans (and-iff (met_b t H a) (met_b t H b) (met-iff H a h.0) (met-iff H b h.1)) (iff-sym (meets-AND t (on H) a b))
  met-iff H (a OR b) h = iff-trans (or-iff (met_b t H a) (met_b t H b) (met-iff H a h.0) (met-iff H b h.1)) (iff-sym (meets-OR t (on H) a b))
