-- How far a term stands, by what is known of its bytes one by one. Assumes nothing.
use mathlib.Core.Path.{◌≡◌, subst}
use mathlib.Core.List.{List, [], ◌∷◌, ◌++◌}
use mathlib.Core.Logic.{◌↔◌}
use Prim.Native.Nat.{ℕ, suc, ◌<◌, ◌≤◌}
use native.Mathlib.Omega.{arith}
use lib.ListN.{length, get_or, take}
use Rattle.answer.specs.Faults.{FaultAt}
use Rattle.expression.specs.declared.Kind.{Kind}
use Rattle.std.specs.Prelude.{Result, Err}
use Rattle.order.specs.declared.Wrong.{Wrong}
use Rattle.order.specs.Heads.{Head}
use Rattle.expression.specs.Scan.{Rest, fault-one, fault-securon, fault-from, fault-to, fault-code, whole-one, whole-range}

-- a next byte that there is not, or that can't stand
Bad : List ℕ → (ℕ → Type 0) → Type 0
Bad l P = (x : ℕ) (r : List ℕ) → l ≡ x ∷ r → P x → ⊥

bad : (l : List ℕ) (P : ℕ → Type 0) → (0 < length l → P (get_or l 0 0) → ⊥) → Bad l P
unfolding Bad
bad l P h x r e p = subst (λ (t : List ℕ). (0 < length t → P (get_or t 0 0) → ⊥)) e h (omega arith) p

module _ (kind : Kind) (n d : ℕ) where
  -- a term that does not stand, at the place m
  pub head-wrong : {l : List ℕ} {r : Result ℕ Wrong} {w : Wrong} {m : ℕ} → r ≡ Err w → w.0 ≡ m → ((k : ℕ) → FaultAt (Rest kind n d (suc k)) l m)
      → Head kind n d l r
  head-wrong e q f = rw (e, q) f

  module _ (some : 0 < n) where
    pub one-stuck : (l : List ℕ) → 0 < length l → get_or l 0 0 ≡ 1 → (1 < length l → get_or l 1 0 < n → ⊥) → (k : ℕ) → FaultAt (Rest kind n d (suc k)) l 1
    unfolding Bad
    one-stuck [] p e h k = absurd (omega arith)
    one-stuck (x ∷ l) p e h k = rw e (fault-one kind n d some k l (bad l (λ s. s < n) (λ q. h (omega arith))))

    pub securon-stuck : (l : List ℕ) → 0 < length l → get_or l 0 0 ≡ 2 → (1 < length l → get_or l 1 0 < n → ⊥) → (k : ℕ) → FaultAt (Rest kind n d (suc k)) l 1
    unfolding Bad
    securon-stuck [] p e h k = absurd (omega arith)
    securon-stuck (x ∷ l) p e h k = rw e (fault-securon kind n d some k l (bad l (λ s. s < n) (λ q. h (omega arith))))

    pub from-stuck : (l : List ℕ) → 1 < length l → get_or l 0 0 ≡ 2 → get_or l 1 0 < n → (2 < length l → get_or l 2 0 ≤ d → ⊥) → (k : ℕ)
        → FaultAt (Rest kind n d (suc k)) l 2
    unfolding Bad
    from-stuck [] p e s h k = absurd (omega arith)
    from-stuck (x ∷ []) p e s h k = absurd (omega arith)
    from-stuck (x ∷ y ∷ l) p e s h k = rw e (fault-from kind n d some k y l s (bad l (λ i. i ≤ d) (λ q. h (omega arith))))

    pub to-stuck : (l : List ℕ) → 2 < length l → get_or l 0 0 ≡ 2 → get_or l 1 0 < n → get_or l 2 0 ≤ d
        → (3 < length l → get_or l 2 0 ≤ get_or l 3 0 → get_or l 3 0 ≤ d → ⊥) → (k : ℕ) → FaultAt (Rest kind n d (suc k)) l 3
    unfolding Bad
    to-stuck [] p e s i h k = absurd (omega arith)
    to-stuck (x ∷ []) p e s i h k = absurd (omega arith)
    to-stuck (x ∷ y ∷ []) p e s i h k = absurd (omega arith)
    to-stuck (x ∷ y ∷ z ∷ l) p e s i h k =
        rw e (fault-to kind n d some k y z l s i (λ j r q f g. bad l (λ j. (z ≤ j) × (j ≤ d)) (λ a w. h (omega arith) w.0 w.1) j r q (f, g)))

    pub code-stuck : (l : List ℕ) → 0 < length l → ((k : ℕ) (r : List ℕ) → Rest kind n d (suc k) (get_or l 0 0 ∷ r) → ⊥) → (k : ℕ)
        → FaultAt (Rest kind n d (suc k)) l 0
    code-stuck [] p h k = absurd (omega arith)
    code-stuck (x ∷ l) p h k = fault-code kind n d some k x l (h k)

  pub one-whole : (l : List ℕ) → 1 < length l → get_or l 0 0 ≡ 1 → get_or l 1 0 < n → (k : ℕ) (r : List ℕ)
      → Rest kind n d (suc k) (take 2 l ++ r) ↔ Rest kind n d k r
  one-whole [] p e s k r = absurd (omega arith)
  one-whole (x ∷ []) p e s k r = absurd (omega arith)
  one-whole (x ∷ y ∷ l) p e s k r = rw e (whole-one kind n d k y r s)

  pub range-whole : (l : List ℕ) → 3 < length l → get_or l 0 0 ≡ 2 → get_or l 1 0 < n → get_or l 2 0 ≤ d → get_or l 2 0 ≤ get_or l 3 0 → get_or l 3 0 ≤ d
      → (k : ℕ) (r : List ℕ) → Rest kind n d (suc k) (take 4 l ++ r) ↔ Rest kind n d k r
  range-whole [] p e s i f t k r = absurd (omega arith)
  range-whole (x ∷ []) p e s i f t k r = absurd (omega arith)
  range-whole (x ∷ y ∷ []) p e s i f t k r = absurd (omega arith)
  range-whole (x ∷ y ∷ z ∷ []) p e s i f t k r = absurd (omega arith)
  range-whole (x ∷ y ∷ z ∷ w ∷ l) p e s i f t k r = rw e (whole-range kind n d k y z w r s i f t)
