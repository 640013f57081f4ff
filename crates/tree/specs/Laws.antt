-- Laws of walking up and of levels. Assumes nothing.
use Rattle.std.specs.Prelude.{◌≡◌, refl, List, ◌↔◌, ℕ, suc, ◌<◌, ◌≤◌, length, get_or}
use Rattle.std.proofs.Common.{sym, ap, ap₂, ◌∙◌, subst, inl, inr, ⊎_elim, le_refl, arith, ext_get_or}
use Rattle.std.proofs.Math.Decide.{dec_lt}
use Rattle.securon.specs.declared.Level.{Level}
use Rattle.tree.specs.declared.Tree.{Tree}
use Rattle.tree.specs.declared.Levels.{Levels}
use Rattle.tree.specs.Tree.{Reaches, here, up, Related, Equal, Above, Below, EqualAboveOrBelow, Climbs}
use Rattle.tree.specs.Tree.{HasLevel, root, child, IsTree, IsDepth, root_level, level_in, LevelsOf}

-- a walk that is not at its end goes on from the parent
pub reaches-up : {p : List ℕ} {a b : ℕ} → Reaches p a b → (a ≡ b → ⊥) → Reaches p (get_or p a 0) b
reaches-up here n = absurd (n refl)
reaches-up (up h r) n = r

-- from the root a walk reaches only the root
pub reaches-root : {p : List ℕ} {a b : ℕ} → Reaches p a b → a ≡ 0 → a ≡ b
reaches-root here e = refl
reaches-root (up h r) e = absurd (omega arith)

-- every securon of a tree climbs
pub climbs : {t : Tree} → IsTree t → (a : ℕ) → a < t.n → Climbs t.parent a
climbs t a h = record { few = omega (arith, t.count.1); smaller = λ u p l. t.smaller u p (omega arith) }

-- and so does the parent of one that climbs and is not the root
pub climbs-up : {p : List ℕ} {a : ℕ} → Climbs p a → 0 < a → Climbs p (get_or p a 0)
climbs-up {p} {a} c h =
    let less = c.smaller a h (le_refl (suc a)) in
    record { few = omega (arith, c.few); smaller = λ u q l. c.smaller u q (omega arith) }

-- a walk never reaches a larger number
pub reaches-smaller : {p : List ℕ} {a b : ℕ} → Reaches p a b → Climbs p a → b ≤ a
reaches-smaller {p} {a} here c = le_refl a
reaches-smaller {p} {a} (up h r) c =
    let less = c.smaller a h (le_refl (suc a)) in omega (arith, reaches-smaller r (climbs-up c h))

-- a securon has one level
pub one-level : {p : List ℕ} {a b k m : ℕ} → HasLevel p a k → HasLevel p b m → a ≡ b → k ≡ m
one-level root root e = refl
one-level root (child h l) e = absurd (omega arith)
one-level (child h l) root e = absurd (omega arith)
one-level {p} (child h l) (child g m) e = ap suc (one-level l m (ap (λ (x : ℕ). get_or p x 0) e))

-- a walk ends where it began, or above: so what is related is equal, above or below
kind-of : {p : List ℕ} {u s : ℕ} → Related p u s → EqualAboveOrBelow p u s
kind-of (inl here) = inl refl
kind-of (inl (up h r)) = inr (inr (h, r))
kind-of (inr here) = inl refl
kind-of (inr (up h r)) = inr (inl (h, r))

-- and what is equal, above or below is related
related-so : {p : List ℕ} {u s : ℕ} → EqualAboveOrBelow p u s → Related p u s
related-so {p} {u} {s} (inl e) = inl (subst (Reaches p u) e here)
related-so (inr (inl a)) = inr (up a.0 a.1)
related-so (inr (inr b)) = inl (up b.0 b.1)

-- the three kinds are what `Related` is
pub three-kinds : {p : List ℕ} {u s : ℕ} → EqualAboveOrBelow p u s ↔ Related p u s
three-kinds = (related-so, kind-of)

-- where u is neither equal to s nor above s, it is related to s exactly if it is below s
pub related-below : {p : List ℕ} {u s : ℕ} → (Equal u s → ⊥) → (Above p u s → ⊥) → Below p u s ↔ Related p u s
related-below not_equal not-above = (
  (λ b. three-kinds.0 (inr (inr b))),
  (λ r. ⊎_elim (λ e. absurd (not_equal e)) (⊎_elim (λ a. absurd (not-above a)) (λ b. b)) (three-kinds.1 r)),
)

-- what is above has a smaller number
pub above-smaller : {p : List ℕ} {u s : ℕ} → Climbs p s → Above p u s → u < s
above-smaller {p} {u} {s} c a =
    let less = c.smaller s a.0 (le_refl (suc s)) in omega (arith, reaches-smaller a.1 (climbs-up c a.0))

-- so what has a smaller number than s is above s exactly if the walk from s reaches it
pub above-walk : {p : List ℕ} {u s : ℕ} → u < s → Reaches p s u ↔ Above p u s
above-walk h = ((λ r. (omega arith, reaches-up r (λ e. omega arith))), λ a. up a.0 a.1)

-- two securons are related in one way at most
pub one-kind : {p : List ℕ} {u s : ℕ} → Climbs p u → Climbs p s
    → (Equal u s → Above p u s → ⊥) × (Equal u s → Below p u s → ⊥) × (Above p u s → Below p u s → ⊥)
one-kind cu cs = (
  (λ e a. omega (arith, above-smaller cs a)),
  (λ e b. omega (arith, above-smaller cu b)),
  (λ a b. omega (arith, above-smaller cs a, above-smaller cu b)),
)

-- a tree has one depth
pub one-depth : {t : Tree} {d e : ℕ} → IsDepth t d → IsDepth t e → d ≡ e
one-depth {t} {d} {e} p q =
    let a = p.deepest in
    let b = q.deepest in
    omega (arith, q.largest a.0 d a.1 a.2, p.largest b.0 e b.1 b.2)

-- levels with the same number are one
same-level : (a b : Level) → a.0 ≡ b.0 → a ≡ b
same-level a b e = ap (λ (k : ℕ). record { 0 = k }) e

-- a tree's levels leave one value, in arrays of one length
pub one-levels : (t : Tree) (a b : Levels) → length a.of ≡ length b.of → LevelsOf t a → LevelsOf t b → a ≡ b
one-levels t a b long p q =
    let of = ext_get_or root_level a.of b.of long (λ u _. same-level _ _ (go u (dec_lt u t.n))) in
    ap₂ (λ (l : List Level) (d : Level). record { of = l; depth = d }) of (same-level _ _ (one-depth p.depth q.depth))
  where
    go : (u : ℕ) → Dec (u < t.n) → level_in a u ≡ level_in b u
    go u (yes h) = one-level (p.level u h) (q.level u h) refl
    go u (no n) = p.unused u (omega arith) ∙ sym (q.unused u (omega arith))
