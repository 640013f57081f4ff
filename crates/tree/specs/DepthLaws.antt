-- The depth of a tree, computed, is the largest level, and nothing else is. Assumes nothing.
use Rattle.std.specs.Prelude.{◌≡◌, refl, ◌↔◌, get_or}
use Rattle.std.proofs.Common.{sym}
use Rattle.std.proofs.Math.Path.{ap, subst}
use Prim.Native.Nat.{ℕ, zero, suc, ◌<◌, ◌≤◌, max}
use Rattle.std.proofs.Math.Decide.{dec_le, ℕ_discrete}
use Rattle.std.proofs.Math.Nat.{le_refl}
use native.Mathlib.Omega.{arith}
use Rattle.tree.specs.declared.Tree.{Tree}
use Rattle.tree.specs.Tree.{IsTree, HasLevel, root, child, IsDepth}
use Rattle.tree.specs.Depth.{level_of, largest, depth_of}
use Rattle.tree.specs.Laws.{one-level, one-depth}

module _ (t : Tree) (tree : IsTree t) where
  -- the level of u
  abbrev level : ℕ → ℕ
  level u = level_of t.parent u u

  -- some securon numbered below k has the largest level of those
  abbrev Reached : ℕ → Type 0
  Reached k = (u : ℕ) × (u < k) × (largest t.parent k ≡ level u)

  level-is : (f a : ℕ) → a ≤ f → a < t.n → HasLevel t.parent a (level_of t.parent f a)
  unfolding level_of
  level-is zero zero l h = root
  level-is zero (suc a) l h = absurd (omega arith)
  level-is (suc f) zero l h = root
  level-is (suc f) (suc a) l h =
      let s = tree.smaller (suc a) (omega arith) h in
      child {u = suc a} (omega arith) (level-is f (get_or t.parent (suc a) 0) (omega arith) (omega arith))

  reached : (k : ℕ) → 0 < k → k ≤ t.n → Reached k
  unfolding largest level_of
  reached zero h l = absurd (omega arith)
  reached (suc zero) h l = (0, omega arith, refl)
  reached (suc (suc k)) h l = go (reached (suc k) (omega arith) (omega arith)) (dec_le (largest t.parent (suc k)) (level (suc k)))
    where
      go : Reached (suc k) → Dec (largest t.parent (suc k) ≤ level (suc k)) → Reached (suc (suc k))
      go (u, i, e) (yes g) = (suc k, le_refl (suc (suc k)), omega arith)
      go (u, i, e) (no g) = (u, omega arith, omega arith)

  -- and none a larger one
  bounded : (k u : ℕ) → u < k → level u ≤ largest t.parent k
  unfolding largest
  bounded zero u h = absurd (omega arith)
  bounded (suc k) u h = go (ℕ_discrete u k) (bounded k u)
    where
      go : Dec (u ≡ k) → (u < k → level u ≤ largest t.parent k) → level u ≤ max (largest t.parent k) (level k)
      go (yes e) less = omega (arith, ap (λ (i : ℕ). level_of t.parent i i) e)
      go (no n) less = omega (arith, less (omega arith))

  pub depth_is : IsDepth t (depth_of t)
  unfolding depth_of
  depth_is = record {
    deepest =
        let (u, h, e) = reached t.n tree.count.0 (le_refl t.n) in
        (u, h, subst (HasLevel t.parent u) (sym e) (level-is u u (le_refl u) h));
    largest = λ u k h l. omega (arith, bounded t.n u h, one-level l (level-is u u (le_refl u) h) refl);
  }

  -- d is the depth exactly if it is that number
  pub depth-exactly : (d : ℕ) → IsDepth t d ↔ (d ≡ depth_of t)
  depth-exactly d = ((λ i. one-depth i depth_is), λ e. subst (IsDepth t) (sym e) depth_is)
