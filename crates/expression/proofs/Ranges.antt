-- Who is in a range, by the levels at hand. Assumes nothing.
use mathlib.Core.Path.{◌≡◌, refl, subst}
use mathlib.Core.Bool.{Bool, true}
use mathlib.Core.Logic.{◌↔◌}
use Prim.Native.Nat.{ℕ, ◌<◌, ◌≤◌}
use native.Mathlib.Omega.{arith}
use Rattle.logic.specs.Iff.{iff-trans}
use Rattle.tree.specs.declared.Tree.{Tree}
use Rattle.tree.specs.declared.Levels.{Levels}
use Rattle.tree.specs.Grown.{Leveled}
use Rattle.tree.specs.Tree.{Related, level_in, Ready}
use Rattle.tree.specs.Laws.{one-level}
use Rattle.expression.specs.Expression.{Between}

pub between-iff : {t : Tree} {l : Levels} → Ready t l → (s i j u : ℕ) → u < t.n
    → ((i ≤ level_in l u) × (level_in l u ≤ j) × Related t.parent u s) ↔ Between t s i j u
between-iff {t} {l} ready s i j u h = (
  (λ w. record { present = h; related = w.2; level = level_in l u; has-level = ready.levels.level u h; from-i = w.0; to_j = w.1 }),
  (λ b. let e = one-level b.has-level (ready.levels.level u h) refl in (omega (arith, b.from-i), omega (arith, b.to_j), b.related)),
)

-- of a tree with its levels that stands open
module _ {t : Tree} {l : Levels} {g : Leveled} (open_is : record { tree = t; levels = l } ≡ g) (ready : Ready t l) {s i j u : ℕ} (present : u < g.tree.n) where
  -- where the level lies in the range, u is in it exactly if it is related
  pub level-in : {b : Bool} → i ≤ level_in l u → level_in l u ≤ j → (b ≡ true) ↔ Related t.parent u s → (b ≡ true) ↔ Between g.tree s i j u
  level-in {b} low high r = subst (λ (v : Leveled). u < v.tree.n → (b ≡ true) ↔ Between v.tree s i j u) open_is
      (λ h. iff-trans ((λ e. (low, high, r.0 e)), λ w. r.1 w.2) (between-iff ready s i j u h)) present

  -- where it doesn't, u is not
  pub level-out : (i ≤ level_in l u → level_in l u ≤ j → ⊥) → Between g.tree s i j u → ⊥
  level-out n = subst (λ (v : Leveled). u < v.tree.n → Between v.tree s i j u → ⊥) open_is
      (λ h b. let w = (between-iff ready s i j u h).1 b in n w.0 w.1) present
