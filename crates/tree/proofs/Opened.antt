-- What holds of a tree with its levels, wherever it is opened. Assumes nothing.
use Rattle.std.proofs.Common.{◌≡◌, subst}
use Rattle.tree.specs.declared.Tree.{Tree}
use Rattle.tree.specs.declared.Levels.{Levels}
use Rattle.tree.specs.Tree.{Ready}
use Rattle.tree.specs.Grown.{Leveled}

-- the tree and the levels inside are those that a clause sees
pub ready : {t : Tree} {l : Levels} {g : Leveled} → record { tree = t; levels = l } ≡ g → Ready t l → Ready g.tree g.levels
ready e r = subst (λ (v : Leveled). Ready v.tree v.levels) e r
