-- A tree with its levels, as one value. Definitions only.
use Rattle.tree.specs.declared.Tree.{Tree}
use Rattle.tree.specs.declared.Levels.{Levels}

pub record Leveled : Type 0 where
  pub tree : Tree
  pub levels : Levels
