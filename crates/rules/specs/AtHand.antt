-- A role and a file at hand, in order over a tree. A device of the proofs.
use Rattle.std.specs.Prelude.{List, ℕ}
use Rattle.tree.specs.Grown.{Leveled}
use Rattle.expression.specs.Bytes.{Right}
use Rattle.expression.specs.declared.Kind.TheVariants.{Privilege}
use Rattle.policy.specs.declared.Role.{Role}
use Rattle.policy.specs.declared.File.{File}
use Rattle.policy.specs.State.{IsMode}
use Rattle.policy.specs.WellFormed.{RoleInOrder, FileInOrder}

-- a role and a file in order over a tree
pub record AtHand (g : Leveled) (r : Role) (f : File) : Type 0 where
  pub role : RoleInOrder g.tree.n g.levels.depth.0 r
  pub file : FileInOrder g.tree.n g.levels.depth.0 f

-- with a mode, and expressions for E and G that are right over the tree
pub record ToStore (t : Leveled) (r : Role) (f : File) (mode : ℕ) (e g : List ℕ) : Type 0 where
  pub at-hand : AtHand t r f
  pub is-mode : IsMode mode
  pub e-right : Right Privilege t.tree.n t.levels.depth.0 e
  pub g-right : Right Privilege t.tree.n t.levels.depth.0 g
