-- `tree::Tree::levels` meets its contract: the levels of the securons passed stand in the array, and the largest is kept. Assumes nothing.
use Prim.Native.Nat.{◌<◌, ◌≤◌, ◌-◌}
use Rattle.tree.proofs.Rising.{Rising}
use Rattle.tree.proofs.Tree.levels.Given as goal

abbrev pub invariant-loop-u : goal.invariant-loop-u
invariant-loop-u l = (0 < l.u) × (l.u ≤ l.n) × Rising l.self.parent l.of l.depth.0 l.u

abbrev pub decreases-loop-u : goal.decreases-loop-u
decreases-loop-u l = l.n - l.u
