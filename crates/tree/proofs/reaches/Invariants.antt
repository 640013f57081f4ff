-- `tree::reaches` meets its contract: from where the walk stands the target is reached exactly if it is from the start.
-- The measure is the number at which the walk stands. Assumes nothing.
use mathlib.Core.Logic.{◌↔◌}
use Rattle.tree.specs.Tree.{Reaches, Climbs}
use Rattle.tree.proofs.reaches.Given as goal

abbrev pub invariant-loop-at : goal.invariant-loop-at
invariant-loop-at l = Climbs l.parent l.at × (Reaches l.parent l.initial.at l.target ↔ Reaches l.parent l.at l.target)

abbrev pub decreases-loop-at : goal.decreases-loop-at
decreases-loop-at l = l.at
