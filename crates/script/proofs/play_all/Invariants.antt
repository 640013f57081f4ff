-- `script::play_all` meets its contract: what was printed is written, and what the rest prints comes after it. The measure is what is left of the
-- records. Assumes nothing.
use lib.ListN.{length}
use Rattle.script.proofs.Going.{Going}
use Rattle.script.proofs.play_all.Given as goal

abbrev pub invariant-loop-left : goal.invariant-loop-left
invariant-loop-left l = Going l.initial.s l.records l.initial.out l.initial.n l.s l.rest l.out l.n

abbrev pub decreases-loop-left : goal.decreases-loop-left
decreases-loop-left l = length l.rest
