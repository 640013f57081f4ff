-- `script::play_records` meets its contract: what was printed is written and fits, and the records before this one are played. The measure is what is
-- left of the window. Assumes nothing.
use Rattle.std.proofs.Common.{◌≤◌, length}
use Rattle.script.proofs.Going.{Going}
use Rattle.script.proofs.play_records.Given as goal

abbrev pub invariant-loop-s : goal.invariant-loop-s
invariant-loop-s l = Going l.initial.s l.window l.initial.out 0 l.s l.rest l.out l.n × (l.n ≤ length l.initial.out)

abbrev pub decreases-loop-s : goal.decreases-loop-s
decreases-loop-s l = length l.rest
