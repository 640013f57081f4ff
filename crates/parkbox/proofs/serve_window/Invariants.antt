-- `serve_window` meets its contract: what was printed is written and fits, and the records before this one are served. The measure is what is left of the
-- window. Assumes nothing.
use lib.ListN.{length}
use Rattle.parkbox.proofs.Underway.{Underway}
use Rattle.parkbox.proofs.serve_window.Given as goal

abbrev pub invariant-loop-size : goal.invariant-loop-size
invariant-loop-size l = Underway l.initial.b l.window l.initial.out l.b l.rest l.out l.n

abbrev pub decreases-loop-size : goal.decreases-loop-size
decreases-loop-size l = length l.rest
