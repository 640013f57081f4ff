-- `expression::set_of` meets its contract: what was read is in the set, and what is to follow will be.
-- The measure is what is left of the bytes. Assumes nothing.
use lib.ListN.{length}
use Rattle.expression.proofs.Gathering.{Gathered}
use Rattle.expression.proofs.set_of.Given as goal

abbrev pub invariant-loop-rest : goal.invariant-loop-rest
invariant-loop-rest l = Gathered l.g.tree l.b l.r.has l.rest

abbrev pub decreases-loop-rest : goal.decreases-loop-rest
decreases-loop-rest l = length l.rest
