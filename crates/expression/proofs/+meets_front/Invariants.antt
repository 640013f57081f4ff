-- `expression::meets_front` meets its contract: a term is tested, and an operator joins the answers on its operands.
-- The measure is the number of the remaining bytes. Assumes nothing.
use lib.ListN.{length}
use Rattle.expression.proofs.+meets_front.Given as goal

abbrev pub decreases-meets_front : goal.decreases-meets_front
decreases-meets_front l = length l.rest.now
