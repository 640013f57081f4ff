-- `print_front` ends: the measure is the number of the remaining bytes. Assumes nothing.
use lib.ListN.{length}
use Rattle.print.proofs.+print_front.Given as goal

abbrev pub decreases-print_front : goal.decreases-print_front
decreases-print_front l = length l.rest.now
