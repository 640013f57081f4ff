-- `shelf::copy` meets its contract: the bytes passed are those of x. Assumes nothing.
use Rattle.std.proofs.Common.{arith}
use Rattle.std.proofs.lemmas.Grind.{same_number_lists}
use Rattle.shelf.proofs.copy.Goals as goal

pub returns : goal.returns
returns c =
    let w = c.loop-k.invariant in
    same_number_lists _ _ w.long (λ u h. w.passed u (omega arith))
