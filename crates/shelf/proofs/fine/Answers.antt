-- `shelf::fine` meets its contract: the flag says of every place passed that it is fine. Assumes nothing.
use Rattle.logic.specs.Every.{flag-and}
use Rattle.shelf.proofs.fine.Goals as goal

pub loop-k-preserved : goal.loop-k-preserved
loop-k-preserved c = flag-and c.loop-k.invariant c.place_fine-ok.ensures
