-- `tree::below` meets its contract: s is above u. Assumes nothing.
use Rattle.tree.proofs.below.Goals as goal

pub returns : goal.returns
returns c = c.above.ensures
