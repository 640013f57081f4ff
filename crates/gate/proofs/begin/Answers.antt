-- `gate::begin` meets its contract: the state is one that was seen so. Assumes nothing.
use Rattle.gate.proofs.begin.Goals as goal

pub returns : goal.returns
returns c = c.begin_seen.ensures 0 _ c.examine-seen.ensures
