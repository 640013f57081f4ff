-- `gate::end` meets its contract: the state is one that was seen so. Assumes nothing.
use Rattle.gate.proofs.end.Goals as goal

pub returns : goal.returns
returns c = c.end_seen.ensures 0 _ c.examine-seen.ensures
