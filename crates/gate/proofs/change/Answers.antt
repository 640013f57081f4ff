-- `gate::change` meets its contract: the state is one that was seen so. Assumes nothing.
use Rattle.gate.proofs.change.Goals as goal

pub returns : goal.returns
returns c = c.change_seen.ensures _ c.examine-seen.ensures
