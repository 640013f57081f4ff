-- `gate::bypass` meets its contract: the state is one that was seen so. Assumes nothing.
use Rattle.gate.proofs.bypass.Goals as goal

pub returns : goal.returns
returns c = c.bypass_seen.ensures _ c.examine-seen.ensures
