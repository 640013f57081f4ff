-- `put` meets its contract: one byte is set, and all others stay. Assumes nothing.
use Rattle.writing.specs.Laws.{one_written}
use Rattle.writing.proofs.put.Goals as goal

pub returns : goal.returns
returns c = one_written _ _ _ c.requires
