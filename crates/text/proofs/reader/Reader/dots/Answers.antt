-- `dots` meets its contract: the first dot leads the scan between two dots, and the second is a sign. Assumes nothing.
use Rattle.text.proofs.Levels.{dots-on, dots-not, stopped_there}
use Rattle.text.proofs.reader.Reader.dots.Goals as goal

pub returns-in_err-byte : goal.returns-in_err-byte
returns-in_err-byte c = rw (stopped_there _ _ _ c.from_residual.ensures.1) (dots-not _ c.requires _ _ c.in_err-byte.ensures.stops)

pub returns : goal.returns
returns c = dots-on _ c.requires _ c.in_ok-byte.ensures.passes.0 _ c.sign.ensures
