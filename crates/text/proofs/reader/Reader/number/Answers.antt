-- `number` meets its contract: its digits, the spaces after them, and its byte; or the reader stops. Assumes nothing.
use Rattle.text.proofs.Levels.{num-on, num-not, stopped_there}
use Rattle.text.proofs.reader.Reader.number.Goals as goal

pub returns-in_err-n : goal.returns-in_err-n
returns-in_err-n c = rw (stopped_there _ _ _ c.from_residual.ensures.1) (num-not _ c.requires _ _ c.in_err-n.ensures.stops)

pub returns : goal.returns
returns c = num-on _ _ _ c.in_ok-n.ensures.counts _ c.skip.ensures _ c.push.ensures
