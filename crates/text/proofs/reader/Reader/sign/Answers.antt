-- `sign` meets its contract: where the sign stands, the scan goes past it and the spaces after it; else it stops. Assumes nothing.
use Rattle.text.proofs.Levels.{sign-past, sign-not, stopped_there}
use Rattle.text.proofs.reader.Reader.sign.Goals as goal

pub returns-in_err-byte : goal.returns-in_err-byte
returns-in_err-byte c = rw (stopped_there _ _ _ c.from_residual.ensures.1) (sign-not _ _ c.requires _ _ c.in_err-byte.ensures.stops)

pub returns : goal.returns
returns c = sign-past _ _ _ c.in_ok-byte.ensures.passes.0 _ c.skip.ensures
