-- `records::read_alone` meets its contract: none stands there, bytes follow it, or none do. Assumes nothing.
use Rattle.records.specs.Places.{alone-none, alone-not}
use Rattle.records.proofs.read_alone.Goals as goal

pub returns-in_err-found : goal.returns-in_err-found
returns-in_err-found c = rw c.from_residual.ensures (alone-none _ c.in_err-found.ensures)

pub returns-then-found-bytes : goal.returns-then-found-bytes
returns-then-found-bytes c = alone-not _ _ c.in_ok-found.ensures c.if-found-bytes.true
