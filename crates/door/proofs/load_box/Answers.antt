-- `door::load_box` meets its contract: an answer to a load is small enough for one number. Assumes nothing.
use native.Mathlib.Omega.{arith}
use Rattle.image.specs.Laws.{load-place}
use Rattle.door.proofs.load_box.Goals as goal

pub returns-clause-small : goal.returns-clause-small
returns-clause-small c = omega (arith, load-place _ _ _ c.load-loaded.ensures)
