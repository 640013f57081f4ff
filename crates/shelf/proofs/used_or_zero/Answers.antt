-- `shelf::used_or_zero` meets its contract: the test that it takes by its use. Assumes nothing.
use mathlib.Core.Path.{refl}
use Rattle.logic.specs.Iff.{iff-trans}
use Rattle.shelf.proofs.Places.{one-used, one-unused}
use Rattle.shelf.proofs.used_or_zero.Goals as goal

pub returns-then-used : goal.returns-then-used
returns-then-used c = iff-trans c.fine.ensures (one-used (record { lengths = refl; room = c.requires }) c.if-used.true)

pub returns : goal.returns
returns c = iff-trans c.zero.ensures (one-unused (record { lengths = refl; room = c.requires }) c.if-used.false)
