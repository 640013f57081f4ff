-- `answer_piece` meets its contract: the bytes that were passed are answered, and then the next line is. The measure is what is left of the piece.
-- Assumes nothing.
use mathlib.Core.Path.{refl}
use native.Mathlib.Omega.{arith}
use Rattle.turn.proofs.Laws.{front-none, then-lent}
use Rattle.turn.proofs.answer_piece.Goals as goal

pub loop-used-init : goal.loop-used-init
loop-used-init c = (front-none _ _ _, refl)

pub loop-used-preserved : goal.loop-used-preserved
loop-used-preserved c =
    let inv = c.loop-used.invariant in
    (then-lent inv.0 c.answer_line-next.ensures.0, omega (arith, inv.1))
