-- `answer_piece` meets its contract: the bytes that were passed are answered, and then the next line is. The measure is what is left of the piece.
-- Assumes nothing.
use mathlib.Core.Path.{◌≡◌}
use Prim.Native.Nat.{◌-◌}
use lib.ListN.{length}
use Rattle.turn.specs.Printed.{AnswersFront}
use Rattle.turn.proofs.answer_piece.Given as goal

abbrev pub invariant-loop-used : goal.invariant-loop-used
invariant-loop-used l =
    AnswersFront l.piece l.initial.begun l.initial.out (record { used = l.used; printed = l.printed }) l.begun l.out × (length l.out ≡ length l.initial.out)

abbrev pub decreases-loop-used : goal.decreases-loop-used
decreases-loop-used l = length l.piece - l.used
