-- `answer_line` meets its contract: by whether the line has ended. Assumes nothing.
use native.Mathlib.Omega.{arith}
use Rattle.lines.specs.Laws.{collects-some}
use Rattle.turn.proofs.Laws.{line-answered, line_kept}
use Rattle.turn.proofs.answer_line.Goals as goal

pub returns-in-Some : goal.returns-in-Some
returns-in-Some c =
    let C = rw c.in-Some.is at c.collect.ensures in
    (line-answered C c.turned-printed.ensures (omega (arith, c.turned-printed.auto)) c.clear.ensures.begins, collects-some C)

pub returns-in-None : goal.returns-in-None
returns-in-None c = (line_kept (rw c.in-None.is at c.collect.ensures), c.requires.0)
