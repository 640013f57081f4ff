-- `turned` meets its contract: what is kept of a line has its answer and bytes. Assumes nothing.
use Rattle.turn.proofs.Laws.{prints-it}
use Rattle.turn.proofs.turned.Goals as goal

pub returns : goal.returns
returns c =
    prints-it c.args.line.now _ _ _ c.text.ensures _ c.turn-a.ensures.decides c.turn-a.ensures.leaves _
    c.given.ensures.grant c.given.ensures.refusal _ _ _ c.print.ensures
