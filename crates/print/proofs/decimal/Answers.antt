-- `decimal` meets its contract: one, two or three digits, one after the other. Assumes nothing.
use mathlib.Core.Path.{sym, ap}
use native.Mathlib.Omega.{arith}
use lib.ListN.{length}
use Rattle.writing.specs.Laws.{then-written, same-written}
use Rattle.print.proofs.Written.{decimal-one, decimal-two, decimal-three}
use Rattle.print.proofs.decimal.Goals as goal

pub put-requires : goal.put-requires
put-requires c =
    omega (arith, c.requires, ap length (decimal-one _ c.if-n-lt10.true))

pub returns-then-n-lt10 : goal.returns-then-n-lt10
returns-then-n-lt10 c =
    same-written (sym (decimal-one _ c.if-n-lt10.true)) c.put.ensures

pub put-p-requires : goal.put-p-requires
put-p-requires c =
    omega (arith, c.requires, ap length (decimal-two _ c.if-n-lt10.false c.if-n-lt100.true))

pub put-requires-then-n-lt100 : goal.put-requires-then-n-lt100
put-requires-then-n-lt100 c =
    omega (arith, c.requires, ap length (decimal-two _ c.if-n-lt10.false c.if-n-lt100.true), c.put-p.ensures.next, c.put-p.ensures.long)

pub returns-then-n-lt100 : goal.returns-then-n-lt100
returns-then-n-lt100 c =
    same-written (sym (decimal-two _ c.if-n-lt10.false c.if-n-lt100.true)) (then-written c.put-p.ensures c.put-then-n-lt100.ensures)

pub put-p-requires-2 : goal.put-p-requires-2
put-p-requires-2 c =
    omega (arith, c.requires, ap length (decimal-three _ c.if-n-lt100.false))

pub put-q-requires : goal.put-q-requires
put-q-requires c =
    omega (arith, c.requires, ap length (decimal-three _ c.if-n-lt100.false), c.put-p-2.ensures.next, c.put-p-2.ensures.long)

pub put-requires-2 : goal.put-requires-2
put-requires-2 c =
    omega (
      arith,
      c.requires,
      ap length (decimal-three _ c.if-n-lt100.false),
      c.put-p-2.ensures.next,
      c.put-p-2.ensures.long,
      c.put-q.ensures.next,
      c.put-q.ensures.long,
    )

pub returns : goal.returns
returns c =
    same-written (sym (decimal-three _ c.if-n-lt100.false))
    (then-written c.put-p-2.ensures (then-written c.put-q.ensures c.put-2.ensures))
