-- `image::read_rows` meets its contract: the rows passed are read, and the others are zero. Assumes nothing.
use Rattle.std.proofs.Common.{zero-le, arith}
use Rattle.std.proofs.Common.{rules}
use Rattle.image.proofs.Rows.{rows-begin, rows_more, rows-refused, rows_all}
use Rattle.image.proofs.read_rows.Goals as goal

pub loop-row-init : goal.loop-row-init
loop-row-init g c =
    let w = rows-begin _ _ _ _ _ c.requires.zero c.requires.few in
    (zero-le, w.0, w.1)

pub returns-in_err-read : goal.returns-in_err-read
returns-in_err-read g c =
    let w = c.loop-row.invariant in
    search (rules, rows-refused _ _ _ _ _ w.2 (omega arith) _ c.in_err-read.ensures)

pub loop-row-preserved : goal.loop-row-preserved
loop-row-preserved g c =
    let w = c.loop-row.invariant in
    (omega arith, w.1, rows_more _ _ _ _ _ w.2 (omega arith) c.in_ok-read.ensures)

pub returns : goal.returns
returns g c =
    let w = c.loop-row.invariant in
    rows_all _ _ _ _ _ w.2 (omega arith) c.requires.zero c.requires.few
