-- `image::read_tree` meets its contract: the parents of the securons passed are read, the others zero. Assumes nothing.
use Rattle.std.proofs.Common.{rules}
use Rattle.std.proofs.Common.{zero-le, arith}
use Rattle.image.proofs.Rows.{grows_none, grows-room, grows-more, grows-refused, grows-tree}
use Rattle.image.proofs.read_tree.Goals as goal

pub loop-k-init : goal.loop-k-init
loop-k-init c = (zero-le, grows-room c.args.n c.args.image.now c.requires, grows_none _ _ c.requires)

pub returns-in_err-read : goal.returns-in_err-read
returns-in_err-read c =
    let w = c.loop-k.invariant in
    search (rules, grows-refused _ _ w.2 (omega arith) c.in_err-read.ensures)

pub loop-k-preserved : goal.loop-k-preserved
loop-k-preserved c =
    let w = c.loop-k.invariant in
    (omega arith, w.1, grows-more _ _ w.2 (omega arith) c.in_ok-read.ensures)

pub returns : goal.returns
returns c =
    let w = c.loop-k.invariant in
    grows-tree _ _ w.2 c.requires (omega arith)
