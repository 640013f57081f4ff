-- `image::read_shelf` meets its contract: the places passed are read, and the shelf holds them. Assumes nothing.
use native.Mathlib.Omega.{arith}
use Rattle.std.proofs.Common.{rules}
use Rattle.image.proofs.Shelf.{passed_none, passed-lengths, passed-room, passed-more, passed-refused, passed-all}
use Rattle.image.proofs.read_shelf.Goals as goal

pub loop-k-init : goal.loop-k-init
loop-k-init c =
    let p = passed_none _ _ _ _ c.requires in
    (omega arith, passed-lengths _ _ _ _ p, p)

pub read_part-requires : goal.read_part-requires
read_part-requires c =
    let w = c.loop-k.invariant in
    (omega (arith, w.1, passed-lengths _ _ _ _ w.2), omega (arith, w.1, passed-room _ _ _ _ w.2))

pub returns-in_err-next : goal.returns-in_err-next
returns-in_err-next c =
    let w = c.loop-k.invariant in
    search (rules, passed-refused _ _ _ _ w.2 (omega (arith, w.1)) c.kind_at.ensures _ c.in_err-next.ensures)

pub loop-k-preserved : goal.loop-k-preserved
loop-k-preserved c =
    let w = c.loop-k.invariant in
    (omega (arith, w.1), w.1, passed-more _ _ _ _ w.2 (omega (arith, w.1)) c.kind_at.ensures _ c.in_ok-next.ensures)

pub returns : goal.returns
returns c = let w = c.loop-k.invariant in passed-all _ _ _ _ w.2 (omega (arith, w.0, w.1))
