-- `shelf::place_fine` meets its contract: the length is judged first; then the bytes up to it and those past it. Assumes nothing.
use Rattle.shelf.proofs.Places.{place-both}
use Rattle.shelf.proofs.place_fine.Goals as goal

pub returns : goal.returns
returns c =
    let a = c.args in
    let right = rw c.stored.ensures at c.in_order-right.ensures in
    place-both _ _ _ a.lens.now a.bytes.now a.k c.from-m.result c.from-m.ensures c.if-m-gt-LONGEST.false
    c.kind_at.ensures _ _ right c.all_zero.ensures
