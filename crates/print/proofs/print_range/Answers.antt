-- `print_range` meets its contract: numbers and signs, one after the other. Assumes nothing.
use Rattle.writing.specs.Laws.{then-written}
use Rattle.print.proofs.Written.{securon-room, open-range-room, first-room, point-room, second-point-room, last-room, close-range-room}
use Rattle.print.proofs.print_range.Goals as goal

pub decimal-a-requires : goal.decimal-a-requires
decimal-a-requires c =
    securon-room _ _ _ c.args.out.now _ c.requires

pub put-b-requires : goal.put-b-requires
put-b-requires c =
    open-range-room _ _ _ _ _ c.requires c.decimal-a.ensures

pub decimal-c-requires : goal.decimal-c-requires
decimal-c-requires c =
    first-room _ _ _ _ _ c.requires c.decimal-a.ensures c.put-b.ensures

pub put-d-requires : goal.put-d-requires
put-d-requires c =
    point-room _ _ _ _ _ c.requires c.decimal-a.ensures c.put-b.ensures c.decimal-c.ensures

pub put-e-requires : goal.put-e-requires
put-e-requires c =
    second-point-room _ _ _ _ _ c.requires c.decimal-a.ensures c.put-b.ensures c.decimal-c.ensures c.put-d.ensures

pub decimal-f-requires : goal.decimal-f-requires
decimal-f-requires c =
    last-room _ _ _ _ _ c.requires c.decimal-a.ensures c.put-b.ensures c.decimal-c.ensures c.put-d.ensures c.put-e.ensures

pub put-requires : goal.put-requires
put-requires c =
    close-range-room _ _ _ _ _ c.requires c.decimal-a.ensures c.put-b.ensures c.decimal-c.ensures c.put-d.ensures
    c.put-e.ensures c.decimal-f.ensures

pub returns : goal.returns
returns c =
    then-written c.decimal-a.ensures
    (then-written c.put-b.ensures
    (then-written c.decimal-c.ensures
    (then-written c.put-d.ensures (then-written c.put-e.ensures (then-written c.decimal-f.ensures c.put.ensures)))))
