-- `records::read_record` meets its contract: no byte, no line of the table, or the fields of that line. Assumes nothing.
use Rattle.records.specs.Places.{front-walked}
use Rattle.records.proofs.read_record.Goals as goal

pub returns : goal.returns
returns c =
    let front = c.in_ok-code.ensures.item.3 in
    front-walked _ _ _ _ front.0 (front.1 0) c.in_ok-shapes_of.ensures.0 c.walk.ensures
