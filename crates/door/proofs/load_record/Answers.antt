-- `load_record` meets its contract: the bytes are the record of a load, or they are not. Assumes nothing.
use Rattle.door.specs.Calls.{alone-inside, load-none, load-other, load-done}
use Rattle.door.proofs.load_record.Goals as goal

pub returns-in_default : goal.returns-in_default
returns-in_default c = load-none _ _ _ c.in_default.ensures c.of.ensures

pub returns-then-found-ne-LOAD : goal.returns-then-found-ne-LOAD
returns-then-found-ne-LOAD c = load-other _ _ _ _ c.in-Some.ensures c.if-found-ne-LOAD.true c.of-then-found-ne-LOAD.ensures

pub field_of-requires : goal.field_of-requires
field_of-requires c = alone-inside _ _ c.in-Some.ensures 0

pub returns : goal.returns
returns c =
    let loads = rw c.field_of.ensures at c.load_box.ensures.loads in
    load-done _ _ _ _ c.in-Some.ensures c.if-found-ne-LOAD.false _ loads
