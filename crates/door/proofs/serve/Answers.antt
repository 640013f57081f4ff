-- `serve` meets its contract: no record, a load, a print, or any other request. Assumes nothing.
use mathlib.Core.Path.{refl}
use Rattle.door.specs.Calls.{alone-inside, alone-code, serve-none, serve-load, serve-print, serve-other}
use Rattle.door.proofs.serve.Goals as goal

pub returns-in_default : goal.returns-in_default
returns-in_default c = serve-none _ _ _ c.in_default.ensures _ c.of.ensures refl

pub field_of-requires : goal.field_of-requires
field_of-requires c = alone-inside _ _ c.in-Some.ensures 0

pub returns-then-found-eq-LOAD : goal.returns-then-found-eq-LOAD
returns-then-found-eq-LOAD c =
    let loads = rw c.field_of.ensures at c.load_box.ensures.loads in
    serve-load _ _ _ _ c.in-Some.ensures c.if-found-eq-LOAD.true _ _ loads c.load_box.ensures.small

pub seen_in-seen-requires : goal.seen_in-seen-requires
seen_in-seen-requires c = alone-inside _ _ c.in-Some.ensures

pub field_of-requires-then-found-eq-PRINT : goal.field_of-requires-then-found-eq-PRINT
field_of-requires-then-found-eq-PRINT c = alone-inside _ _ c.in-Some.ensures 0

pub returns-then-found-eq-PRINT : goal.returns-then-found-eq-PRINT
returns-then-found-eq-PRINT c =
    let print = rw c.field_of-then-found-eq-PRINT.ensures at (c.print_record.ensures _ _ _ c.seen_in-seen.ensures) in
    serve-print _ _ _ _ c.in-Some.ensures c.if-found-eq-PRINT.true _ _ print

pub effect_in-effect-requires : goal.effect_in-effect-requires
effect_in-effect-requires c = (alone-code _ _ c.in-Some.ensures, alone-inside _ _ c.in-Some.ensures, (_, c.seen_in-seen.ensures))

pub returns : goal.returns
returns c =
    let tells = c.effect_in-effect.ensures _ c.seen_in-seen.ensures in
    let served = serve-other _ _ _ _ c.in-Some.ensures c.if-found-eq-LOAD.false c.if-found-eq-PRINT.false _ tells in
    rw c.store.ensures served
