-- `image::all_there` meets its contract: the scan of the stated bytes says it. Assumes nothing.
use native.Mathlib.Omega.{arith}
use Rattle.image.proofs.Stated.{all_whole, all_short, all-fault}
use Rattle.image.proofs.all_there.Goals as goal

pub overflow_add-at : goal.overflow_add-at
overflow_add-at c =
    let w = all-fault _ _ _ c.args.m c.args.size.some c.args.image.now c.args.at c.requires c.in-Fault.is c.scan.ensures in
    omega (arith, w.0, c.requires, c.well_formed)

pub returns-in-Whole : goal.returns-in-Whole
returns-in-Whole c =
    all_whole _ _ _ c.args.m c.args.size.some c.args.image.now c.args.at c.requires c.in-Whole.is c.scan.ensures

pub returns-in-Short : goal.returns-in-Short
returns-in-Short c =
    rw c.refusal.ensures (all_short _ _ _ c.args.m c.args.size.some c.args.image.now c.args.at c.requires c.in-Short.is c.scan.ensures)

pub returns-in-Fault : goal.returns-in-Fault
returns-in-Fault c =
    let w = all-fault _ _ _ c.args.m c.args.size.some c.args.image.now c.args.at c.requires c.in-Fault.is c.scan.ensures in
    rw c.refusal-in-Fault.ensures w.1
