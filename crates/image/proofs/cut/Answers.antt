-- `image::cut` meets its contract: the scan of the bytes that are there says it. Assumes nothing.
use native.Mathlib.Omega.{arith}
use Rattle.image.proofs.Stated.{cut-whole, cut_short, cut-fault}
use Rattle.image.proofs.cut.Goals as goal

pub overflow_add-at : goal.overflow_add-at
overflow_add-at c =
    let h = c.requires in
    let w = cut-fault _ _ _ c.args.m c.args.size.some c.args.image.now c.args.at h.0 h.1 c.in-Fault.is c.scan.ensures in
    omega (arith, w.0, c.well_formed)

pub returns-in-Whole : goal.returns-in-Whole
returns-in-Whole c =
    let h = c.requires in
    rw c.refusal.ensures (cut-whole _ _ _ c.args.m c.args.size.some c.args.image.now c.args.at h.0 h.1 c.in-Whole.is c.scan.ensures)

pub returns-in-Short : goal.returns-in-Short
returns-in-Short c =
    let h = c.requires in
    rw c.refusal-in-Short.ensures (cut_short _ _ _ c.args.m c.args.size.some c.args.image.now c.args.at h.0 h.1 c.in-Short.is c.scan.ensures)

pub returns-in-Fault : goal.returns-in-Fault
returns-in-Fault c =
    let h = c.requires in
    let w = cut-fault _ _ _ c.args.m c.args.size.some c.args.image.now c.args.at h.0 h.1 c.in-Fault.is c.scan.ensures in
    rw c.refusal-in-Fault.ensures w.1
