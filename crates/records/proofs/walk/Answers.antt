-- `records::walk` meets its contract. The loop's invariant: the first i fields stand before the place, and what comes from there decides. Assumes nothing.
use native.Mathlib.Omega.{arith}
use Rattle.records.specs.Places.{walk_begins, walk-stops, walk-goes, walk_ends, shape-next}
use Rattle.records.proofs.walk.Goals as goal

pub loop-i-init : goal.loop-i-init
loop-i-init c = walk_begins _ _ c.requires.0

pub returns-in_err-span : goal.returns-in_err-span
returns-in_err-span c =
    let next = shape-next c.args.shapes.now c.loop-i.i c.loop-i-test.true in
    rw c.from_residual.ensures (walk-stops _ _ _ _ _ c.loop-i.invariant _ next c.in_err-span.ensures)

pub loop-i-preserved : goal.loop-i-preserved
loop-i-preserved c =
    let next = shape-next c.args.shapes.now c.loop-i.i c.loop-i-test.true in
    walk-goes _ _ _ _ _ c.loop-i.invariant _ next _ c.in_ok-span.ensures (omega (arith, c.requires.1, c.loop-i-test.true))

pub returns : goal.returns
returns c = walk_ends _ _ _ _ _ _ c.loop-i.invariant c.loop-i-test.false
