-- `script::play_records` meets its contract: what was printed is written and fits, and the records before this one are played. The measure is what is
-- left of the window. Assumes nothing.
use native.Mathlib.Omega.{arith}
use Rattle.script.proofs.Going.{going-first, goes}
use Rattle.script.proofs.Windowing.{paused, finished, fits_on}
use Rattle.script.proofs.play_records.Goals as goal

pub loop-s-init : goal.loop-s-init
loop-s-init c = (going-first _ _ _ _, omega arith)

pub returns-in_default : goal.returns-in_default
returns-in_default c =
    let v = c.loop-s.invariant in
    let may = c.may_play.ensures in
    let yes = c.loop-s-test.true in
    finished v.0 v.1 (may.has_room yes) _ (may.has-bytes yes) (λ i. omega (arith, c.type_inv.window i)) c.play_next.new.s _ c.in_default.ensures

pub loop-s-smaller : goal.loop-s-smaller
loop-s-smaller c = (goes c.loop-s.invariant.0 c.in-Some.left c.in-Some.ensures (omega (arith, c.play_next.auto))).0

pub loop-s-preserved : goal.loop-s-preserved
loop-s-preserved c =
    let v = c.loop-s.invariant in
    let room = c.may_play.ensures.has_room c.loop-s-test.true in
    let g = goes v.0 c.in-Some.left c.in-Some.ensures (omega (arith, c.play_next.auto)) in
    (g.1, fits_on v.0 v.1 room c.in-Some.left c.in-Some.ensures)

pub returns : goal.returns
returns c = paused c.loop-s.invariant.0 c.loop-s.invariant.1 _ (c.may_play.ensures.has-to-wait c.loop-s-test.false)
