-- `serve_window` meets its contract: what was printed is written and fits, and the records before this one are served. The measure is what is left of the
-- window. Assumes nothing.
use mathlib.Core.Path.{refl}
use mathlib.Core.Bool.{not}
use native.Mathlib.Omega.{arith}
use Rattle.parkbox.proofs.Underway.{record_made, underway-first, some-left, none-left, rest-bytes, served-on, waiting, over-here}
use Rattle.parkbox.proofs.serve_window.Goals as goal

pub loop-size-init : goal.loop-size-init
loop-size-init c = underway-first _ _ _

pub returns-in_default : goal.returns-in_default
returns-in_default c =
    let g = c.loop-size.invariant in
    let may = c.may_play.ensures in
    let yes = c.loop-size-test.true in
    let e = c.is_empty.result in
    let some = some-left c.loop-size.rest.now e c.is_empty.ensures in
    let none = none-left c.loop-size.rest.now e c.is_empty.ensures in
    let bytes = rest-bytes g (λ i. omega (arith, c.type_inv.window i)) in
    over-here g _ (may.has-bytes yes) bytes c.in_default.ensures (not e) some none (may.has_room yes) c.tell_last-n.ensures

pub loop-size-preserved : goal.loop-size-preserved
loop-size-preserved c =
    let g = c.loop-size.invariant in
    let size = c.in-Some.ensures in
    served-on g size (record_made refl size.stands c.serve-served.ensures) c.print-n.ensures c.print-n.auto.out

pub returns : goal.returns
returns c = waiting c.loop-size.invariant _ (c.may_play.ensures.has-to-wait c.loop-size-test.false)
