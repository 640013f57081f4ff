-- `script::play_all` meets its contract: what was printed is written, and what the rest prints comes after it. The measure is what is left of the
-- records. Assumes nothing.
use native.Mathlib.Omega.{arith}
use Rattle.script.proofs.Going.{going-first, stops, goes}
use Rattle.script.proofs.play_all.Goals as goal

pub loop-left-init : goal.loop-left-init
loop-left-init c = going-first _ _ _ _

pub loop-left-smaller : goal.loop-left-smaller
loop-left-smaller c = (goes c.loop-left.invariant c.in-Some.left c.in-Some.ensures (omega (arith, c.play_next.auto))).0

pub loop-left-preserved : goal.loop-left-preserved
loop-left-preserved c = (goes c.loop-left.invariant c.in-Some.left c.in-Some.ensures (omega (arith, c.play_next.auto))).1

pub returns : goal.returns
returns c = stops c.loop-left.invariant c.play_next.new.s c.in_default.ensures
