-- `order::scan` meets its contract: at the place reached, `due` whole expressions are to follow.
-- The measure is what is left of the bytes. Assumes nothing.
use mathlib.Core.Path.{◌≡◌}
use mathlib.Core.Bool.{true}
use mathlib.Core.Logic.{◌↔◌}
use Prim.Native.Nat.{◌-◌}
use lib.ListN.{length}
use Rattle.expression.specs.declared.Kind.{Kind}
use Rattle.expression.specs.Bytes.{MayOR}
use Rattle.order.proofs.Scanning.{At}
use Rattle.order.proofs.scan.Given as goal

abbrev pub invariant-loop-at : goal.invariant-loop-at
invariant-loop-at l = (kind : Kind) → (l.or ≡ true) ↔ MayOR kind → At kind l.size.n l.size.depth.0 l.b l.due l.at

abbrev pub decreases-loop-at : goal.decreases-loop-at
decreases-loop-at l = length l.b - l.at
