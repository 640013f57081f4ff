-- `shelf::all_zero` meets its contract: the flag says of every byte passed that it is zero. Assumes nothing.
use mathlib.Core.Path.{◌≡◌}
use Prim.Native.Nat.{ℕ}
use lib.ListN.{get_or}
use Rattle.logic.specs.Every.{Flag}
use Rattle.shelf.proofs.all_zero.Given as goal

abbrev pub invariant-loop-x : goal.invariant-loop-x
invariant-loop-x l = Flag (λ (k : ℕ). get_or l.s k 0 ≡ 0) l.x-index l.none
