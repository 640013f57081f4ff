-- `policy::slots_are` meets its contract: the flag says of every slot passed that the role it holds is below the count. Assumes nothing.
use Prim.Native.Nat.{ℕ}
use lib.ListN.{get_or}
use Rattle.logic.specs.Every.{Flag}
use Rattle.policy.specs.Fine.{SlotIs}
use Rattle.policy.proofs.slots_are.Given as goal

abbrev pub invariant-loop-slot : goal.invariant-loop-slot
invariant-loop-slot l = Flag (λ (j : ℕ). SlotIs l.count (get_or l.slots j 0)) l.slot-index l.ok
