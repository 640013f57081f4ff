-- What a slot's number says. Assumes nothing.
use mathlib.Core.Path.{◌≡◌, refl}
use mathlib.Core.Logic.{◌↔◌}
use Prim.Native.Nat.{ℕ, zero, suc, ◌≤◌}
use native.Mathlib.Omega.{arith}
use Rattle.policy.specs.Whole.{free-held}
use Rattle.policy.specs.Fine.{SlotIs}

-- a held role is below the count exactly if the number is at most the count
pub slot-within : (count x : ℕ) → (x ≤ count) ↔ SlotIs count x
slot-within count zero = ((λ _ r e. absurd (free-held e)), λ _. omega arith)
slot-within count (suc k) = ((λ h r e. let same : k ≡ r = cc in omega arith), λ h. let l = h k refl in omega arith)
