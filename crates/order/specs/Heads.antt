-- How far the term at the front of some bytes stands, by the functions inside. A device of the proofs.
use Rattle.std.specs.Prelude.{◌≡◌, List, ◌++◌, ◌↔◌, ℕ, suc, ◌<◌, ◌≤◌, length, take}
use Rattle.std.specs.declared.result.Result.{Result}
use Rattle.std.specs.declared.result.Result.TheVariants.{Ok, Err}
use Rattle.answer.specs.Faults.{FaultAt}
use Rattle.expression.specs.declared.Kind.{Kind}
use Rattle.expression.specs.Bytes.{MayOR}
use Rattle.expression.specs.Scan.{Rest}
use Rattle.order.specs.declared.Wrong.{Wrong}

-- at the front of the bytes l stands a whole term of so many bytes, after which the other expressions follow
pub record WholeTerm (kind : Kind) (n d : ℕ) (l : List ℕ) (good : ℕ) : Type 0 where
  pub within : good ≤ length l
  pub some : 0 < good
  pub full : (k : ℕ) (r : List ℕ) → Rest kind n d (suc k) (take good l ++ r) ↔ Rest kind n d k r

-- or the first byte that can't stand is at a place
abbrev pub Head : Kind → ℕ → ℕ → List ℕ → Result ℕ Wrong → Type 0
Head kind n d l (Ok good) = WholeTerm kind n d l good
Head kind n d l (Err w) = (k : ℕ) → FaultAt (Rest kind n d (suc k)) l w.0

-- x is no operator that may stand
abbrev pub NoOperator : Kind → ℕ → Type 0
NoOperator kind x = (x ≡ 3 → ⊥) × (x ≡ 4 → MayOR kind → ⊥)
