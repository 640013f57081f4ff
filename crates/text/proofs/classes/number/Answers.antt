-- `number` meets its contract: the table is the one that the rule makes, which antt computes entry by entry. Assumes nothing.
use mathlib.Core.Path.{◌≡◌, ap, ◌∙◌}
use mathlib.Core.List.{List, [], ◌∷◌}
use Prim.Native.Nat.{ℕ, zero, suc, ◌+◌, ◌<◌}
use native.Mathlib.Nat.{zero-add}
use native.Mathlib.Omega.{arith}
use lib.ListN.{get_or}
use Rattle.text.specs.Classes.{class_of}
use Rattle.text.proofs.classes.number.Goals as goal

-- f at i, at i + 1 and so on: n entries
from : (ℕ → ℕ) → ℕ → ℕ → List ℕ
from f i zero = []
from f i (suc n) = f i ∷ from f (suc i) n

-- the rule at each entry of the table that the rule makes
listed : (f : ℕ → ℕ) (n i k : ℕ) → k < n → get_or (from f i n) k 0 ≡ f (i + k)
unfolding from
listed f zero i k h = absurd (omega arith)
listed f (suc n) i zero h = ap f (omega arith)
listed f (suc n) i (suc k) h = listed f n (suc i) k (omega arith) ∙ ap f (omega arith)

pub returns : goal.returns
unfolding from class_of
returns c = listed class_of 256 0 c.from.result (omega (arith, c.from.ensures, c.ranges.b.fits)) ∙ ap class_of (zero-add c.from.result ∙ c.from.ensures)
