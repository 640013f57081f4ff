-- `shelf::copy` meets its contract: the bytes passed are those of x. Assumes nothing.
use Rattle.std.proofs.Common.{◌≡◌, ℕ, ◌<◌, length, get_or}
use Rattle.shelf.proofs.copy.Given as goal

abbrev pub invariant-loop-k : goal.invariant-loop-k
invariant-loop-k l =
    record {
      long : length l.to ≡ length l.x;
      passed : (u : ℕ) → u < l.k → get_or l.to u 0 ≡ get_or l.x u 0;
    }
