-- `securon::SecuronSet::union` meets its contract: the marks passed have the other's added, and the rest stand as they were. Assumes nothing.
use Rattle.std.proofs.Common.{◌≡◌, false, ◌||◌, ℕ, ◌<◌, ◌≤◌, length, get_or}
use Rattle.securon.specs.Sets.{set_room}
use Rattle.securon.proofs.SecuronSet.union.Given as goal

abbrev pub invariant-loop-k : goal.invariant-loop-k
invariant-loop-k l =
    record {
      long : length l.mark-items ≡ set_room;
      passed : (u : ℕ) → u < l.k → get_or l.mark-items u false ≡ (get_or l.fn.self.has u false || get_or l.more.has u false);
      left : (u : ℕ) → l.k ≤ u → get_or l.mark-items u false ≡ get_or l.fn.self.has u false;
    }
