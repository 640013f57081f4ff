-- `policy::all_are` meets its contract: the flag says of every role or file passed that it is fine or zero. Assumes nothing.
use Prim.Native.Nat.{ℕ}
use lib.Dec.{ltb}
use lib.ListN.{get_or}
use Rattle.logic.specs.Every.{Flag}
use Rattle.policy.specs.Fine.{OneIs}
use Rattle.policy.proofs.all_are.Given as goal

abbrev pub invariant-loop-i : goal.invariant-loop-i
invariant-loop-i g l =
    let k = g.R.Row.shelves in
    Flag (λ (j : ℕ). OneIs k (ltb j l.count) l.size.n l.size.depth.0 (get_or l.rows j k.off)) l.i l.ok
