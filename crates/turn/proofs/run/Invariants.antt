-- `run` is safe and ends: what is left of a piece lies within it. Assumes nothing.
use Rattle.std.proofs.Common.{◌≤◌}
use Rattle.turn.proofs.run.Given as goal

abbrev pub invariant-loop : goal.invariant-loop
invariant-loop g l = (l.left.start ≤ l.left.end) × (l.left.end ≤ 65536)
