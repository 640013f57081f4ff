-- `expression::with_range` meets its contract: the members of the range that were passed have been added. Assumes nothing.
use Rattle.securon.specs.Laws.{Joined}
use Rattle.expression.specs.Expression.{Between}
use Rattle.expression.proofs.with_range.Given as goal

abbrev pub invariant-loop-u : goal.invariant-loop-u
invariant-loop-u l = let range = l.range in Joined l.initial.r.has (Between l.g.tree range.s.0 range.i.0 range.j.0) l.r.has l.u
