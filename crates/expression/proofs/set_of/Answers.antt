-- `expression::set_of` meets its contract: what was read is in the set, and what is to follow will be.
-- The measure is what is left of the bytes. Assumes nothing.
use Rattle.std.proofs.Common.{rules, ◌≡◌, ◌<◌, ◌≤◌, length}
use Rattle.expression.specs.Scan.{from}
use Rattle.expression.proofs.Gathering.{Gathered, gathered-start, gathered-end, gathered-and, gathered-front, gathered-term}
use Rattle.expression.proofs.set_of.Goals as goal
use Rattle.expression.proofs.set_of.Goals.{After-width}

-- a term was added, and is passed over
added : (c : After-width) → (c.width.result ≤ length c.loop-rest.rest.now)
    × Gathered c.args.g.now.tree c.args.b.now c.with_term-r.result.has (from c.loop-rest.rest.now c.width.result)
added c =
    let some : 0 < length c.loop-rest.rest.now = search rules in
    gathered-term _ _ c.loop-rest.invariant some c.if-code-eq-AND.false c.with_term-r.result.has c.width.result c.with_term-r.ensures c.width.ensures

pub loop-rest-init : goal.loop-rest-init
loop-rest-init c = gathered-start _ _ _ _ c.requires c.empty-r.ensures

pub loop-rest-preserved-then-code-eq-AND : goal.loop-rest-preserved-then-code-eq-AND
loop-rest-preserved-then-code-eq-AND c =
    let some : 0 < length c.loop-rest.rest.now = search rules in
    gathered-and _ _ c.loop-rest.invariant some c.if-code-eq-AND.true

pub with_term-r-requires : goal.with_term-r-requires
with_term-r-requires c =
    let some : 0 < length c.loop-rest.rest.now = search rules in
    gathered-front _ _ c.loop-rest.invariant some c.if-code-eq-AND.false

pub slice_bounds-rest-count-else-code-eq-AND : goal.slice_bounds-rest-count-else-code-eq-AND
slice_bounds-rest-count-else-code-eq-AND c = (added c).0

pub slice_bounds-rest-start-else-code-eq-AND : goal.slice_bounds-rest-start-else-code-eq-AND
slice_bounds-rest-start-else-code-eq-AND c = (added c).0

pub loop-rest-preserved : goal.loop-rest-preserved
loop-rest-preserved c = (added (goal.at.loop-rest-preserved c).After-width).1

pub returns : goal.returns
returns c =
    let none : length c.loop-rest.rest.now ≡ 0 = search rules in
    gathered-end _ _ c.loop-rest.invariant none
