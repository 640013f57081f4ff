-- `expression::with_term` meets its contract: the first byte says which term it is. Assumes nothing.
use mathlib.Core.Path.{ap, sym, subst}
use native.Mathlib.Omega.{arith}
use Rattle.securon.specs.Sets.{◌∪◌, ◌≐◌, marked}
use Rattle.tree.specs.Grown.{Leveled}
use Rattle.expression.specs.Expression.{Term, term_set}
use Rattle.expression.proofs.Fronts.{is_one, is-range, term-named, term-long}
use Rattle.expression.proofs.with_term.Goals as goal

pub bounds-rest-1 : goal.bounds-rest-1
bounds-rest-1 c = (term-named c.requires).0

pub prove-unreachable-requires : goal.prove-unreachable-requires
prove-unreachable-requires c = omega (arith, term-named c.requires, ap (λ (v : Leveled). v.tree.n) c.g.view_is)

pub with-requires : goal.with-requires
with-requires c = omega (arith, c.g.invariant.tree.count)

pub returns-then-rest-eq-ONE : goal.returns-then-rest-eq-ONE
returns-then-rest-eq-ONE c = λ x tail e.
    let a = c.args in
    subst (λ (y : Term). marked c.with.result.has ≐ marked a.set.has ∪ term_set a.g.now.tree y)
    (sym (is_one x tail e c.if-rest-eq-ONE.true))
    c.with.ensures

pub range_at-requires : goal.range_at-requires
range_at-requires c = omega (arith, term-long c.requires c.if-rest-eq-ONE.false)

pub with_range-requires : goal.with_range-requires
with_range-requires c = rw c.range_at.ensures.0 (term-named c.requires).1

pub returns-else-rest-eq-ONE : goal.returns-else-rest-eq-ONE
returns-else-rest-eq-ONE c = λ x tail e.
    let a = c.args in
    let r = c.range_at.ensures in
    subst (λ (y : Term). marked c.with_range.result.has ≐ marked a.set.has ∪ term_set a.g.now.tree y)
    (sym (is-range x tail e c.if-rest-eq-ONE.false))
    (rw (r.0, r.1, r.2) at c.with_range.ensures)
