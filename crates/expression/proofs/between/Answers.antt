-- `expression::between` meets its contract: each test is one of its parts. Assumes nothing.
use Rattle.std.proofs.Common.{rules, ◌≤◌}
use Rattle.logic.specs.Iff.{no_iff}
use Rattle.tree.specs.Tree.{level_in}
use Rattle.expression.proofs.Ranges.{level-in, level-out}
use Rattle.expression.proofs.between.Goals as goal

pub returns-then-contains : goal.returns-then-contains
returns-then-contains c =
    let a = c.args in
    let low : a.range.i.0 ≤ level_in c.g.inside.levels a.u.0 = search rules in
    let high : level_in c.g.inside.levels a.u.0 ≤ a.range.j.0 = search rules in
    level-in c.g.view_is c.g.invariant c.requires.1 low high c.related.ensures

pub returns-else-contains : goal.returns-else-contains
returns-else-contains c =
    let a = c.args in
    let out : a.range.i.0 ≤ level_in c.g.inside.levels a.u.0 → level_in c.g.inside.levels a.u.0 ≤ a.range.j.0 → ⊥ = search rules in
    rw c.if-contains.false (no_iff (level-out c.g.view_is c.g.invariant c.requires.1 out))
