-- `expression::with_range` meets its contract: the members of the range that were passed have been added. Assumes nothing.
use Rattle.std.proofs.Common.{rules, arith, ◌≡◌, length, ap}
use Rattle.securon.specs.Sets.{set_room}
use Rattle.logic.specs.Iff.{not-then-false}
use Rattle.securon.specs.Laws.{joined-none, joined-skip, joined-mark, joined-all}
use Rattle.tree.specs.Grown.{Leveled}
use Rattle.expression.proofs.with_range.Goals as goal
use Rattle.expression.proofs.with_range.Goals.{then-between, else-between}

pub loop-u-init : goal.loop-u-init
loop-u-init c = joined-none _ _

pub loop-u-preserved : goal.loop-u-preserved
loop-u-preserved c =
    let j = c.loop-u.invariant in
    let g : length c.args.set.has ≡ set_room = search rules in
    elim c.if-between.branch [
      | then-between w ↦ rw w.r-is (joined-mark j (omega (arith, c.g.invariant.tree.count)) (c.between.ensures.0 w.if-between.true))
      | else-between w ↦ rw w.r-is (joined-skip j (not-then-false c.between.ensures w.if-between.false))
    ]

pub returns : goal.returns
returns c = joined-all c.loop-u.invariant (λ u b. omega (arith, b.present, ap (λ (v : Leveled). v.tree.n) c.g.view_is))
