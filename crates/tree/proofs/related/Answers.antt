-- `tree::related` meets its contract: equal, above and below are what related is. Assumes nothing.
use mathlib.Core.Logic.{inl, inr}
use Rattle.logic.specs.Iff.{yes_iff, iff-trans, not-then-false}
use Rattle.tree.specs.Laws.{three-kinds, related-below}
use Rattle.tree.proofs.related.Goals as goal

pub returns-then-equal : goal.returns-then-equal
returns-then-equal c = yes_iff (three-kinds.0 (inl (c.equal.ensures.0 c.if-equal.true)))

pub returns-then-above : goal.returns-then-above
returns-then-above c = ((λ e. three-kinds.0 (inr (inl (c.above.ensures.0 e)))), λ _. c.if-above.true)

pub returns-else-above : goal.returns-else-above
returns-else-above c =
    let not_equal = not-then-false c.equal.ensures c.if-equal.false in
    let not-above = not-then-false c.above.ensures c.if-above.false in
    iff-trans c.below.ensures (related-below not_equal not-above)
