-- `tree::above` meets its contract: what is above has a smaller number, and a walk reaches it. Assumes nothing.
use native.Mathlib.Omega.{arith}
use borrow.Author.Tests.{ltb-true, lt-ltb}
use Rattle.logic.specs.Iff.{iff-trans}
use Rattle.tree.specs.Laws.{above-smaller, above-walk}
use Rattle.tree.proofs.above.Goals as goal

pub returns-then-u-s : goal.returns-then-u-s
returns-then-u-s c = iff-trans c.reaches.ensures (above-walk c.if-u-s.true)

pub returns-else-u-s : goal.returns-else-u-s
returns-else-u-s c = ((λ e. absurd (omega (arith, ltb-true _ _ e, c.if-u-s.false))), λ a. lt-ltb _ _ (above-smaller c.requires.1 a))
