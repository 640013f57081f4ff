-- `order::first_fault` meets its contract: the check says whether the bytes are in order, or the place. Assumes nothing.
use mathlib.Core.Logic.{inl, inr}
use Rattle.expression.specs.Bytes.{InOrder, WrongAt}
use Rattle.expression.specs.One.{in-order-not-wrong-over}
use Rattle.order.proofs.Sizes.{over-tree}
use Rattle.order.proofs.first_fault.Goals as goal

pub returns-in-Ok : goal.returns-in-Ok
returns-in-Ok c =
    let a = c.args in
    let s = c.size.ensures in
    inr (over-tree (λ n d. InOrder a.kind n d a.b.now) s.n s.depth s.ready c.in-Ok.ensures, (c.of.ensures.number, c.of.ensures.place))

pub returns-in-Err : goal.returns-in-Err
returns-in-Err c =
    let a = c.args in
    let s = c.size.ensures in
    let w = over-tree (λ n d. WrongAt a.kind n d a.b.now c.in-Err.field-0.0) s.n s.depth s.ready c.in-Err.ensures in
    inl ((λ o. in-order-not-wrong-over _ _ _ _ o w), c.at.ensures.number, (_, w, c.at.ensures.place))
