-- `gate::store_right` meets its contract: a refusal of the stage before stands, else the two expressions decide. Assumes nothing.
use Rattle.std.specs.Prelude.{◌≡◌, refl, []}
use Rattle.logic.specs.Iff.{not-then-false}
use Rattle.answer.specs.Lists.{refused-exactly}
use Rattle.order.specs.Conditions.{expression_conditions}
use Rattle.order.specs.Laws.{expression-places}
use Rattle.policy.specs.State.{change_protection}
use Rattle.gate.specs.Requests.{row_conditions}
use Rattle.gate.specs.Laws.{shown}
use Rattle.gate.proofs.Stages.{stands, fails-next, all-next}
use Rattle.gate.proofs.store_right.Goals as goal

pub returns-in_err-grown-clause-stage : goal.returns-in_err-grown-clause-stage
returns-in_err-grown-clause-stage c = λ s x.
    let a = c.args in
    stands (row_conditions s a.slot a.file a.mode change_protection) (expression_conditions a.kind s.tree a.x.now a.y.now) _
    c.from_residual.result c.from_residual.ensures.1 (c.in_err-grown.ensures.stage s x)

pub returns-then-granted-clause-stage : goal.returns-then-granted-clause-stage
returns-then-granted-clause-stage c = λ s x.
    let a = c.args in
    let grown = c.in_ok-grown.ensures in
    let both = expression_conditions a.kind s.tree a.x.now a.y.now in
    let judged = rw (x.grown-is _ grown.grown).0 at c.both_in_order-both.ensures in
    all-next (row_conditions s a.slot a.file a.mode change_protection) both (grown.stage s x)
    (shown both 0 c.both_in_order-both.result refl judged (c.granted.ensures.0 c.if-granted.true))

pub returns-clause-stage : goal.returns-clause-stage
returns-clause-stage c = λ s x.
    let a = c.args in
    let grown = c.in_ok-grown.ensures in
    let both = expression_conditions a.kind s.tree a.x.now a.y.now in
    let judged = rw (x.grown-is _ grown.grown).0 at c.both_in_order-both.ensures in
    let answer = c.both_in_order-both.result in
    let not-granted = not-then-false c.granted.ensures c.if-granted.false in
    fails-next (row_conditions s a.slot a.file a.mode change_protection) both _ _ (grown.stage s x)
    ((refused-exactly (λ k. k ≡ 0) answer both (expression-places a.kind s.tree a.x.now a.y.now [] tt)
    answer.number answer.place not-granted judged).0 (record { number = refl; place = refl }))
