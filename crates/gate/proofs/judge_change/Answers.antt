-- `gate::judge_change` meets its contract: its conditions are those of the stage before, and both are stored. Assumes nothing.
use Rattle.std.specs.Prelude.{[]}
use Rattle.expression.specs.declared.Kind.TheVariants.{Protection}
use Rattle.policy.specs.State.{t1_place}
use Rattle.gate.specs.Requests.{change_conditions}
use Rattle.gate.specs.Laws.{store-named}
use Rattle.gate.proofs.Stages.{stands-judged, makes-pair}
use Rattle.gate.proofs.judge_change.Goals as goal

pub returns-in_err-store_right : goal.returns-in_err-store_right
returns-in_err-store_right c = λ s x.
    let a = c.args in
    stands-judged (change_conditions s a.slot a.file a.mode a.t1.now a.t2.now) [] _ s _
    c.from_residual.result c.from_residual.ensures.1 (c.in_err-store_right.ensures.stage s x)

pub returns : goal.returns
returns c = λ s x.
    let a = c.args in
    let all = c.in_ok-store_right.ensures.stage s x in
    let row = (store-named s a.slot a.file a.mode Protection a.t1.now a.t2.now all).row in
    (all, rw c.store_effect.ensures (makes-pair x (t1_place a.mode) a.t1.now a.t2.now row.session row.present))
