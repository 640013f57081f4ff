-- `gate::change_seen` meets its contract: what was judged is told of the effect. Assumes nothing.
use Rattle.std.specs.Prelude.{refl}
use Rattle.policy.specs.State.{with_t1_t2}
use Rattle.gate.specs.Requests.{change_conditions}
use Rattle.gate.proofs.Stages.{tells}
use Rattle.gate.proofs.change_seen.Goals as goal

pub returns : goal.returns
returns c = λ s x.
    let a = c.args in
    tells x (change_conditions s a.slot a.file a.mode a.t1.now a.t2.now) (with_t1_t2 s a.file a.mode a.t1.now a.t2.now)
    c.judge_change.result c.settle.result refl (c.judge_change.ensures s x) c.settle.ensures
