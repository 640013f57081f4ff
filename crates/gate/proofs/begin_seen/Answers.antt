-- `gate::begin_seen` meets its contract: what was judged is told of the effect. Assumes nothing.
use Rattle.std.specs.Prelude.{refl}
use Rattle.policy.specs.State.{By, with_hold}
use Rattle.gate.specs.Requests.{begin_conditions}
use Rattle.gate.proofs.Stages.{tells}
use Rattle.gate.proofs.begin_seen.Goals as goal

pub returns : goal.returns
returns c = λ file s x.
    let a = c.args in
    tells x (begin_conditions s a.slot a.role) (with_hold s a.slot (By a.role))
    c.judge_begin.result c.settle.result refl (c.judge_begin.ensures file s x) c.settle.ensures
