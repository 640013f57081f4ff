-- `gate::end_seen` meets its contract: what was judged is told of the effect. Assumes nothing.
use Rattle.std.specs.Prelude.{refl}
use Rattle.policy.specs.State.{Free, with_hold}
use Rattle.gate.specs.Requests.{end_conditions}
use Rattle.gate.proofs.Stages.{tells}
use Rattle.gate.proofs.end_seen.Goals as goal

pub returns : goal.returns
returns c = λ file s x.
    let a = c.args in
    tells x (end_conditions s a.slot) (with_hold s a.slot Free)
    c.judge_end.result c.settle.result refl (c.judge_end.ensures file s x) c.settle.ensures
