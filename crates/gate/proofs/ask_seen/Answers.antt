-- `gate::ask_seen` meets its contract: what was judged is told of the effect. Assumes nothing.
use Rattle.std.specs.Prelude.{refl}
use Rattle.gate.specs.Requests.{ask_conditions}
use Rattle.gate.proofs.Stages.{tells}
use Rattle.gate.proofs.ask_seen.Goals as goal

pub returns : goal.returns
returns c = λ s x.
    let a = c.args in
    tells x (ask_conditions s a.slot a.file a.mode) s c.judge_ask.result c.settle.result refl (c.judge_ask.ensures s x) c.settle.ensures
