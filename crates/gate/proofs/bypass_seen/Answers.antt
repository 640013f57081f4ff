-- `gate::bypass_seen` meets its contract: what was judged is told of the effect. Assumes nothing.
use Rattle.std.specs.Prelude.{refl}
use Rattle.policy.specs.State.{with_e_g}
use Rattle.gate.specs.Requests.{bypass_conditions}
use Rattle.gate.proofs.Stages.{tells}
use Rattle.gate.proofs.bypass_seen.Goals as goal

pub returns : goal.returns
returns c = λ s x.
    let a = c.args in
    tells x (bypass_conditions s a.slot a.file a.mode a.e.now a.g.now) (with_e_g s a.file a.mode a.e.now a.g.now)
    c.judge_bypass.result c.settle.result refl (c.judge_bypass.ensures s x) c.settle.ensures
