-- `gate::judge_end` meets its contract: its conditions are those of the stage before. Assumes nothing.
use Rattle.std.specs.Prelude.{[]}
use Rattle.policy.specs.State.{Free}
use Rattle.gate.specs.Requests.{session_conditions}
use Rattle.gate.proofs.Stages.{stands-judged, makes-hold}
use Rattle.gate.proofs.judge_end.Goals as goal

pub returns-in_err-in_session : goal.returns-in_err-in_session
returns-in_err-in_session c = λ file s x.
    stands-judged (session_conditions s c.args.slot) [] _ s _ c.from_residual.result c.from_residual.ensures.1 (c.in_err-in_session.ensures.stage file s x)

pub returns : goal.returns
returns c = λ file s x. (c.in_ok-in_session.ensures.stage file s x, rw c.slot_effect.ensures (makes-hold x Free))
