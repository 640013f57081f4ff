-- `gate::in_session` meets its contract: a refusal of the stage before stands, else the slot decides. Assumes nothing.
use Rattle.std.specs.Prelude.{[], ◌∷◌}
use Rattle.gate.specs.Requests.{slot_conditions, slot_is_taken}
use Rattle.gate.proofs.Stages.{stands}
use Rattle.gate.proofs.in_session.Goals as goal

pub returns-in_err-grown-clause-stage : goal.returns-in_err-grown-clause-stage
returns-in_err-grown-clause-stage c = λ file s x.
    let slot = c.args.slot in
    stands (slot_conditions s slot) (slot_is_taken s slot ∷ []) _ c.from_residual.result c.from_residual.ensures.1 (c.in_err-grown.ensures.stage file s x)
