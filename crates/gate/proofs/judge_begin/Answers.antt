-- `gate::judge_begin` meets its contract: a refusal of the stage before stands, else the slot and the role decide. Assumes nothing.
use Rattle.std.specs.Prelude.{[], ◌∷◌}
use Rattle.gate.specs.Requests.{slot_conditions, slot_is_free, role_present}
use Rattle.gate.proofs.Stages.{stands-judged}
use Rattle.gate.proofs.judge_begin.Goals as goal

pub returns-in_err-known : goal.returns-in_err-known
returns-in_err-known c = λ file s x.
    let a = c.args in
    let rest = slot_is_free s a.slot ∷ role_present s a.role ∷ [] in
    stands-judged (slot_conditions s a.slot) rest _ s _ c.from_residual.result c.from_residual.ensures.1 (c.in_err-known.ensures.stage file s x)
