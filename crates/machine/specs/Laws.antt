-- Every request, in every state, with every argument, has one answer and leaves one state. Assumes nothing.
use Rattle.std.specs.Prelude.{◌≡◌}
use Rattle.std.proofs.Common.{ap}
use Rattle.answer.specs.declared.Answer.{Answer}
use Rattle.policy.specs.declared.State.{State}
use Rattle.image.specs.declared.Loaded.{Loaded}
use Rattle.image.specs.Laws.{one-load}
use Rattle.gate.specs.Requests.{Outcome}
use Rattle.gate.specs.Laws.{one-begin, one_end, one-ask}
use Rattle.gate.proofs.Altering.{one-change, one-bypass}
use Rattle.machine.specs.Machine.{Request, load, begin, end, ask, change, bypass, Step}

-- one answer, and one state after it
pub record Same (a b : Answer) (t u : State) : Type 0 where
  pub answer : a ≡ b
  pub state : t ≡ u

same_outcome : (x y : Outcome) → x ≡ y → Same x.answer y.answer x.state y.state
same_outcome x y e = record { answer = ap (λ (o : Outcome). o.answer) e; state = ap (λ (o : Outcome). o.state) e }

pub one-step : (s : State) (q : Request) (a b : Answer) (t u : State) → Step s q a t → Step s q b u → Same a b t u
one-step s (load image) a b t u p r =
    let e = one-load image s (record { answer = a; state = t }) (record { answer = b; state = u }) p r in
    record { answer = ap (λ (o : Loaded). o.answer) e; state = ap (λ (o : Loaded). o.state) e }
one-step s (begin slot role) a b t u p r =
    same_outcome _ _ (one-begin s slot role (record { answer = a; state = t }) (record { answer = b; state = u }) p r)
one-step s (end slot) a b t u p r =
    same_outcome _ _ (one_end s slot (record { answer = a; state = t }) (record { answer = b; state = u }) p r)
one-step s (ask slot file mode) a b t u p r =
    same_outcome _ _ (one-ask s slot file mode (record { answer = a; state = t }) (record { answer = b; state = u }) p r)
one-step s (change slot file mode t1 t2) a b t u p r =
    same_outcome _ _ (one-change s slot file mode t1 t2 (record { answer = a; state = t }) (record { answer = b; state = u }) p r)
one-step s (bypass slot file mode e g) a b t u p r =
    same_outcome _ _ (one-bypass s slot file mode e g (record { answer = a; state = t }) (record { answer = b; state = u }) p r)
