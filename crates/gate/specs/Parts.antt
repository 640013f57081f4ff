-- What the functions inside give back: the stages of a request, and what is judged of one. A device of the proofs.
use Rattle.std.specs.Prelude.{◌≡◌, List, ◌<◌}
use Rattle.std.specs.declared.result.Result.{Result}
use Rattle.std.specs.declared.result.Result.TheVariants.{Ok, Err}
use Rattle.answer.specs.declared.Answer.{Answer}
use Rattle.answer.specs.Answers.{Condition, AllHold, FirstFails}
use Rattle.order.specs.Order.{fine}
use Rattle.policy.specs.State.{most_files}
use Rattle.policy.specs.declared.State.{State}
use Rattle.policy.specs.declared.Examined.{Examined}
use Rattle.gate.specs.declared.Effect.{Effect}
use Rattle.gate.specs.Effects.{effect_of, after}

-- every condition of the list holds; or the answer is that of the first that does not
abbrev pub Stage : {A : Type 0} → List Condition → Result A Answer → Type 0
Stage cs (Ok _) = AllHold cs
Stage cs (Err a) = FirstFails cs a.number a.place

-- an effect that grants and makes this of the state, on one of its files
pub record Makes (s made : State) (e : Effect) : Type 0 where
  pub within : e.at < most_files
  pub answer : e.answer ≡ fine
  pub state : after s e ≡ made

-- every condition holds, and the effect makes this of the state; or the answer is that of the first condition that does not hold
abbrev pub Judges : State → List Condition → State → Result Effect Answer → Type 0
Judges s cs made (Ok e) = AllHold cs × Makes s made e
Judges s cs made (Err a) = FirstFails cs a.number a.place

-- what was judged, as an effect: a refusal leaves all as it was seen
abbrev pub ComesTo : Examined → Result Effect Answer → Effect → Type 0
ComesTo seen (Ok made) e = e ≡ made
ComesTo seen (Err a) e = e ≡ effect_of a seen.slots seen.at seen.file
