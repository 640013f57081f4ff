-- What a request comes to, given back without the state: the answer, the slots, and one file with its number. Definitions only.
use Rattle.std.specs.Prelude.{List, ℕ, ◌<◌}
use Rattle.answer.specs.declared.Answer.{Answer}
use Rattle.policy.specs.declared.File.{File}
use Rattle.policy.specs.declared.State.{State}
use Rattle.policy.specs.State.{most_files, set_slots, with_file}
use Rattle.gate.specs.declared.Effect.{Effect}
use Rattle.gate.specs.Requests.{Outcome}

abbrev pub effect_of : Answer → List ℕ → ℕ → File → Effect
effect_of a slots at file = record { answer = a; slots = slots; at = at; file = file }

-- the same state with the effect's slots and its file
abbrev pub after : State → Effect → State
after s e = with_file (set_slots s e.slots) e.at e.file

-- what the effect stands for on that state
abbrev pub outcome : State → Effect → Outcome
outcome s e = record { answer = e.answer; state = after s e }

-- the effect is on a file of the state, and what it stands for has P
pub record Tells (s : State) (P : Outcome → Type 0) (e : Effect) : Type 0 where
  pub within : e.at < most_files
  pub is : P (outcome s e)
