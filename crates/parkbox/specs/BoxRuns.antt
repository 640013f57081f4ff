-- From the papers to what is printed: the lines are the answers of calls from the fresh state, and of what they give out. Definitions only.
use Rattle.std.specs.Prelude.{◌≡◌, List, [], ◌∷◌, ◌++◌, map, ◌⊎◌, ℕ}
use Rattle.answer.specs.declared.Answer.{Answer}
use Rattle.policy.specs.declared.State.{State}
use Rattle.machine.specs.Runs.{Event, Run}
use Rattle.machine.specs.Machine.{GateEvent, GateRun}
use Rattle.lines.specs.Lines.{Line}
use Rattle.script.specs.Script.{cut_line}
use Rattle.door.specs.Box.{Call, IsBoxRecord, CallDoes, requested}
use Rattle.parkbox.specs.Parking.{lent_room, NoBoxRecord}

-- the bytes are the records of these calls, one after another, and then the rest
pub data AreBoxRecords : List ℕ → List Call → List ℕ → Type 0 where
  no-further : {bytes : List ℕ} → AreBoxRecords bytes [] bytes
  one_further : {bytes after rest : List ℕ} {c : Call} {cs : List Call} → IsBoxRecord bytes c after → AreBoxRecords after cs rest
      → AreBoxRecords bytes (c ∷ cs) rest

-- a call with the bytes that it gives out; as it was made, and one after another
pub record Giving : Type 0 where
  pub call : Call
  pub given : List ℕ

abbrev pub CallMade : Type 0
CallMade = Event State Giving

abbrev pub CallRun : State → List CallMade → State → Type 0
CallRun = Run (λ (s : State) (g : Giving) (a : Answer) (t : State). CallDoes s g.call lent_room a t g.given)

-- the requests among them
abbrev pub requests_among : List CallMade → List GateEvent
requests_among [] = []
requests_among (e ∷ es) = requested e.before e.request.call e.answer ++ requests_among es

-- the lines of their answers and of what they give out, one after another
pub data CallLines : List CallMade → List ℕ → Type 0 where
  no_lines : CallLines [] []
  line-then : {e : CallMade} {es : List CallMade} {line lines : List ℕ} → Line e.answer e.request.given line → CallLines es lines
      → CallLines (e ∷ es) (line ++ lines)

-- what stands after the last record, and what is printed for it: nothing for nothing; `cut` for bytes that are not a record
abbrev pub EndPrints : List ℕ → List ℕ → Type 0
EndPrints rest last = ((rest ≡ []) × (last ≡ [])) ⊎ ((rest ≡ [] → ⊥) × NoBoxRecord rest × (last ≡ cut_line))

-- the records of these bytes, from s: their calls, the run of the requests among them, the lines of the calls, and what is printed after them
pub record BoxRun (s : State) (bytes printed : List ℕ) : Type 0 where
  pub calls : List CallMade
  pub last-state : State
  pub made : CallRun s calls last-state
  pub runs : GateRun s (requests_among calls) last-state
  pub rest : List ℕ
  pub are-records : AreBoxRecords bytes (map (λ (e : CallMade). e.request.call) calls) rest
  pub lines : List ℕ
  pub are-lines : CallLines calls lines
  pub last : List ℕ
  pub last-prints : EndPrints rest last
  pub is : printed ≡ lines ++ last
