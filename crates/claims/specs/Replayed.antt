-- From the papers to what is printed: the lines of a replay are the answers of a run from the fresh state, so the demands hold of every replay.
-- Definitions only.
use Rattle.std.specs.Prelude.{◌≡◌, List, [], ◌∷◌, ◌++◌, map, ◌⊎◌, ℕ, ◌+◌, ◌≤◌, ◌<◌, length, drop}
use Rattle.answer.specs.declared.Answer.{Answer}
use Rattle.policy.specs.declared.State.{State}
use Rattle.policy.specs.State.{fresh_state}
use Rattle.machine.specs.Machine.{Request, load, Step, GateEvent, GateRun}
use Rattle.lines.specs.Lines.{Line}
use Rattle.script.specs.Script.{IsRecord, cut_line, AnswerLines, stated, image_in}

-- the bytes are the records of these requests, one after another, and then the rest
pub data AreRecords : List ℕ → List Request → List ℕ → Type 0 where
  no_more : {bytes : List ℕ} → AreRecords bytes [] bytes
  record-then : {bytes after rest : List ℕ} {q : Request} {qs : List Request} → IsRecord bytes q after → AreRecords after qs rest
      → AreRecords bytes (q ∷ qs) rest

-- what stands after the last record, and what is printed for it: nothing for nothing; `cut` for bytes that are not a record
abbrev pub LastPrints : List ℕ → List ℕ → Type 0
LastPrints rest last =
    ((rest ≡ []) × (last ≡ [])) ⊎ ((rest ≡ [] → ⊥) × ((q : Request) (after : List ℕ) → IsRecord rest q after → ⊥) × (last ≡ cut_line))

-- the records of these bytes, from s: the run of their requests, the lines of its answers, and what is printed after them
pub record RecordsRun (s : State) (bytes printed : List ℕ) : Type 0 where
  pub calls : List GateEvent
  pub last-state : State
  pub runs : GateRun s calls last-state
  pub rest : List ℕ
  pub are-records : AreRecords bytes (map (λ (e : GateEvent). e.request) calls) rest
  pub lines : List ℕ
  pub are-lines : AnswerLines calls lines
  pub last : List ℕ
  pub last-prints : LastPrints rest last
  pub is : printed ≡ lines ++ last

-- a whole input of two bytes or more: the load of its image into the fresh state, its line, and then, where the image is all there, its records
pub record InputRun (input printed : List ℕ) : Type 0 where
  pub answer : Answer
  pub loaded : State
  pub loads : Step fresh_state (load (image_in input)) answer loaded
  pub line : List ℕ
  pub is-line : Line answer [] line
  pub more : List ℕ
  pub is : printed ≡ line ++ more
  pub whole : 2 + stated input ≤ length input → RecordsRun loaded (drop (2 + stated input) input) more
  pub short : length input < 2 + stated input → more ≡ []
