-- What the program reads, and what it prints. Definitions only.
use Rattle.std.specs.Prelude.{◌≡◌, List, [], ◌++◌, ℕ}
use Rattle.answer.specs.declared.Answer.{Answer}
use Rattle.lines.specs.Lines.{Line}
use Rattle.script.specs.Script.{cut_line}
use Rattle.door.specs.declared.BoxRecord.{BoxRecord}
use Rattle.door.specs.Box.{Call, fresh_box, IsBoxRecord, CallDoes}

-- no record of the table stands at the front
abbrev pub NoBoxRecord : List ℕ → Type 0
NoBoxRecord bs = (c : Call) (rest : List ℕ) → IsBoxRecord bs c rest → ⊥

-- the room that is lent for what a call gives out
abbrev pub lent_room : ℕ
lent_room = 512

-- from the box b these bytes print this: per record the number, a space, the place, for each byte that the call gives out a space and two hex digits, and a
-- line end; a broken-off or unknown record prints `cut` and stops; input that ends between two records ends the run with no further line
pub data BoxPrints : BoxRecord → List ℕ → List ℕ → Type 0 where
  input-over : {b : BoxRecord} → BoxPrints b [] []
  record-made : {b after : BoxRecord} {bytes rest given line printed : List ℕ} {c : Call} {a : Answer}
      → IsBoxRecord bytes c rest → CallDoes b.state c lent_room a after.state given → Line a given line → BoxPrints after rest printed
      → BoxPrints b bytes (line ++ printed)
  record-broken : {b : BoxRecord} {bytes : List ℕ} → (bytes ≡ [] → ⊥) → NoBoxRecord bytes → BoxPrints b bytes cut_line

-- a whole input prints this, from the fresh box
abbrev pub ParkPrints : List ℕ → List ℕ → Type 0
ParkPrints = BoxPrints fresh_box
