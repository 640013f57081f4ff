-- A run that reads its input window by window, and what its windows print one after another. Definitions only.
use Rattle.std.specs.Prelude.{◌≡◌, Bool, true, Option, Some, None, List, [], ◌++◌, ℕ, ◌+◌, ◌-◌, ◌*◌, ◌≤◌, length, take, drop}
use Rattle.answer.specs.declared.Answer.{Answer}
use Rattle.lines.specs.Lines.{Line}
use Rattle.records.specs.Records.{longest_in_table}
use Rattle.script.specs.Windows.{Waits}
use Rattle.door.specs.declared.BoxRecord.{BoxRecord}
use Rattle.door.specs.Box.{Call, IsBoxRecord, CallDoes}
use Rattle.parkbox.specs.declared.Parked.{Parked}
use Rattle.parkbox.specs.Parking.{lent_room, BoxPrints}

-- from this box and these bytes to that box and the bytes that are left, this is printed: a line per record
pub data PrintsTo : BoxRecord → List ℕ → BoxRecord → List ℕ → List ℕ → Type 0 where
  still-there : {b : BoxRecord} {bytes : List ℕ} → PrintsTo b bytes b bytes []
  past-record : {b mid after : BoxRecord} {bytes rest left given line printed : List ℕ} {c : Call} {a : Answer}
      → IsBoxRecord bytes c rest → CallDoes b.state c lent_room a mid.state given → Line a given line → PrintsTo mid rest after left printed
      → PrintsTo b bytes after left (line ++ printed)

-- room for any line in an output: 20 digits twice, a space, three for each byte that is given out, and the line end
abbrev pub line_lent : ℕ
line_lent = 42 + 3 * lent_room

-- ---- one window
-- a window was served on the box b, and `then` is the box after it: what it prints stands at the front of an output, whose rest keeps its content. Whatever
-- comes later in the input, the run came so far, or it is over; `ends` says that nothing comes later. Where it goes on, it has to wait
pub record ParkedIs (b : BoxRecord) (window : List ℕ) (ends : Bool) (before after : List ℕ) (then : BoxRecord) (r : Parked) : Type 0 where
  pub printed : List ℕ
  pub count : r.printed ≡ length printed
  pub fits : r.printed ≤ length before
  pub is : after ≡ printed ++ drop r.printed before
  pub within : (used : ℕ) → r.used ≡ Some used → used ≤ length window
  pub goes : (used : ℕ) → r.used ≡ Some used → (later : List ℕ) → PrintsTo b (window ++ later) then (drop used window ++ later) printed
  pub stops : r.used ≡ None → (later : List ℕ) → (ends ≡ true → later ≡ []) → BoxPrints b (window ++ later) printed
  pub waits : (used : ℕ) → r.used ≡ Some used → Waits longest_in_table line_lent ends (length window - used) (length before - r.printed)

-- ---- one window after another
-- each window is the front of what is left of the input, and what it prints is a block: these are the blocks, up to the end of the run
pub data BoxBlocks : BoxRecord → List ℕ → List ℕ → Type 0 where
  block_last : (window later : List ℕ) {b then : BoxRecord} {ends : Bool} {before after : List ℕ} {r : Parked}
      → ParkedIs b window ends before after then r → r.used ≡ None → (ends ≡ true → later ≡ []) → BoxBlocks b (window ++ later) (take r.printed after)
  block-next : (window later : List ℕ) {b then : BoxRecord} {ends : Bool} {before after blocks : List ℕ} {r : Parked} {used : ℕ}
      → ParkedIs b window ends before after then r → r.used ≡ Some used → BoxBlocks then (drop used window ++ later) blocks
      → BoxBlocks b (window ++ later) (take r.printed after ++ blocks)
