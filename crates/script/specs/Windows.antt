-- A replay that reads its input window by window, and what its windows print one after another. Definitions only.
use Rattle.std.specs.Prelude.{◌≡◌, Bool, true, false, Option, Some, None, is_some, List, [], ◌++◌, ◌⊎◌, ℕ, ◌+◌, ◌-◌, ◌<◌, ◌≤◌, length, take, drop}
use Rattle.std.proofs.Math.Seq.{slice}
use Rattle.answer.specs.declared.Answer.{Answer}
use Rattle.policy.specs.declared.State.{State}
use Rattle.policy.specs.State.{fresh_state}
use Rattle.machine.specs.Machine.{Request, load, Step}
use Rattle.lines.specs.Lines.{Line}
use Rattle.script.specs.declared.Windowed.{Windowed}
use Rattle.script.specs.Script.{IsRecord, longest_record, longest_front, stated, image_in, Plays, Prints}

-- ---- a replay on its way: the state, once its image was loaded, and the bytes that are left
-- from there to there it prints this: the load's line, and a line per call
pub data PlaysTo : Option State → List ℕ → Option State → List ℕ → List ℕ → Type 0 where
  none_yet : {s : Option State} {bytes : List ℕ} → PlaysTo s bytes s bytes []
  loads : {t : State} {u : Option State} {input left line printed : List ℕ} {a : Answer}
      → 2 + stated input ≤ length input → Step fresh_state (load (image_in input)) a t → Line a [] line
      → PlaysTo (Some t) (drop (2 + stated input) input) u left printed → PlaysTo None input u left (line ++ printed)
  calls : {s t : State} {u : Option State} {bytes rest left line printed : List ℕ} {q : Request} {a : Answer}
      → IsRecord bytes q rest → Step s q a t → Line a [] line
      → PlaysTo (Some t) rest u left printed → PlaysTo (Some s) bytes u left (line ++ printed)

-- from there to the end of the input it prints this
abbrev pub PlaysOut : Option State → List ℕ → List ℕ → Type 0
PlaysOut None input printed = Prints input printed
PlaysOut (Some s) bytes printed = Plays s bytes printed

-- so many bytes decide what comes next, whatever follows them
abbrev pub deciding : Option State → ℕ
deciding None = longest_front
deciding (Some s) = longest_record

-- room for any line of a replay in an output
abbrev pub line_room : ℕ
line_room = 186

-- it has to wait: fewer than enough bytes are left in the window and the input does not end with it, or the output has less room than a line takes
abbrev pub Waits : ℕ → ℕ → Bool → ℕ → ℕ → Type 0
Waits enough line ends left room = ((ends ≡ false) × (left < enough)) ⊎ (room < line)

-- ---- one window
-- a replay before its first window
abbrev pub at_front : Windowed
at_front = record { state = None; used = 0; n = 0; more = true }

-- a window was played: what it prints stands at the front of an output, whose rest keeps its content. Whatever comes later in the input, the replay
-- came so far, or it is over; `ends` says that nothing comes later. Where it goes on, either the image was loaded now or it has to wait
pub record WindowIs (s : Option State) (window : List ℕ) (ends : Bool) (before after : List ℕ) (r : Windowed) : Type 0 where
  pub printed : List ℕ
  pub count : r.n ≡ length printed
  pub fits : r.n ≤ length before
  pub is : after ≡ printed ++ drop r.n before
  pub within : r.used ≤ length window
  pub goes : r.more ≡ true → (later : List ℕ) → PlaysTo s (window ++ later) r.state (drop r.used window ++ later) printed
  pub stops : r.more ≡ false → (later : List ℕ) → (ends ≡ true → later ≡ []) → PlaysOut s (window ++ later) printed
  pub waits : r.more ≡ true → is_some r.state ≡ is_some s → Waits (deciding s) line_room ends (length window - r.used) (length before - r.n)

-- the bytes of a buffer from at to n, as far as they are there, went to its front; the rest keeps its content
pub record Fronted (before : List ℕ) (at n : ℕ) (after : List ℕ) (r : ℕ) : Type 0 where
  pub count : r ≡ length (slice at n before)
  pub is : after ≡ slice at n before ++ drop r before

-- ---- one window after another
-- each window is the front of what is left of the input, and what it prints is a block: these are the blocks, up to the end of the run
pub data Streams : Option State → List ℕ → List ℕ → Type 0 where
  last : (window later : List ℕ) {s : Option State} {ends : Bool} {before after : List ℕ} {r : Windowed}
      → WindowIs s window ends before after r → r.more ≡ false → (ends ≡ true → later ≡ [])
      → Streams s (window ++ later) (take r.n after)
  next : (window later : List ℕ) {s : Option State} {ends : Bool} {before after blocks : List ℕ} {r : Windowed}
      → WindowIs s window ends before after r → r.more ≡ true → Streams r.state (drop r.used window ++ later) blocks
      → Streams s (window ++ later) (take r.n after ++ blocks)
