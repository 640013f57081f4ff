-- What the replay program reads, and what it prints (01, "The replay program"). Definitions only.
use Rattle.std.specs.Prelude.{◌≡◌, List, [], ◌∷◌, ◌++◌, ◌⊎◌, ℕ, ◌+◌, ◌<◌, ◌≤◌, length, get_or, take, drop}
use Rattle.answer.specs.declared.Answer.{Answer}
use Rattle.policy.specs.declared.State.{State}
use Rattle.policy.specs.State.{fresh_state}
use Rattle.fields.specs.Parts.{low_first}
use Rattle.image.specs.Image.{expression_bytes}
use Rattle.machine.specs.Machine.{Request, load, begin, end, ask, change, bypass, Step, GateEvent}
use Rattle.lines.specs.Lines.{Line}

-- the bytes are the record of a request, and what comes after it:
-- 01 slot role; 02 slot; 03 slot file mode; 04 or 05 slot file mode, length byte and bytes, twice (change, bypass)
pub data IsRecord : List ℕ → Request → List ℕ → Type 0 where
  a-begin : {slot role : ℕ} {rest : List ℕ} → IsRecord (1 ∷ slot ∷ role ∷ rest) (begin slot role) rest
  an-end : {slot : ℕ} {rest : List ℕ} → IsRecord (2 ∷ slot ∷ rest) (end slot) rest
  an-ask : {slot file mode : ℕ} {rest : List ℕ} → IsRecord (3 ∷ slot ∷ file ∷ mode ∷ rest) (ask slot file mode) rest
  a-change : {slot file mode : ℕ} {x y rest : List ℕ}
      → IsRecord (4 ∷ slot ∷ file ∷ mode ∷ (expression_bytes x ++ (expression_bytes y ++ rest))) (change slot file mode x y) rest
  a-bypass : {slot file mode : ℕ} {x y rest : List ℕ}
      → IsRecord (5 ∷ slot ∷ file ∷ mode ∷ (expression_bytes x ++ (expression_bytes y ++ rest))) (bypass slot file mode x y) rest

-- the most bytes that a record has: a code and three numbers, and twice a length byte and 255 bytes
abbrev pub longest_record : ℕ
longest_record = 516

-- `cut` and a line end
abbrev pub cut_line : List ℕ
cut_line = 99 ∷ 117 ∷ 116 ∷ 10 ∷ []

-- the lines of these answers, one after another
pub data AnswerLines : List GateEvent → List ℕ → Type 0 where
  no_lines : AnswerLines [] []
  line-then : {e : GateEvent} {es : List GateEvent} {line lines : List ℕ} → Line e.answer [] line → AnswerLines es lines
      → AnswerLines (e ∷ es) (line ++ lines)

-- from the state s these bytes print this: per call the number, a space, the place, and a line end; a broken-off or unknown record prints `cut` and
-- stops; input that ends between two records ends the run with no further line
pub data Plays : State → List ℕ → List ℕ → Type 0 where
  ended : {s : State} → Plays s [] []
  called : {s t : State} {bytes rest line printed : List ℕ} {q : Request} {a : Answer}
      → IsRecord bytes q rest → Step s q a t → Line a [] line → Plays t rest printed → Plays s bytes (line ++ printed)
  cut : {s : State} {bytes : List ℕ} → (bytes ≡ [] → ⊥) → ((q : Request) (rest : List ℕ) → IsRecord bytes q rest → ⊥) → Plays s bytes cut_line

-- the image: as many bytes as the first two say, low byte first; a short one as far as it goes
abbrev pub stated : List ℕ → ℕ
stated input = low_first (get_or input 0 0) (get_or input 1 0)

abbrev pub image_in : List ℕ → List ℕ
image_in input = take (stated input) (drop 2 input)

-- the most bytes before the records: two that state a length, and an image of the largest
abbrev pub longest_front : ℕ
longest_front = 65537

-- what the whole input prints: under two bytes, `cut`; else the line of the load into the fresh state, and then, where the image was all there, what
-- the records print from the state that the load left
pub record Loaded (input printed : List ℕ) : Type 0 where
  pub two : 2 ≤ length input
  pub answer : Answer
  pub state : State
  pub line : List ℕ
  pub rest : List ℕ
  pub loads : Step fresh_state (load (image_in input)) answer state
  pub is-line : Line answer [] line
  pub is : printed ≡ line ++ rest
  pub whole : 2 + stated input ≤ length input → Plays state (drop (2 + stated input) input) rest
  pub short : length input < 2 + stated input → rest ≡ []

abbrev pub Prints : List ℕ → List ℕ → Type 0
Prints input printed = ((length input < 2) × (printed ≡ cut_line)) ⊎ Loaded input printed

-- what stands in an output once w was written from its front, as far as it fits: after it, what was there
abbrev pub over : List ℕ → List ℕ → List ℕ
over w before = take (length before) w ++ drop (length w) before

-- so an output was filled; r is the length of all of w, or one more than the room where it does not fit
pub record Filled (w before after : List ℕ) (r : ℕ) : Type 0 where
  pub is : after ≡ over w before
  pub fits : length w ≤ length before → r ≡ length w
  pub full : length before < length w → r ≡ length before + 1

-- a whole input was replayed into an output: what it prints fills it
pub record Replays (input before after : List ℕ) (r : ℕ) : Type 0 where
  pub printed : List ℕ
  pub prints : Prints input printed
  pub filled : Filled printed before after r
