-- What the functions inside tell: what stands at the front of an input, and what was written to an output. A device of the proofs.
use Rattle.std.specs.Prelude.{◌≡◌, Bool, true, false, cond, Option, Some, None, List, [], ◌++◌, ◌⊎◌, ℕ, ◌+◌, ◌<◌, ◌≤◌, eqb, length, get_or, take, drop}
use Rattle.std.proofs.Common.{Bor}
use Rattle.answer.specs.declared.Answer.{Answer}
use Rattle.policy.specs.declared.State.{State}
use Rattle.image.specs.Image.{expression_bytes}
use Rattle.machine.specs.Machine.{Request, change, bypass, Step}
use Rattle.lines.specs.Lines.{Line}
use Rattle.script.specs.declared.Front.{Front}
use Rattle.script.specs.Script.{IsRecord, cut_line, longest_front, stated, image_in, Plays, Filled}
use Rattle.script.specs.Playing.{NoRecord}
use Rattle.script.specs.Windows.{line_room, Waits}

-- 04 or 05 slot file mode, length byte and bytes, twice: the two expressions, the place of the second length byte, and the end
abbrev pub second_at : List ℕ → ℕ
second_at bs = 5 + get_or bs 4 0

abbrev pub end_at : List ℕ → ℕ
end_at bs = second_at bs + 1 + get_or bs (second_at bs) 0

abbrev pub first_of : List ℕ → List ℕ
first_of bs = take (get_or bs 4 0) (drop 5 bs)

abbrev pub second_of : List ℕ → List ℕ
second_of bs = take (get_or bs (second_at bs) 0) (drop (second_at bs + 1) bs)

-- the request that it is: 04 change, 05 bypass
abbrev pub store_of : ℕ → ℕ → ℕ → ℕ → List ℕ → List ℕ → Request
store_of code slot file mode x y = cond (eqb code 4) (change slot file mode x y) (bypass slot file mode x y)

abbrev pub store_in : ℕ → List ℕ → Request
store_in code bs = store_of code (get_or bs 1 0) (get_or bs 2 0) (get_or bs 3 0) (first_of bs) (second_of bs)

-- a record that is there has all its bytes
pub record Stored (bs : List ℕ) : Type 0 where
  pub first : 5 ≤ length bs
  pub second : second_at bs < length bs
  pub all : end_at bs ≤ length bs

-- an expression stands at the front, a length byte and so many bytes, with these bytes after it; or there are fewer
abbrev pub ExpressionIs : List ℕ → Option (Bor (List ℕ) × Bor (List ℕ)) → Type 0
ExpressionIs bs None = length bs < 1 + get_or bs 0 0
ExpressionIs bs (Some p) = bs ≡ expression_bytes p.0.now ++ p.1.now

-- two do, or no two do
abbrev pub TwoAre : List ℕ → Option (Bor (List ℕ) × Bor (List ℕ) × Bor (List ℕ)) → Type 0
TwoAre bs None = (x y left : List ℕ) → bs ≡ expression_bytes x ++ (expression_bytes y ++ left) → ⊥
TwoAre bs (Some p) = bs ≡ expression_bytes p.0.now ++ (expression_bytes p.1.now ++ p.2.now)

-- w was written after what an output holds already, whatever that is
abbrev pub Puts : List ℕ → List ℕ → ℕ → List ℕ → ℕ → Type 0
Puts w before n after r = (first held : List ℕ) → Filled held first before n → Filled (held ++ w) first after r

-- the line of a was
abbrev pub PutsLine : Answer → List ℕ → ℕ → List ℕ → ℕ → Type 0
PutsLine a before n after r = (line : List ℕ) × Line a [] line × Puts line before n after r × (length line ≤ line_room)

-- the next record was played and told: where the run ends, what is printed last; else its call, the line of its answer, and the bytes after it
abbrev pub ToldIs : State → List ℕ → List ℕ → ℕ → State → List ℕ → ℕ → Option (Bor (List ℕ)) → Type 0
ToldIs s bs before n t after r None = ((bs ≡ []) × Puts [] before n after r) ⊎ ((bs ≡ [] → ⊥) × NoRecord bs × Puts cut_line before n after r)
ToldIs s bs before n t after r (Some left) = (q : Request) × (a : Answer) × IsRecord bs q left.now × Step s q a t × PutsLine a before n after r

-- from the state s these bytes were played, and what they print was written after what an output holds already
pub record PlayedOn (s : State) (bytes before : List ℕ) (n : ℕ) (after : List ℕ) (r : ℕ) : Type 0 where
  pub printed : List ℕ
  pub plays : Plays s bytes printed
  pub put : Puts printed before n after r

-- the records of an input are these, or its image is not all there
abbrev pub RecordsAre : List ℕ → Option (Bor (List ℕ)) → Type 0
RecordsAre input None = length input < 2 + stated input
RecordsAre input (Some records) = (2 + stated input ≤ length input) × (records.now ≡ drop (2 + stated input) input)

-- the front of an input; under two bytes there is none
abbrev pub FrontIs : List ℕ → Option Front → Type 0
FrontIs input None = length input < 2
FrontIs input (Some f) = (2 ≤ length input) × (2 + stated input ≤ longest_front) × (f.image.now ≡ image_in input) × RecordsAre input f.records

-- whether what comes next can be played, or has to wait
pub record MayPlay (enough line : ℕ) (ends : Bool) (left room : ℕ) (r : Bool) : Type 0 where
  pub has_room : r ≡ true → line ≤ room
  pub has-bytes : r ≡ true → (ends ≡ true) ⊎ (enough ≤ left)
  pub has-to-wait : r ≡ false → Waits enough line ends left room
