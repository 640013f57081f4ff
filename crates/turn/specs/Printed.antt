-- What the program prints: for a line of its input, for a piece of it, and for all of it. Definitions only.
use Rattle.std.specs.Prelude.{◌≡◌, List, [], ◌∷◌, ◌++◌, ◌⊎◌, ℕ, ◌+◌, ◌<◌, ◌≤◌, length, take, drop}
use Rattle.answer.specs.declared.Answer.{Answer}
use Rattle.answer.specs.Answers.{Decides, Granted}
use Rattle.expression.specs.Bytes.{longest}
use Rattle.text.specs.Text.{TextOf}
use Rattle.text.specs.Turn.{text_conditions, text_grants}
use Rattle.lines.specs.declared.begun.Begun.{Begun}
use Rattle.lines.specs.Lines.{Line, Held, Unended}
use Rattle.turn.specs.declared.Answered.{Answered}

-- ---- a line
-- the line that is printed for the text w: its answer with an output of 48 bytes, and the bytes that were made
pub record Printed (w line : List ℕ) : Type 0 where
  pub answer : Answer
  pub bytes : List ℕ
  pub decides : Decides (text_conditions w longest) (text_grants w) answer
  pub made : Granted answer → TextOf w bytes
  pub none : (Granted answer → ⊥) → bytes ≡ []
  pub line-is : Line answer bytes line

-- for whatever line of input is held, its printed line fills the first r bytes of an output; the rest keeps its content
pub record PrintsAnswer (begun : Begun) (before after : List ℕ) (r : ℕ) : Type 0 where
  pub line : List ℕ
  pub prints : (w : List ℕ) → Held begun.n begun.bytes w → Printed w line
  pub fits : r ≤ length after
  pub filled : after ≡ line ++ drop r before

-- ---- the whole input
-- a last line without a line end is printed too, unless it is empty
abbrev pub PrintsLast : List ℕ → List ℕ → Type 0
PrintsLast w printed = ((w ≡ []) × (printed ≡ [])) ⊎ ((w ≡ [] → ⊥) × Printed w printed)

-- each line up to its line end prints its line, one after the other; then the last one, without a line end
pub data PrintsLines : List ℕ → List ℕ → Type 0 where
  last_line : {w printed : List ℕ} → Unended w → PrintsLast w printed → PrintsLines w printed
  first-line : {w line rest printed : List ℕ} → Unended w → Printed w line → PrintsLines rest printed
      → PrintsLines (w ++ (10 ∷ rest)) (line ++ printed)

-- ---- a piece of the input
-- what a piece prints and leaves, where the bytes begun of its first line came before it: without a line end it goes on with that line; a line end
-- prints the line, and what comes after it begins the next. The bytes left are begun for the next piece
pub data PiecePrints : List ℕ → List ℕ → List ℕ → List ℕ → Type 0 where
  line-goes-on : {begun part : List ℕ} → Unended part → PiecePrints begun part (begun ++ part) []
  line-ends : {begun line rest left printed : List ℕ} (part : List ℕ) → Unended part → Printed (begun ++ part) line → PiecePrints [] rest left printed
      → PiecePrints begun (part ++ (10 ∷ rest)) left (line ++ printed)

-- ---- what the functions promise
-- the most bytes of a printed line: 20 digits twice, a space, three for each of 48 bytes, and the line end
abbrev pub most_printed : ℕ
most_printed = 186

-- the first bytes of a piece were answered, as many as used: whatever line begun is held, what they print fills the front of the output, and what they
-- leave is held; the rest of the output keeps its content
pub record AnswersFront (piece : List ℕ) (begun : Begun) (before : List ℕ) (r : Answered) (next : Begun) (after : List ℕ) : Type 0 where
  pub lines : List ℕ
  pub prints : (w : List ℕ) → Held begun.n begun.bytes w
      → (left : List ℕ) × PiecePrints w (take r.used piece) left lines × Held next.n next.bytes left
  pub within : r.used ≤ length piece
  pub count : r.printed ≡ length lines
  pub filled : after ≡ lines ++ drop r.printed before

-- all of the piece was answered, unless less room than for one more printed line was left
pub record AnswersPiece (piece : List ℕ) (begun : Begun) (before : List ℕ) (r : Answered) (next : Begun) (after : List ℕ) : Type 0 where
  pub front : AnswersFront piece begun before r next after
  pub stops : r.used < length piece → length after < r.printed + most_printed

-- the input has ended: whatever last line is held, what it prints fills the first r bytes of the output; the rest keeps its content
pub record AnswersLast (begun : Begun) (before after : List ℕ) (r : ℕ) : Type 0 where
  pub printed : List ℕ
  pub prints : (w : List ℕ) → Held begun.n begun.bytes w → PrintsLast w printed
  pub count : r ≡ length printed
  pub filled : after ≡ printed ++ drop r before

-- ---- what comes of a run
-- with the line begun before it, an input was answered, piece by piece, and then its end: what each printed, one block after another, is what was
-- written
pub data Blocks : Begun → List ℕ → List ℕ → Type 0 where
  last_block : {begun : Begun} {before after : List ℕ} {r : ℕ} → AnswersLast begun before after r → Blocks begun [] (take r after)
  next-block : {begun next : Begun} {piece before after rest written : List ℕ} {r : Answered} → AnswersPiece piece begun before r next after
      → Blocks next rest written → Blocks begun (take r.used piece ++ rest) (take r.printed after ++ written)
