-- What the functions that print say to each other. A device of the proofs.
use Rattle.std.specs.Prelude.{◌≡◌, Bool, true, false, ◌&&◌, List, [], ◌∷◌, ◌++◌, ℕ, ◌≤◌, eqb, length, get_or}
use Rattle.std.specs.declared.result.Result.{Result}
use Rattle.std.specs.declared.result.Result.TheVariants.{Ok, Err}
use Rattle.answer.specs.declared.Answer.{Answer}
use Rattle.answer.specs.Answers.{Condition, AllHold, FirstFails}
use Rattle.writing.specs.Writing.{WrittenAt, RoomFor}
use Rattle.expression.specs.Expression.{Term, Expr, term}
use Rattle.expression.specs.Bytes.{bytes}
use Rattle.text.specs.Classes.{pick}
use Rattle.print.specs.declared.Printing.{Printing}
use Rattle.print.specs.Print.{and_sign, or_sign, paired, printed}

-- x, where a pair is to stand
abbrev pub bracketed : Bool → ℕ → List ℕ
bracketed true x = x ∷ []
bracketed false x = []

-- whether a pair stands round an operand, by its first byte: with the same operator where it is the right one; else where it is OR under AND
abbrev pub needs_pair : ℕ → Bool → ℕ → Bool
needs_pair under right code = pick (eqb code under) right (eqb under 3 && eqb code 4)

-- the sign of an operator's code
abbrev pub sign_of : ℕ → ℕ
sign_of code = pick (eqb code 3) and_sign or_sign

-- a term stands at the front, and there is room for its print
pub record TermAhead (bs out : List ℕ) (at : ℕ) : Type 0 where
  pub term_is : Term
  pub tail : List ℕ
  pub is : bs ≡ bytes (term term_is) ++ tail
  pub room : RoomFor out at (printed (term term_is))

-- whichever term stands at the front: it has so many bytes, and was printed
abbrev pub PrintsTerm : List ℕ → List ℕ → ℕ → List ℕ → Printing → Type 0
PrintsTerm bs before at after r =
    (x : Term) (tail : List ℕ) → bs ≡ bytes (term x) ++ tail → (r.used ≡ length (bytes (term x))) × WrittenAt before at (printed (term x)) after r.to

-- an expression stands at the front, an operator where it gets a pair, and there is room for its print
pub record Ahead (bs : List ℕ) (pair : Bool) (out : List ℕ) (at : ℕ) : Type 0 where
  pub expr : Expr
  pub tail : List ℕ
  pub is : bs ≡ bytes expr ++ tail
  pub joined : pair ≡ true → 3 ≤ get_or bs 0 0
  pub room : RoomFor out at (paired pair (printed expr))

-- whichever expression stands at the front: it has so many bytes, and was printed
abbrev pub PrintsFront : List ℕ → Bool → List ℕ → ℕ → List ℕ → Printing → Type 0
PrintsFront bs pair before at after r =
    (e : Expr) (tail : List ℕ) → bs ≡ bytes e ++ tail → (r.used ≡ length (bytes e)) × WrittenAt before at (paired pair (printed e)) after r.to

-- what is judged before a print: every condition of the list holds; or the answer is that of the first that does not
abbrev pub Judges : List Condition → Result (Unit {0}) Answer → Type 0
Judges cs (Ok _) = AllHold cs
Judges cs (Err a) = FirstFails cs a.number a.place
