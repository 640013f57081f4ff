-- How an answer is printed as a line, and what is kept of a line of input. Definitions only.
use Rattle.std.specs.Prelude.{◌≡◌, Option, MatchOption, List, [], ◌∷◌, ◌++◌, ℕ, ◌/◌, ◌%◌, ◌≤◌, min, length, take, drop}
use Rattle.io.specs.Digits.{hex_digit_ascii, last_digits, IsDigitCount}
use Rattle.answer.specs.declared.Answer.{Answer}
use Rattle.lines.specs.declared.begun.Begun.{Begun}

-- ---- what is printed
-- d is n in decimal, with no more digits than it takes
abbrev pub Decimal : ℕ → List ℕ → Type 0
Decimal n d = (k : ℕ) × IsDigitCount 10 1 n k × (d ≡ last_digits 10 k n)

-- a space and two lowercase hex digits for each byte
abbrev pub hexes : List ℕ → List ℕ
hexes [] = []
hexes (x ∷ xs) = 32 ∷ hex_digit_ascii (x / 16) ∷ hex_digit_ascii (x % 16) ∷ hexes xs

-- the number, a space, the place, the bytes, and a line end
pub record Line (a : Answer) (bytes line : List ℕ) : Type 0 where
  pub number : List ℕ
  pub place : List ℕ
  pub is_number : Decimal a.number number
  pub is-place : Decimal a.place place
  pub is : line ≡ number ++ (32 ∷ (place ++ (hexes bytes ++ (10 ∷ []))))

-- the line of a with these bytes fills the first r bytes of an output; the rest keeps its content
pub record Fills (a : Answer) (bytes before after : List ℕ) (r : ℕ) : Type 0 where
  pub line : List ℕ
  pub is-line : Line a bytes line
  pub count : r ≡ length line
  pub fits : r ≤ length after
  pub filled : after ≡ line ++ drop r before

-- ---- what is kept of a line of input
-- the most bytes of a line that are kept: one more than a text has (01, "Place for 18"), so that a longer line is known by it
abbrev pub most : ℕ
most = 513

-- n bytes of kept are those of the line w, up to most
pub record Held (n : ℕ) (kept w : List ℕ) : Type 0 where
  pub count : n ≡ min most (length w)
  pub is : take n kept ≡ take most w

-- no line end in these bytes
abbrev pub Unended : List ℕ → Type 0
Unended [] = Unit {0}
Unended (x ∷ xs) = (x ≡ 10 → ⊥) × Unended xs

-- of the input, the part up to the next line end, or all of it, was added to the line begun; what is not kept of it keeps its content
pub record Collected (input : List ℕ) (before : Begun) (next : Option ℕ) (after : Begun) : Type 0 where
  pub part : List ℕ
  pub unended : Unended part
  pub ends : MatchOption next (input ≡ part) (λ p. (p ≤ length input) × (input ≡ part ++ (10 ∷ drop p input)))
  pub held : (w : List ℕ) → Held before.n before.bytes w → Held after.n after.bytes (w ++ part)
  pub rest : drop after.n after.bytes ≡ drop after.n before.bytes
