-- What the functions that write say to each other. A device of the proofs.
use Rattle.std.specs.Prelude.{◌≡◌, List, ◌++◌, ℕ, ◌≤◌, length, drop}
use Rattle.writing.specs.Writing.{WrittenAt}
use Rattle.lines.specs.declared.begun.Begun.{Begun}
use Rattle.lines.specs.Lines.{Decimal, Held}

-- n was written in decimal
pub record DecimalAt (before : List ℕ) (at n : ℕ) (after : List ℕ) (r : ℕ) : Type 0 where
  pub d : List ℕ
  pub decimal : Decimal n d
  pub short : length d ≤ 20
  pub written : WrittenAt before at d after r

-- a part was added to the line begun, as far as there was room
pub record Keeps (before : Begun) (part : List ℕ) (after : Begun) : Type 0 where
  pub held : (w : List ℕ) → Held before.n before.bytes w → Held after.n after.bytes (w ++ part)
  pub rest : drop after.n after.bytes ≡ drop after.n before.bytes
