-- What it is that bytes were written into an output. Definitions only.
use Rattle.std.specs.Prelude.{◌≡◌, List, ◌++◌, ℕ, ◌+◌, ◌≤◌, length, take, drop}

-- w was written at the place at, up to r; what stood before and after it stays
pub record WrittenAt (before : List ℕ) (at : ℕ) (w after : List ℕ) (r : ℕ) : Type 0 where
  pub next : r ≡ at + length w
  pub is : take r after ≡ take at before ++ w
  pub rest : drop r after ≡ drop r before
  pub long : length after ≡ length before

-- there is room for w at the place at
abbrev pub RoomFor : List ℕ → ℕ → List ℕ → Type 0
RoomFor out at w = at + length w ≤ length out
