-- The place of a first fault: one notion for bytes (01, "Place for 6") and for text ("Place for 18"). Definitions only.
use Rattle.std.specs.Prelude.{◌≡◌, List, ◌++◌, ℕ, ◌+◌, ◌<◌, ◌≤◌, length, take}

-- something legal, of any length, begins with these bytes
abbrev pub CanBegin : (List ℕ → Type 0) → List ℕ → Type 0
CanBegin Legal front = (rest : List ℕ) × Legal (front ++ rest)

-- k is the first byte where nothing legal begins with the bytes up to and with it; or, where there is none, the end of bytes that are not legal
pub record FaultAt (Legal : List ℕ → Type 0) (bytes : List ℕ) (k : ℕ) : Type 0 where
  pub within : k ≤ length bytes
  pub before : CanBegin Legal (take k bytes)
  pub there : k < length bytes → CanBegin Legal (take (k + 1) bytes) → ⊥
  pub at-end : k ≡ length bytes → Legal bytes → ⊥
