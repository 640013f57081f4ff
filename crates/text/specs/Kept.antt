-- The bytes that a text makes, as the reader keeps them: their number, and the bytes while they fit. A device of the proofs.
use Rattle.std.specs.Prelude.{◌≡◌, List, [], ◌∷◌, ◌++◌, ℕ, ◌≤◌, min, length, take}
use Rattle.expression.specs.Bytes.{longest}
use Rattle.text.specs.declared.made.Made.{Made}

-- a number of bytes, where all over the most count alike
abbrev pub capped : ℕ → ℕ
capped n = min 49 n

-- n is the number of the bytes w, or both are over the most
abbrev pub HowMany : ℕ → List ℕ → Type 0
HowMany n w = capped n ≡ capped (length w)

-- m counts the bytes w, and while they fit it has them
pub record Kept (m : Made) (w : List ℕ) : Type 0 where
  pub count : HowMany m.count w
  pub holds : m.count ≤ longest → take m.count m.bytes ≡ w

-- x after all bytes made
abbrev pub Appends : Made → ℕ → Made → Type 0
Appends m x n = (w : List ℕ) → Kept m w → Kept n (w ++ (x ∷ []))

-- x before the bytes made from start on
abbrev pub Inserts : Made → ℕ → ℕ → Made → Type 0
Inserts m start x n = (v w : List ℕ) → HowMany start v → Kept m (v ++ w) → Kept n (v ++ (x ∷ w))
