-- What turning a text answers, and what it leaves in the output (01, "In text", "Numbers given back", "Place for 18", "Order"). Definitions only.
use Rattle.std.specs.Prelude.{◌≡◌, List, [], ◌∷◌, ◌++◌, ◌⊎◌, ℕ, ◌<◌, ◌≤◌, length, drop}
use Rattle.answer.specs.Numbers.{buffer_short, text_wrong, text_long}
use Rattle.answer.specs.Answers.{Condition, must, must_at}
use Rattle.answer.specs.Faults.{FaultAt}
use Rattle.expression.specs.Bytes.{longest}
use Rattle.text.specs.Text.{TextOf, Legal}

-- the most bytes that a text has
abbrev pub longest_text : ℕ
longest_text = 512

-- a text that can be turned
abbrev pub TextRight : List ℕ → Type 0
TextRight s = (length s ≤ longest_text) × Legal s

-- place for 18: text over 512 bytes gives 512; else the first byte where no legal text of any
-- length begins with the bytes up to and with it; else the text's length
abbrev pub TextWrongAt : List ℕ → ℕ → Type 0
TextWrongAt s k = ((longest_text < length s) × (k ≡ longest_text)) ⊎ ((length s ≤ longest_text) × FaultAt Legal s k)

-- the bytes that the text gives are at most 48
abbrev pub TextFits : List ℕ → Type 0
TextFits s = (b : List ℕ) × TextOf s b × (length b ≤ longest)

-- text s into an output of room bytes: 20, then 18, 19
abbrev pub text_conditions : List ℕ → ℕ → List Condition
text_conditions s room = must (longest ≤ room) buffer_short ∷ must_at (TextRight s) text_wrong (TextWrongAt s) ∷ must (TextFits s) text_long ∷ []

-- 0: place is the byte count
abbrev pub text_grants : List ℕ → ℕ → Type 0
text_grants s k = (b : List ℕ) × TextOf s b × (k ≡ length b)

-- a text that is turned fills the first bytes of the output; the rest keeps its content
abbrev pub text_makes : List ℕ → List ℕ → List ℕ → Type 0
text_makes s before after = (b : List ℕ) × TextOf s b × (after ≡ b ++ drop (length b) before)
