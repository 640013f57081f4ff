-- What the exported functions tell beside what the functions under them promise. Definitions only.
use Rattle.std.specs.Prelude.{◌≡◌, List, ℕ, length}
use Rattle.answer.specs.declared.Answer.{Answer}
use Rattle.answer.specs.Answers.{Decides, Leaves, packed}
use Rattle.text.specs.Turn.{text_conditions, text_grants, text_makes}

-- a text was turned into an output: r is the answer (01, "In text": 20, then 18, 19), and a refusal keeps the output as it was
pub record Turns (text before after : List ℕ) (r : ℕ) : Type 0 where
  pub answer : Answer
  pub is : r ≡ packed answer
  pub decides : Decides (text_conditions text (length before)) (text_grants text) answer
  pub leaves : Leaves answer (text_makes text before) before after
