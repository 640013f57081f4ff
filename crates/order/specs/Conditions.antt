-- Number 6 as a request has it: a condition for each expression (01, "Place for 6"). Definitions only.
use Rattle.std.specs.Prelude.{◌≡◌, List, [], ◌∷◌, ℕ, ◌+◌}
use Rattle.answer.specs.Numbers.{expression_wrong}
use Rattle.answer.specs.Answers.{Condition, must_at}
use Rattle.tree.specs.declared.Tree.{Tree}
use Rattle.expression.specs.declared.Kind.{Kind}
use Rattle.expression.specs.Judge.{InOrderOver, WrongOver}

-- what is added to the places of a request's second expression
abbrev pub second : ℕ
second = 256

-- k is one of the places, with `plus` added
abbrev pub Added : ℕ → (ℕ → Type 0) → ℕ → Type 0
Added plus Place k = (j : ℕ) × Place j × (k ≡ plus + j)

-- 6: the expression is in order for its kind over the tree; else the place for 6, with `plus` added
abbrev pub in_order : Kind → Tree → ℕ → List ℕ → Condition
in_order kind t plus bs = must_at (InOrderOver kind t bs) expression_wrong (Added plus (WrongOver kind t bs))

-- 6 of two expressions: the first is tested first, whole
abbrev pub expression_conditions : Kind → Tree → List ℕ → List ℕ → List Condition
expression_conditions kind t x y = in_order kind t 0 x ∷ in_order kind t second y ∷ []
