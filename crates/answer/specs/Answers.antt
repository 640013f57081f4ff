-- An answer by a list of conditions, in the paper's order: the first that does not hold decides (01, "Order"). Definitions only.
use Rattle.std.specs.Prelude.{◌≡◌, List, [], ◌∷◌, ◌⊎◌, ℕ, ◌+◌, ◌*◌}
use Rattle.answer.specs.declared.Answer.{Answer}
use Rattle.answer.specs.Numbers.{done}

-- a is the number n at the place k
pub record Is (a : Answer) (n k : ℕ) : Type 0 where
  pub number : a.number ≡ n
  pub place : a.place ≡ k

-- a grants: number 0, at whatever place
abbrev pub Granted : Answer → Type 0
Granted a = a.number ≡ done

-- an answer as one number: its number, and 256 times its place
abbrev pub packed : Answer → ℕ
packed a = a.number + 256 * a.place

-- what has to hold, and where it does not: the number of the refusal, and which place it names
pub record Condition : Type 1 where
  pub holds : Type 0
  pub number : ℕ
  pub names : ℕ → Type 0

-- a refusal whose place is not named: 0
abbrev pub must : Type 0 → ℕ → Condition
must p n = record { holds = p; number = n; names = λ k. k ≡ 0 }

-- a refusal with a place
abbrev pub must_at : Type 0 → ℕ → (ℕ → Type 0) → Condition
must_at p n at = record { holds = p; number = n; names = at }

-- a is the answer: the first condition that does not hold refuses, with its number and place; where all hold, number 0 at the place that the grant names
abbrev pub Decides : List Condition → (ℕ → Type 0) → Answer → Type 0
Decides [] grants a = Granted a × grants a.place
Decides (c ∷ cs) grants a =
    ((c.holds → ⊥) × (a.number ≡ c.number) × c.names a.place) ⊎ (c.holds × Decides cs grants a)

-- the same, where a grant names this place
abbrev pub DecidesAt : List Condition → ℕ → Answer → Type 0
DecidesAt cs at = Decides cs (λ k. k ≡ at)

-- what is there after the call: after a grant what the grant makes, after a refusal what was there before ("Every refusal keeps state and buffers")
pub record Leaves {S : Type 0} (a : Answer) (made : S → Type 0) (before after : S) : Type 0 where
  pub on-grant : Granted a → made after
  pub on-refusal : (Granted a → ⊥) → after ≡ before

-- every condition of the list holds
abbrev pub AllHold : List Condition → Type 0
AllHold [] = Unit {0}
AllHold (c ∷ cs) = c.holds × AllHold cs

-- the first that does not hold has this number, and names this place
abbrev pub FirstFails : List Condition → ℕ → ℕ → Type 0
FirstFails [] n k = ⊥
FirstFails (c ∷ cs) n k = ((c.holds → ⊥) × (c.number ≡ n) × c.names k) ⊎ (c.holds × FirstFails cs n k)
