-- What was seen of a state at its examination: for the functions that go on with that, and not with the state. A device of the proofs.
use Rattle.std.specs.Prelude.{ℕ}
use Rattle.policy.specs.declared.State.{State}
use Rattle.policy.specs.declared.Examined.{Examined}
use Rattle.policy.specs.WellFormed.{Examines}

-- some state was seen so, for that slot and that file
abbrev pub Seen : ℕ → ℕ → Examined → Type 0
Seen slot file seen = (s : State) × Examines s slot file seen

-- the same, whatever the file
abbrev pub SeenAt : ℕ → Examined → Type 0
SeenAt slot seen = (file : ℕ) × Seen slot file seen

-- the same, whatever the slot and the file
abbrev pub SeenOnce : Examined → Type 0
SeenOnce seen = (slot : ℕ) × SeenAt slot seen

-- P holds of every state that is seen so, for that slot and that file
abbrev pub Of : ℕ → ℕ → Examined → (State → Type 0) → Type 0
Of slot file seen P = (s : State) → Examines s slot file seen → P s

-- the same, whatever the file
abbrev pub OfAll : ℕ → Examined → (State → Type 0) → Type 0
OfAll slot seen P = (file : ℕ) → Of slot file seen P

-- the same, whatever the slot and the file
abbrev pub OfEach : Examined → (State → Type 0) → Type 0
OfEach seen P = (slot : ℕ) → OfAll slot seen P
