-- Sets of securons. Definitions only.
use Rattle.std.specs.Prelude.{◌≡◌, Bool, true, false, ◌||◌, List, ◌⊎◌, ◌↔◌, ℕ, eqb, get_or}

infixl 60 ◌∪◌ ◌⊔◌
infix 40 ◌⊆◌ ◌≐◌
-- the room of a set: the numbers that a securon can have are those below. A set has a mark for each of them
abbrev pub set_room : ℕ
set_room = 64

-- a set of securons: who is in it
abbrev pub Set : Type 1
Set = ℕ → Type 0

abbrev pub empty : Set
empty u = ⊥

-- the set with the one member s
abbrev pub only : ℕ → Set
only s u = u ≡ s

abbrev pub ◌∪◌ : Set → Set → Set
◌∪◌ A B u = A u ⊎ B u

-- A is a part of B, is within B
abbrev pub ◌⊆◌ : Set → Set → Type 0
A ⊆ B = (u : ℕ) → A u → B u

-- A and B share no securon
abbrev pub Apart : Set → Set → Type 0
Apart A B = (u : ℕ) → A u → B u → ⊥

-- A and B have the same members
abbrev pub ◌≐◌ : Set → Set → Type 0
A ≐ B = (u : ℕ) → A u ↔ B u

-- a set written out: a mark for each number. The members of a set of sets are such sets
abbrev pub Marks : Type 0
Marks = ℕ → Bool

-- who is marked
abbrev pub on : Marks → Set
on U u = U u ≡ true

-- the one mark at s
abbrev pub mark_of : ℕ → Marks
mark_of s u = eqb u s

-- the marks of A and those of B
abbrev pub ◌⊔◌ : Marks → Marks → Marks
◌⊔◌ A B u = A u || B u

-- who is marked in an array
abbrev pub marked : List Bool → Set
marked l = on (λ u. get_or l u false)
