-- A format: which bytes say which value, what is at fault in bytes that say none, and the laws of that. A document is all the bytes. Definitions only.
use Rattle.std.specs.Prelude.{◌≡◌, List, [], ◌++◌, ◌⊎◌, ℕ, ◌<◌, ◌≤◌, length}
use Rattle.answer.specs.Numbers.{ends_early}

-- the bytes end early: 3, at their length
abbrev pub Early : List ℕ → ℕ → ℕ → Type 0
Early bs n k = (n ≡ ends_early) × (k ≡ length bs)

-- a number of the papers' table, other than 0
abbrev pub Number : ℕ → Type 0
Number n = (0 < n) × (n < 28)

-- such a number, for what a format refuses
pub record Refusal : Type 0 where
  pub number : ℕ
  pub listed : Number number

-- which bytes say which value; which bytes are at fault, with which number, at which place
abbrev pub Says : Type 0 → Type 1
Says A = List ℕ → A → Type 0

abbrev pub Blames : Type 1
Blames = List ℕ → ℕ → ℕ → Type 0

-- bytes that begin with some that say a value; that say one, all of them; that are at fault somewhere
abbrev pub Front : {A : Type 0} → Says A → List ℕ → Type 0
Front {A} S bs = (x : List ℕ) × (r : List ℕ) × (a : A) × (bs ≡ x ++ r) × S x a

abbrev pub Said : {A : Type 0} → Says A → List ℕ → Type 0
Said {A} S bs = (a : A) × S bs a

abbrev pub Blamed : Blames → List ℕ → Type 0
Blamed B bs = (n : ℕ) × (k : ℕ) × B bs n k

pub record Format (A : Type 0) : Type 1 where
  -- these bytes, all of them, say this value
  pub Takes : Says A
  -- what stands at the front of these bytes is at fault, with this number, at this place
  pub Faults : Blames
  -- bytes that are taken are told apart from whatever follows, and say one value
  pub one : (x y r q : List ℕ) (a b : A) → Takes x a → Takes y b → x ++ r ≡ y ++ q → (x ≡ y) × (a ≡ b)
  -- bytes that begin with taken ones have no fault
  pub apart : (x r : List ℕ) (a : A) (n k : ℕ) → Takes x a → Faults (x ++ r) n k → ⊥
  -- one fault
  pub same : (bs : List ℕ) (n k m l : ℕ) → Faults bs n k → Faults bs m l → (n ≡ m) × (k ≡ l)
  -- all bytes begin with taken ones, or have a fault
  pub total : (bs : List ℕ) → Front Takes bs ⊎ Blamed Faults bs
  -- a fault stays, whatever follows, unless it is that the bytes end early
  pub settled : (bs r : List ℕ) (n k : ℕ) → Faults bs n k → Early bs n k ⊎ Faults (bs ++ r) n k
  -- its number is of the table, its place within the bytes or at their end
  pub inside : (bs : List ℕ) (n k : ℕ) → Faults bs n k → Number n × (k ≤ length bs)

pub record Document (A : Type 0) : Type 1 where
  -- these bytes say this value
  pub Takes : Says A
  -- these bytes are refused, with this number, at this place
  pub Refuses : Blames
  -- one value; taken or refused, and not both; one refusal
  pub one : (bs : List ℕ) (a b : A) → Takes bs a → Takes bs b → a ≡ b
  pub apart : (bs : List ℕ) (a : A) (n k : ℕ) → Takes bs a → Refuses bs n k → ⊥
  pub same : (bs : List ℕ) (n k m l : ℕ) → Refuses bs n k → Refuses bs m l → (n ≡ m) × (k ≡ l)
  pub total : (bs : List ℕ) → Said Takes bs ⊎ Blamed Refuses bs
  -- a refusal stays, whatever follows, unless it is that the bytes end early
  pub settled : (bs r : List ℕ) (n k : ℕ) → Refuses bs n k → Early bs n k ⊎ Refuses (bs ++ r) n k
  -- its number is of the table, its place within the bytes or at their end
  pub inside : (bs : List ℕ) (n k : ℕ) → Refuses bs n k → Number n × (k ≤ length bs)

-- it takes at least a byte
abbrev pub Some : {A : Type 0} → Format A → Type 0
Some {A} F = (a : A) → F.Takes [] a → ⊥
