-- What each way of making a format takes and what it finds at fault. (Combine, Parts and Document make formats of them, with their laws.) Definitions only.
use Rattle.std.specs.Prelude.{◌≡◌, List, [], ◌∷◌, ◌++◌, ◌⊎◌, ℕ, ◌+◌, ◌<◌, ◌≤◌, length, take}
use Rattle.answer.specs.Numbers.{left_over}
use Rattle.answer.specs.Faults.{FaultAt}
use Rattle.fields.specs.Format.{Says, Blames, Early, Refusal, Format}

-- nothing but a value: no bytes, and no fault
abbrev pub GiveTakes : {A : Type 0} → A → Says A
GiveTakes v x a = (x ≡ []) × (v ≡ a)

abbrev pub GiveFaults : Blames
GiveFaults bs n k = ⊥

-- F, and then the format that its value names: faults are met from the front, so F's decides; only where F is taken is the next one met, from there on
module _ {A B : Type 0} (F : Format A) (G : A → Format B) where
  abbrev pub ThenTakes : Says B
  ThenTakes x b = (y : List ℕ) × (z : List ℕ) × (a : A) × (x ≡ y ++ z) × F.Takes y a × (G a).Takes z b

  abbrev pub ThenFaults : Blames
  ThenFaults bs n k =
      F.Faults bs n k
      ⊎ ((y : List ℕ) × (r : List ℕ) × (a : A) × (j : ℕ) × (bs ≡ y ++ r) × F.Takes y a × (G a).Faults r n j × (k ≡ length y + j))

-- how m bytes are judged: all there, they are good, or wrong at a place; not all there, they are wrong so far, or may go on
pub record Judging (m : ℕ) : Type 1 where
  pub Good : List ℕ → Type 0
  pub Wrong : List ℕ → ℕ → Type 0
  pub one_place : (l : List ℕ) (j k : ℕ) → Wrong l j → Wrong l k → j ≡ k
  pub within : (l : List ℕ) (k : ℕ) → Wrong l k → k ≤ length l
  pub not-both : (l : List ℕ) (k : ℕ) → Good l → Wrong l k → ⊥
  pub all_there : (l : List ℕ) → length l ≡ m → Good l ⊎ ((k : ℕ) × Wrong l k)
  pub so_far : (l : List ℕ) → length l < m → Dec ((k : ℕ) × Wrong l k)
  pub stays : (l r : List ℕ) (k : ℕ) → length l < m → Wrong l k → Wrong (l ++ r) k

-- m bytes, refused with this number where they are wrong, and with 3 where they end before and nothing that is there is wrong
module _ (m : ℕ) (J : Judging m) (refusal : Refusal) where
  abbrev pub StretchTakes : Says (List ℕ)
  StretchTakes x v = (length x ≡ m) × J.Good x × (x ≡ v)

  abbrev pub StretchFaults : Blames
  StretchFaults bs n k =
      (J.Wrong (take m bs) k × (n ≡ refusal.number)) ⊎ ((length bs < m) × ((j : ℕ) → J.Wrong bs j → ⊥) × Early bs n k)

-- a test that comes out
pub record Test (A : Type 0) : Type 1 where
  pub holds : A → Type 0
  pub decides : (a : A) → Dec (holds a)

-- m bytes judged together, once all are there: wrong at the first
abbrev pub WrongTogether : ℕ → Test (List ℕ) → List ℕ → ℕ → Type 0
WrongTogether m t l k = (length l ≡ m) × (t.holds l → ⊥) × (k ≡ 0)

-- m bytes judged one by one: wrong at the first where nothing legal begins with the bytes up to and with it; else, where all are there, at their end
abbrev pub WrongByte : ℕ → (List ℕ → Type 0) → List ℕ → ℕ → Type 0
WrongByte m Legal l k = FaultAt Legal l k × ((k < length l) ⊎ (length l ≡ m))

-- a format, and nothing follows: bytes left over are 7, at the first of them
module _ {A : Type 0} (F : Format A) where
  abbrev pub Over : Blames
  Over bs n k =
      (x : List ℕ) × (r : List ℕ) × (a : A) × (bs ≡ x ++ r) × F.Takes x a × (r ≡ [] → ⊥) × (n ≡ left_over) × (k ≡ length x)

  abbrev pub AloneRefuses : Blames
  AloneRefuses bs n k = F.Faults bs n k ⊎ Over bs n k

-- entries to the end; the first that is at fault
module _ {A : Type 0} (F : Format A) where
  pub data Entries : List ℕ → List A → Type 0 where
    none : Entries [] []
    more : {bs x r : List ℕ} {a : A} {as' : List A} → bs ≡ x ++ r → F.Takes x a → Entries r as' → Entries bs (a ∷ as')

  pub data EntryFaults : List ℕ → ℕ → ℕ → Type 0 where
    here : {bs : List ℕ} {n k : ℕ} → (bs ≡ [] → ⊥) → F.Faults bs n k → EntryFaults bs n k
    later : {bs x r : List ℕ} {a : A} {n j k : ℕ} → bs ≡ x ++ r → F.Takes x a → EntryFaults r n j → k ≡ length x + j → EntryFaults bs n k
