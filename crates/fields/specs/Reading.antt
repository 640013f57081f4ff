-- What code that reads a format from a place on tells: the one form of its contracts. A device of the proofs.
use Rattle.std.specs.Prelude.{◌≡◌, List, ◌++◌, ◌⊎◌, ℕ, ◌+◌, ◌<◌, ◌≤◌, length, drop, Result, IfOk}
use Rattle.std.specs.declared.result.Result.TheVariants.{Ok, Err}
use Rattle.answer.specs.Numbers.{done, left_over}
use Rattle.answer.specs.declared.Answer.{Answer}
use Rattle.answer.specs.Answers.{Is}
use Rattle.fields.specs.declared.Read.{Read}
use Rattle.fields.specs.declared.Refused.{Refused}
use Rattle.fields.specs.Format.{Number, Refusal, Format}
use Rattle.fields.specs.Means.{Test}
use Rattle.fields.specs.Parts.{between}

-- what comes of a format that is read: its value, and where the next begins; or its refusal
abbrev pub Met : Type 0 → Type 0
Met A = Result (Read A) Refused

abbrev pub read_to : {A : Type 0} → A → ℕ → Met A
read_to v b = Ok (record { value = v; next = b })

abbrev pub refused_at : {A : Type 0} → ℕ → ℕ → Result A Refused
refused_at n k = Err (record { number = n; place = k })

-- the same of what is made of the value; and of no value, only of where the next begins
abbrev pub remade : {A B : Type 0} → (A → B) → Met A → Met B
remade make (Ok r) = read_to (make r.value) r.next
remade make (Err e) = Err e

abbrev pub next_of : {A : Type 0} → Met A → Result ℕ Refused
next_of (Ok r) = Ok r.next
next_of (Err e) = Err e

-- from the place a of bs on: F is taken, says the value, and the next begins behind it; or it is at fault, with a place measured from the start of bs
abbrev pub Comes : {A : Type 0} → Format A → List ℕ → ℕ → Met A → Type 0
Comes F bs a (Ok r) = (x : List ℕ) × (rest : List ℕ) × (drop a bs ≡ x ++ rest) × F.Takes x r.value × (r.next ≡ a + length x)
Comes F bs a (Err e) = (j : ℕ) × F.Faults (drop a bs) e.number j × (e.place ≡ a + j)

-- F is met where `from` says that the next begins; where that is a refusal, it stays
unfoldable pub Reads : {A : Type 0} → Format A → List ℕ → Result ℕ Refused → Met A → Type 0
Reads F bs (Err e) o = o ≡ Err e
Reads F bs (Ok a) o = a ≤ length bs → Comes F bs a o

-- the same, where the value is not handed on
abbrev pub ReadsSome : {A : Type 0} → Format A → List ℕ → Result ℕ Refused → Result ℕ Refused → Type 0
ReadsSome {A} F bs from (Ok b) = (v : A) × Reads F bs from (Ok (record { value = v; next = b }))
ReadsSome F bs from (Err e) = Reads F bs from (Err e)

-- a number from low to high, of a format that is refused with a number of the table. Where it is read, it is in that range, and the next begins within
-- the bytes or at their end
pub record NumberRead (F : Test ℕ → Refusal → Format ℕ) (bs : List ℕ) (from : Result ℕ Refused) (low high number : ℕ) (r : Met ℕ) : Type 0 where
  pub reads : (d : Number number) → Reads (F (between low high) (record { number = number; listed = d })) bs from r
  pub in_range : IfOk r (λ x. (low ≤ x.value) × (x.value ≤ high) × (x.next ≤ length bs))

-- a number that stands at a place, with the next behind it: it is in its range and read, or it is not, and refused where it stands
abbrev pub Ranged : ℕ → ℕ → ℕ → ℕ → ℕ → ℕ → Met ℕ → Type 0
Ranged low high number value at next r =
    ((low ≤ value) × (value ≤ high) × (r ≡ read_to value next)) ⊎ (((between low high).holds value → ⊥) × (r ≡ refused_at number at))

-- the answer where nothing is to follow what was read: a refusal stays; done at the end; else bytes are left over, from there on
abbrev pub Ends : List ℕ → Result ℕ Refused → Answer → Type 0
Ends bs (Err e) a = Is a e.number e.place
Ends bs (Ok b) a = ((length bs ≤ b) × Is a done 0) ⊎ ((b < length bs) × Is a left_over b)
