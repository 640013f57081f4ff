-- The records of a box: a code, and then fields by the shapes of its code. Definitions only.
use Rattle.std.specs.Prelude.{◌≡◌, List, [], ◌∷◌, ◌++◌, ℕ, ◌+◌, ◌-◌, length, get_or, replicate, Option, Some, None}
use Rattle.fields.specs.Parts.{first_two}
use Rattle.records.specs.declared.Span.{Span}
use Rattle.records.specs.declared.Record.{Record}
use Rattle.records.specs.declared.Shape.{Shape}
use Rattle.records.specs.declared.Shape.TheVariants.{Byte, Short, Long, Quad}

-- the table: the shapes of the fields of a record, by its code (in the names two hex digits). No other code has a record
pub data Listed : ℕ → List Shape → Type 0 where
  code-01 : Listed 1 (Byte ∷ Byte ∷ [])
  code-02 : Listed 2 (Byte ∷ [])
  code-03 : Listed 3 (Byte ∷ Byte ∷ Byte ∷ [])
  code-04 : Listed 4 (Byte ∷ Byte ∷ Byte ∷ Short ∷ Short ∷ [])
  code-05 : Listed 5 (Byte ∷ Byte ∷ Byte ∷ Short ∷ Short ∷ [])
  code-06 : Listed 6 (Long ∷ [])
  code-10 : Listed 16 (Short ∷ [])

-- the most fields that a record has
abbrev pub most_fields : ℕ
most_fields = 8

-- the bytes of the longest record: the code, two bytes of number, and as many as they can say
abbrev pub longest_in_table : ℕ
longest_in_table = 1 + (2 + 65535)

-- how many bytes of number stand before a field; by that number, how many bytes the field has
abbrev pub lead : Shape → ℕ
lead Byte = 0
lead Short = 1
lead Long = 2
lead Quad = 0

abbrev pub size : Shape → List ℕ → ℕ
size Byte number = 1
size Short number = get_or number 0 0
size Long number = first_two number
size Quad number = 4

-- these bytes are a field of that shape, and the rest
pub record Field (s : Shape) (bs f rest : List ℕ) : Type 0 where
  pub number : List ℕ
  pub leads : length number ≡ lead s
  pub sized : length f ≡ size s number
  pub is : bs ≡ number ++ (f ++ rest)

-- these bytes are fields of those shapes, one after another, and the rest
pub data Fields : List Shape → List ℕ → List (List ℕ) → List ℕ → Type 0 where
  none : {rest : List ℕ} → Fields [] rest [] rest
  next : {s : Shape} {ss : List Shape} {bs f mid rest : List ℕ} {fs : List (List ℕ)}
      → Field s bs f mid → Fields ss mid fs rest → Fields (s ∷ ss) bs (f ∷ fs) rest

-- these bytes are a record of the table with this code and these fields, and the rest
pub record Recorded (bs : List ℕ) (code : ℕ) (fs : List (List ℕ)) (rest : List ℕ) : Type 0 where
  pub shapes : List Shape
  pub listed : Listed code shapes
  pub body : List ℕ
  pub is : bs ≡ code ∷ body
  pub fields : Fields shapes body fs rest

-- where fields stand that begin at a place: each behind its number, which stands behind the field before it
abbrev pub spans : ℕ → List Shape → List (List ℕ) → List Span
spans at [] fs = []
spans at (s ∷ ss) [] = []
spans at (s ∷ ss) (f ∷ fs) = record { from = at + lead s; to = at + lead s + length f } ∷ spans (at + lead s + length f) ss fs

-- room that is not used is 0
abbrev pub no_span : Span
no_span = record { from = 0; to = 0 }

abbrev pub filled_up : List Span → List Span
filled_up l = l ++ replicate (most_fields - length l) no_span

-- this record of the table stands at the front of these bytes: its code, its fields and where each stands, and where it ends
pub record Stands (bs : List ℕ) (r : Record) : Type 0 where
  pub fields : List (List ℕ)
  pub rest : List ℕ
  pub recorded : Recorded bs r.code fields rest
  pub placed : r.fields ≡ filled_up (spans 1 recorded.shapes fields)
  pub ends : r.end + length rest ≡ length bs

-- none does
abbrev pub Unrecorded : List ℕ → Type 0
Unrecorded bs = (code : ℕ) (fs : List (List ℕ)) (rest : List ℕ) → Recorded bs code fs rest → ⊥

-- what reading the front of these bytes tells
abbrev pub PartedIs : List ℕ → Option Record → Type 0
PartedIs bs (Some r) = Stands bs r
PartedIs bs None = Unrecorded bs

-- what reading these bytes tells, where nothing is to follow the record
abbrev pub AloneIs : List ℕ → Option Record → Type 0
AloneIs bs (Some r) = Stands bs r × (r.end ≡ length bs)
AloneIs bs None = (code : ℕ) (fs : List (List ℕ)) → Recorded bs code fs [] → ⊥
