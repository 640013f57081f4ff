-- What the functions inside tell: the table, one field at a place, and the fields behind the code. A device of the proofs.
use Rattle.std.specs.Prelude.{◌≡◌, List, ℕ, ◌+◌, ◌-◌, ◌≤◌, length, take, drop, Option, Some, None}
use Rattle.std.specs.Borrow.{Bor}
use Rattle.records.specs.declared.Span.{Span}
use Rattle.records.specs.declared.Record.{Record}
use Rattle.records.specs.declared.Shape.{Shape}
use Rattle.records.specs.Records.{Listed, most_fields, lead, Field, Fields, spans, filled_up}

-- the shapes of a code, where it has any
abbrev pub ShapesAre : ℕ → Option (Bor (List Shape)) → Type 0
ShapesAre code (Some r) = Listed code r.now × (length r.now ≤ most_fields)
ShapesAre code None = (ss : List Shape) → Listed code ss → ⊥

-- the bytes where a field stands
abbrev pub spanned : List ℕ → Span → List ℕ
spanned bs p = take (p.to - p.from) (drop p.from bs)

-- a field of that shape stands at a place and is so long; or none does
pub record FieldThere (s : Shape) (bs : List ℕ) (at : ℕ) (p : Span) : Type 0 where
  pub field : Field s (drop at bs) (spanned bs p) (drop p.to bs)
  pub from_is : p.from ≡ at + lead s
  pub to_is : p.to ≡ p.from + length (spanned bs p)
  pub ends : p.to ≤ length bs

abbrev pub FieldIs : Shape → List ℕ → ℕ → Option Span → Type 0
FieldIs s bs at (Some p) = FieldThere s bs at p
FieldIs s bs at None = (f rest : List ℕ) → Field s (drop at bs) f rest → ⊥

-- fields of those shapes stand behind the code; or they do not
pub record WalkThere (bs : List ℕ) (code : ℕ) (ss : List Shape) (r : Record) : Type 0 where
  pub code_is : r.code ≡ code
  pub fields : List (List ℕ)
  pub stand : Fields ss (drop 1 bs) fields (drop r.end bs)
  pub placed : r.fields ≡ filled_up (spans 1 ss fields)
  pub ends : r.end ≤ length bs

abbrev pub WalkIs : List ℕ → ℕ → List Shape → Option Record → Type 0
WalkIs bs code ss (Some r) = WalkThere bs code ss r
WalkIs bs code ss None = (fs : List (List ℕ)) (rest : List ℕ) → Fields ss (drop 1 bs) fs rest → ⊥
