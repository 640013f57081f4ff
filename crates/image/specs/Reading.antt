-- What the readers of an image tell: of the format that each reads, and of what they make of its value. A device of the proofs.
use Rattle.std.specs.Prelude.{◌≡◌, Bool, true, false, ℕ, ◌-◌, ◌<◌, ◌≤◌, length, get_or, set, Result}
use Rattle.std.specs.declared.result.Result.TheVariants.{Ok, Err}
use mathlib.Core.List.{List, [], map, flat_map}
use Rattle.tree.specs.declared.Tree.{Tree}
use Rattle.tree.specs.Tree.{IsTree}
use Rattle.expression.specs.declared.Kind.{Kind}
use Rattle.expression.specs.Bytes.{longest}
use Rattle.shelf.specs.Shelf.{padded}
use Rattle.fields.specs.declared.Refused.{Refused}
use Rattle.fields.specs.Format.{Format}
use Rattle.fields.specs.Combine.{times}
use Rattle.fields.specs.Reading.{Met, read_to, Reads}
use Rattle.image.specs.Image.{Expressions, expression, parent_bytes, filled, tree_of, role_kinds, file_kinds}

-- F is read, and what is read is what is made of its value; or its refusal
abbrev pub ReadsAs : {A X : Type 0} → Format A → (A → X) → List ℕ → Result ℕ Refused → Met X → Type 0
ReadsAs {A} F make bs from (Ok r) = (v : A) × Reads F bs from (read_to v r.next) × (r.value ≡ make v)
ReadsAs F make bs from (Err e) = Reads F bs from (Err e)

-- the parents of n securons are read, and t is their tree
pub record TreeMade (n : ℕ) (bs : List ℕ) (from : Result ℕ Refused) (t : Tree) (next : ℕ) : Type 0 where
  pub parents : List ℕ
  pub reads : Reads (parent_bytes (n - 1)) bs from (read_to parents next)
  pub is : t ≡ tree_of parents
  pub count : length parents ≡ n - 1
  pub grown : IsTree t

abbrev pub TreeRead : ℕ → List ℕ → Result ℕ Refused → Met Tree → Type 0
TreeRead n bs from (Ok r) = TreeMade n bs from r.value r.next
TreeRead n bs from (Err e) = Reads (parent_bytes (n - 1)) bs from (Err e)

-- every expression has at most 48 bytes
abbrev pub Short : Expressions → Type 0
Short xs = (k : ℕ) → k < length xs → length (get_or xs k []) ≤ longest

-- a shelf holds these expressions: their lengths, and their bytes, each expression's with zero up to 48
pub record Holds (xs : Expressions) (lens bytes : List ℕ) : Type 0 where
  pub short : Short xs
  pub lengths : lens ≡ map length xs
  pub room : bytes ≡ flat_map padded xs

-- so many
pub record Stocked (places : ℕ) (lens bytes : List ℕ) : Type 0 where
  pub all : Expressions
  pub count : length all ≡ places
  pub holds : Holds all lens bytes

-- an expression is read, and stored at place k of a shelf: all else that it held stays. A refusal stores nothing
abbrev pub PutRead : Kind → ℕ → ℕ → List ℕ → Result ℕ Refused → ℕ → List ℕ → List ℕ → List ℕ → List ℕ → Result ℕ Refused → Type 0
PutRead kind n d bs from k lens bytes lens' bytes' (Ok b) =
    (xs : Expressions) → Holds xs lens bytes → k < length xs
    → (v : List ℕ) × Reads (expression kind (n - 1) d) bs from (read_to v b) × Holds (set xs k v) lens' bytes'
PutRead kind n d bs from k lens bytes lens' bytes' (Err e) = Reads (expression kind (n - 1) d) bs from (Err e) × (lens' ≡ lens) × (bytes' ≡ bytes)

-- the kinds of a shelf's places: of a file's, or of a role's
abbrev pub kinds_of : Bool → List Kind
kinds_of true = file_kinds
kinds_of false = role_kinds

-- expressions are read, and the shelf holds them; where they are refused, it holds some
abbrev pub ShelfRead : Format Expressions → List ℕ → Result ℕ Refused → List ℕ → List ℕ → Result ℕ Refused → Type 0
ShelfRead F bs from lens bytes (Ok b) = (xs : Expressions) × Reads F bs from (read_to xs b) × Holds xs lens bytes
ShelfRead F bs from lens bytes (Err e) = Reads F bs from (Err e) × ((xs : Expressions) × Holds xs lens bytes)

-- so many rows are read, and all of them stand there, with none from their count up
pub record RowsMade {X : Type 0} (make : Expressions → X) (none : X) (most : ℕ) (F : Format Expressions) (count : ℕ) (bs : List ℕ) (from : Result ℕ Refused)
    (all : List X) (next : ℕ) : Type 0 where
  pub rows : List Expressions
  pub reads : Reads (times count (λ i. F)) bs from (read_to rows next)
  pub is : all ≡ filled most none (map make rows)
  pub many : length rows ≡ count

-- the same; or the refusal of one of them
abbrev pub RowsRead : {X : Type 0} → (Expressions → X) → X → ℕ → Format Expressions → ℕ → List ℕ → Result ℕ Refused → List X → Result ℕ Refused → Type 0
RowsRead make none most F count bs from all (Ok b) = RowsMade make none most F count bs from all b
RowsRead make none most F count bs from all (Err e) = Reads (times count (λ i. F)) bs from (Err e)
