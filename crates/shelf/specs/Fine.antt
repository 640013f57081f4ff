-- A shelf place by place, as its test goes: what each of the functions tells. A device of the proofs.
use Rattle.std.specs.Prelude.{◌≡◌, Bool, true, false, ◌&&◌, List, ℕ, ◌<◌, ◌%◌, eqb, length}
use Rattle.expression.specs.declared.Kind.{Kind}
use Rattle.expression.specs.declared.Kind.TheVariants.{Privilege, Protection}
use Rattle.shelf.specs.Shelf.{HasPlaces, room_past, PartInOrder, AllZero, ZeroShelf}

abbrev pub kind_if : Bool → Kind
kind_if true = Protection
kind_if false = Privilege

-- the kind at place k: T1 and T2, at the even places of a file, are protection expressions; all others are privilege expressions
abbrev pub kind_at : Bool → ℕ → Kind
kind_at file k = kind_if (file && eqb (k % 2) 0)

-- the expression at place k is in order for its kind, and the room past it is zero
pub record PlaceFine (kind : Kind) (n d : ℕ) (lens bytes : List ℕ) (k : ℕ) : Type 0 where
  pub part : PartInOrder kind n d lens bytes k
  pub past : AllZero (room_past lens bytes k)

-- and so at every place of a shelf
abbrev pub ShelfFine : Bool → ℕ → ℕ → List ℕ → List ℕ → Type 0
ShelfFine file n d lens bytes = (k : ℕ) → k < length lens → PlaceFine (kind_at file k) n d lens bytes k

-- a shelf that is used is fine, one that is not is zero
pub record UsedOrZero (used file : Bool) (n d : ℕ) (lens bytes : List ℕ) : Type 0 where
  pub fine : used ≡ true → ShelfFine file n d lens bytes
  pub zero : used ≡ false → ZeroShelf lens bytes

-- the same, with its room
pub record ShelfIs (used file : Bool) (places n d : ℕ) (lens bytes : List ℕ) : Type 0 where
  pub room : HasPlaces places lens bytes
  pub is : UsedOrZero used file n d lens bytes
