-- A shelf of expressions: what stands at a place, what a store makes of it, when it is in order and when it is zero
-- (01, "Expressions and what they mean": "Length 0 to 48"; "Requests": "unused room is zero"). Definitions only.
use Rattle.std.specs.Prelude.{◌≡◌, List, ◌++◌, ℕ, ◌+◌, ◌*◌, ◌-◌, ◌≤◌, length, get_or, take, drop, set, replicate}
use Rattle.expression.specs.declared.Kind.{Kind}
use Rattle.expression.specs.Bytes.{longest, InOrder}

-- so many places: a length for each, and room for 48 bytes
pub record HasPlaces (places : ℕ) (lens bytes : List ℕ) : Type 0 where
  pub lengths : length lens ≡ places
  pub room : length bytes ≡ longest * places

-- the expression at place k: as many bytes as its length says, from 48 k on
abbrev pub stored_at : List ℕ → List ℕ → ℕ → List ℕ
stored_at lens bytes k = take (get_or lens k 0) (drop (longest * k) bytes)

-- the room of place k past its expression
abbrev pub room_past : List ℕ → List ℕ → ℕ → List ℕ
room_past lens bytes k = take (longest - get_or lens k 0) (drop (longest * k + get_or lens k 0) bytes)

-- an expression's bytes, and zero up to 48
unfoldable pub padded : List ℕ → List ℕ
padded x = x ++ replicate (longest - length x) 0

-- the bytes of a shelf with those of x at place k, the room past them zero
unfoldable pub put_bytes : List ℕ → ℕ → List ℕ → List ℕ
put_bytes bytes k x = take (longest * k) bytes ++ padded x ++ drop (longest * k + longest) bytes

-- the shelf after x is stored at place k: its length, its bytes and zero past them there; all else as before
pub record PutAt (lens bytes : List ℕ) (k : ℕ) (x lens' bytes' : List ℕ) : Type 0 where
  pub lengths : lens' ≡ set lens k (length x)
  pub stored : bytes' ≡ put_bytes bytes k x

-- the expression at place k is in order for its kind, over n securons and the depth d: its length is at most 48, and its bytes are right
pub record PartInOrder (kind : Kind) (n d : ℕ) (lens bytes : List ℕ) (k : ℕ) : Type 0 where
  pub short : get_or lens k 0 ≤ longest
  pub in_order : InOrder kind n d (stored_at lens bytes k)

-- every number of l is zero
abbrev pub AllZero : List ℕ → Type 0
AllZero l = (i : ℕ) → get_or l i 0 ≡ 0

-- a shelf that is not used
pub record ZeroShelf (lens bytes : List ℕ) : Type 0 where
  pub lengths : AllZero lens
  pub room : AllZero bytes
