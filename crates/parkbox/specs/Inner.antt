-- What the functions inside tell. A device of the proofs.
use Rattle.std.specs.Prelude.{◌≡◌, Bool, true, false, Option, Some, None, List, [], ◌++◌, ℕ, ◌<◌, ◌≤◌, length, take, drop}
use Rattle.records.specs.Records.{Unrecorded}
use Rattle.script.specs.Script.{cut_line}
use Rattle.door.specs.Box.{Call, IsBoxRecord}

-- a record stands at the front, and has so many bytes
pub record Sized (bs : List ℕ) (n : ℕ) : Type 0 where
  pub some : 0 < n
  pub within : n ≤ length bs
  pub stands : (c : Call) × IsBoxRecord (take n bs) c []

-- how many bytes the record at the front has; or none stands there
abbrev pub SizeIs : List ℕ → Option ℕ → Type 0
SizeIs bs (Some n) = Sized bs n
SizeIs bs None = Unrecorded bs

-- what is printed where no record stands: `cut`, where bytes are left
abbrev pub last_line : Bool → List ℕ
last_line true = cut_line
last_line false = []

-- it stands at the front of an output
abbrev pub LastTold : Bool → List ℕ → List ℕ → ℕ → Type 0
LastTold left before after r = (r ≡ length (last_line left)) × (after ≡ last_line left ++ drop r before)
