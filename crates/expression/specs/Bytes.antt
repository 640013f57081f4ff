-- Expressions in bytes, and what the bytes mean (01, "In bytes, prefix order", "Place for 6"). Definitions only.
use Rattle.std.specs.Prelude.{◌≡◌, List, [], ◌∷◌, ◌++◌, ◌⊎◌, ℕ, ◌<◌, ◌≤◌, length}
use Rattle.answer.specs.Faults.{FaultAt}
use Rattle.securon.specs.Sets.{Set}
use Rattle.tree.specs.declared.Tree.{Tree}
use Rattle.expression.specs.declared.Kind.{Kind}
use Rattle.expression.specs.declared.Kind.TheVariants.{Privilege, Protection}
use Rattle.expression.specs.Expression.{one, range, Expr, term, ◌AND◌, ◌OR◌, privilege_set, Meets}

-- the most bytes that an expression has
abbrev pub longest : ℕ
longest = 48

-- prefix order: 01 s; 02 s i j; 03 for AND; 04 for OR; an operator is followed by its two operands, whole
abbrev pub bytes : Expr → List ℕ
bytes (term (one s)) = 1 ∷ s ∷ []
bytes (term (range s i j)) = 2 ∷ s ∷ i ∷ j ∷ []
bytes (a AND b) = 3 ∷ (bytes a ++ bytes b)
bytes (a OR b) = 4 ∷ (bytes a ++ bytes b)

-- OR may not stand in a privilege expression
abbrev pub MayOR : Kind → Type 0
MayOR Privilege = ⊥
MayOR Protection = Unit {0}

-- e can stand over n securons and the depth d: every securon below n, every range with i ≤ j ≤ d, OR only where it may
abbrev pub Fits : Kind → ℕ → ℕ → Expr → Type 0
Fits kind n d (term (one s)) = s < n
Fits kind n d (term (range s i j)) = (s < n) × (i ≤ j) × (j ≤ d)
Fits kind n d (a AND b) = Fits kind n d a × Fits kind n d b
Fits kind n d (a OR b) = MayOR kind × Fits kind n d a × Fits kind n d b

-- the bytes of an expression that fits, whole
abbrev pub Written : Kind → ℕ → ℕ → List ℕ → Type 0
Written kind n d bs = (e : Expr) × Fits kind n d e × (bs ≡ bytes e)

-- bytes that are right but for their number: none at all, or those of an expression that fits
abbrev pub Right : Kind → ℕ → ℕ → List ℕ → Type 0
Right kind n d bs = (bs ≡ []) ⊎ Written kind n d bs

-- in order for its kind: right, and length 0 to 48
abbrev pub InOrder : Kind → ℕ → ℕ → List ℕ → Type 0
InOrder kind n d bs = (length bs ≤ longest) × Right kind n d bs

-- the place for 6 in a request: a length over 48 is tested first, at 48; else the first byte that can't stand; else the end of bytes that are not whole
abbrev pub WrongAt : Kind → ℕ → ℕ → List ℕ → ℕ → Type 0
WrongAt kind n d bs k = ((longest < length bs) × (k ≡ longest)) ⊎ ((length bs ≤ longest) × FaultAt (Right kind n d) bs k)

-- SET of a privilege or of an indelible part; length 0 gives the empty set
abbrev pub SET : Tree → List ℕ → Set
SET t bs u = (e : Expr) × (bs ≡ bytes e) × privilege_set t e u

-- held set H meets the protection that stands in these bytes; where none stands, nobody does
abbrev pub MeetsBytes : Tree → Set → List ℕ → Type 0
MeetsBytes t H bs = (e : Expr) × (bs ≡ bytes e) × Meets t H e

-- H meets T1: length 0 is always met
abbrev pub MeetsT1 : Tree → Set → List ℕ → Type 0
MeetsT1 t H bs = (bs ≡ []) ⊎ MeetsBytes t H bs

-- H meets T2: length 0 is never met
abbrev pub MeetsT2 : Tree → Set → List ℕ → Type 0
MeetsT2 t H bs = MeetsBytes t H bs
