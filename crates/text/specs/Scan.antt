-- A text byte by byte: what may come next, and how far a text was read. A device of the proofs.
use Rattle.std.specs.Prelude.{◌≡◌, Bool, true, ◌&&◌, List, [], ◌∷◌, ◌++◌, ℕ, ◌+◌, ◌*◌, ◌<◌, ◌≤◌, ltb, eqb, length, take, get_or}
use Rattle.std.proofs.Math.Option.{Option, none, some}
use Rattle.expression.specs.Expression.{Expr, term, one, range, ◌AND◌, ◌OR◌}
use Rattle.text.specs.Classes.{class_of, value, pick, digit, space, amp, bar, lpar, rpar, lbra, rbra, dot}

-- within one pair of parentheses: what stands before the last | and, after it, before the last &
pub record Frame : Type 0 where
  pub bars : Option Expr
  pub amps : Option Expr

-- what was read before an item: so in the innermost open parentheses, and in those open round them
pub record Left : Type 0 where
  pub bars : Option Expr
  pub amps : Option Expr
  pub outer : List Frame

-- which number of an item: the first, the one before .. or the one after it
pub data Part : Type 0 where
  alone : Part
  from : ℕ → Part
  upto : ℕ → ℕ → Part

-- an item is to come; a number of a range is to come; in a number; after one; between two dots; after an item, joined by & to those before it
pub data State : Type 0 where
  want : Left → State
  bound : Part → Left → State
  digits : Part → ℕ → Left → State
  counted : Part → ℕ → Left → State
  dotted : ℕ → ℕ → Left → State
  done : Expr → Option Expr → List Frame → State

abbrev pub fresh : Left
fresh = record { bars = none; amps = none; outer = [] }

abbrev pub opened : Left → Left
opened l = record { bars = none; amps = none; outer = record { bars = l.bars; amps = l.amps } ∷ l.outer }

abbrev pub and-to : Option Expr → Expr → Expr
and-to none e = e
and-to (some a) e = a AND e

abbrev pub or-to : Option Expr → Expr → Expr
or-to none e = e
or-to (some a) e = a OR e

abbrev pub finish : Left → Expr → State
finish l e = done (and-to l.amps e) l.bars l.outer

abbrev pub shut : Expr → List Frame → Option State
shut e [] = none
shut e (f ∷ o) = some (done (and-to f.amps e) f.bars o)

abbrev pub anded : Expr → Option Expr → List Frame → Left
anded e b o = record { bars = b; amps = some e; outer = o }

abbrev pub ored : Expr → Option Expr → List Frame → Left
ored e b o = record { bars = some (or-to b e); amps = none; outer = o }

abbrev pub after_item : Expr → Option Expr → List Frame → ℕ → Option State
after_item e b o c =
    pick (eqb c amp) (some (want (anded e b o)))
    (pick (eqb c bar) (some (want (ored e b o)))
    (pick (eqb c rpar) (shut (or-to b e) o) none))

abbrev pub after_number : Part → ℕ → Left → ℕ → Option State
after_number alone n l c = pick (eqb c lbra) (some (bound (from n) l)) (after_item (and-to l.amps (term (one n))) l.bars l.outer c)
after_number (from s) n l c = pick (eqb c dot) (some (dotted s n l)) none
after_number (upto s i) n l c = pick (eqb c rbra) (some (finish l (term (range s i n)))) none

-- all numbers are below it: they have one or two digits
abbrev pub below : ℕ
below = 100

-- after the number n a byte of class c, a digit that counts d, makes a longer one: no leading zero, and not too many digits
abbrev pub grows : ℕ → ℕ → ℕ → Bool
grows n c d = eqb c digit && (ltb 0 n && ltb (10 * n + d) below)

-- a number digit by digit
pub data Built : ℕ → List ℕ → Type 0 where
  starts : (x : ℕ) → class_of x ≡ digit → Built (value x) (x ∷ [])
  more : {n : ℕ} {u : List ℕ} → Built n u → (x : ℕ) → grows n (class_of x) (value x) ≡ true → Built (10 * n + value x) (u ++ (x ∷ []))

unfoldable pub move : State → ℕ → ℕ → Option State
move (want l) c d = pick (eqb c space) (some (want l)) (pick (eqb c lpar) (some (want (opened l))) (pick (eqb c digit) (some (digits alone d l)) none))
move (bound p l) c d = pick (eqb c space) (some (bound p l)) (pick (eqb c digit) (some (digits p d l)) none)
move (digits p n l) c d = pick (grows n c d) (some (digits p (10 * n + d) l)) (pick (eqb c space) (some (counted p n l)) (after_number p n l c))
move (counted p n l) c d = pick (eqb c space) (some (counted p n l)) (after_number p n l c)
move (dotted s i l) c d = pick (eqb c dot) (some (bound (upto s i) l)) none
move (done e b o) c d = pick (eqb c space) (some (done e b o)) (after_item e b o c)

abbrev pub step : State → ℕ → Option State
step t x = move t (class_of x) (value x)

-- at a space the state stays
abbrev pub Stays : State → Type 0
Stays t = (d : ℕ) → move t space d ≡ some t

-- what a text that ends there says
abbrev pub item_end : Expr → Option Expr → List Frame → Option Expr
item_end e b [] = some (or-to b e)
item_end e b (f ∷ o) = none

abbrev pub number_end : Part → ℕ → Left → Option Expr
number_end alone n l = item_end (and-to l.amps (term (one n))) l.bars l.outer
number_end (from s) n l = none
number_end (upto s i) n l = none

unfoldable pub ends : State → Option Expr
ends (want l) = none
ends (bound p l) = none
ends (digits p n l) = number_end p n l
ends (counted p n l) = number_end p n l
ends (dotted s i l) = none
ends (done e b o) = item_end e b o

abbrev pub go_on : Option State → (State → Option Expr) → Option Expr
go_on none k = none
go_on (some t) k = k t

-- what the text says that goes on with r from the state t
unfoldable pub scan : State → List ℕ → Option Expr
scan t [] = ends t
scan t (x ∷ r) = go_on (step t x) (λ t'. scan t' r)

-- the bytes u lead to the state t
pub data Reached : List ℕ → State → Type 0 where
  at_first : Reached [] (want fresh)
  by_byte : {u : List ℕ} {t t' : State} (x : ℕ) → Reached u t → step t x ≡ some t' → Reached (u ++ (x ∷ [])) t'

-- ---- the first k bytes of s were read, and at the byte k, or at the end of s, it goes on as from the state o; nowhere where there is none
abbrev pub next_of : Option State → ℕ → Option State
next_of none x = none
next_of (some t) x = step t x

abbrev pub end_of : Option State → Option Expr
end_of none = none
end_of (some t) = ends t

pub record Reaches (s : List ℕ) (k : ℕ) (o : Option State) : Type 0 where
  pub t : State
  pub reached : Reached (take k s) t
  pub byte : k < length s → step t (get_or s k 0) ≡ next_of o (get_or s k 0)
  pub end : length s ≤ k → ends t ≡ end_of o
