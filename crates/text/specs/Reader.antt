-- What the reader's functions say to each other: each takes the scan from one state to another, and keeps what it makes. A device of the proofs.
use Rattle.std.specs.Prelude.{◌≡◌, Bool, true, false, ◌&&◌, List, [], ◌∷◌, ◌++◌, ℕ, ◌+◌, ◌<◌, ◌≤◌, ltb, eqb, length, get_or, Result, Ok, Err, MatchResult}
use Rattle.std.proofs.Math.Option.{Option, none, some}
use Rattle.answer.specs.Faults.{FaultAt}
use Rattle.expression.specs.Expression.{Expr, term, range}
use Rattle.expression.specs.Bytes.{bytes}
use Rattle.text.specs.Classes.{class_of, value, pick, digit, space, amp, bar}
use Rattle.text.specs.Text.{TextOf, Legal}
use Rattle.text.specs.Scan.{Frame, Left, Part, alone, from, upto, State, want, bound, digits}
use Rattle.text.specs.Scan.{counted, done, or-to, finish, grows, step, ends, Stays, Reaches}
use Rattle.text.specs.Kept.{HowMany, Kept}
use Rattle.text.specs.declared.reader.Fault.{Fault}
use Rattle.text.specs.declared.made.Made.{Made}
use Rattle.text.specs.declared.reader.Reader.{Reader}

-- how far a text is read, with what was made. ok: up to `at`. Not ok: stopped at `at`
pub record Reading : Type 0 where
  pub text : List ℕ
  pub ok : Bool
  pub at : ℕ
  pub made : Made

-- a reader that goes on
abbrev pub read_on : Reader → Reading
read_on r = record { text = r.text.now; ok = true; at = r.at; made = r.made }

-- a reader after a call: it goes on, or it was stopped at the fault
abbrev pub read_as : {T : Type 0} → Reader → Result T Fault → Reading
read_as r (Ok x) = read_on r
read_as r (Err f) = record { text = r.text.now; ok = false; at = f.at; made = r.made }

-- ---- places
-- a byte of class c stands at the place p
abbrev pub class_at : List ℕ → ℕ → ℕ → Bool
class_at s p c = ltb p (length s) && eqb (class_of (get_or s p 0)) c

-- a digit at p makes a longer number of n
abbrev pub grows_at : List ℕ → ℕ → ℕ → Bool
grows_at s p n = ltb p (length s) && grows n (class_of (get_or s p 0)) (value (get_or s p 0))

-- a byte of class c stands next
abbrev pub stands_next : Reader → ℕ → Bool
stands_next r c = class_at r.text.now r.at c

abbrev pub next_byte : Reader → ℕ
next_byte r = get_or r.text.now r.at 0

-- ---- what was read: the scan is at t, or was stopped
abbrev pub At : Reading → State → Type 0
At g t = Reaches g.text g.at (pick g.ok (some t) none)

-- within the text, and past its spaces
pub record Good (g : Reading) : Type 0 where
  pub within : g.at ≤ length g.text
  pub clear : g.ok ≡ true → class_at g.text g.at space ≡ false

-- further in the same text
pub record On (g r : Reading) : Type 0 where
  pub same : r.text ≡ g.text
  pub on : g.at ≤ r.at
  pub was : r.ok ≡ true → g.ok ≡ true
  pub good : Good r

-- ---- what was made
abbrev pub Holds : Reading → List ℕ → Type 0
Holds g w = g.ok ≡ true → Kept g.made w

-- ---- what each function has read
-- q is the place after the spaces at p
pub record Skipped (s : List ℕ) (p q : ℕ) : Type 0 where
  pub on : p ≤ q
  pub within : q ≤ length s
  pub clear : class_at s q space ≡ false
  pub blank : (k : ℕ) → p ≤ k → k < q → class_of (get_or s k 0) ≡ space
  pub moves : (t : State) → Stays t → Reaches s p (some t) → Reaches s q (some t)

-- r' is r, past one byte of class c
pub record PastByte (r : Reader) (c : ℕ) (r' : Reader) : Type 0 where
  pub stood : stands_next r c ≡ true
  pub is : r' ≡ record r { at = r.at + 1 }

-- no byte of class c stands next: the fault is there
pub record Stops (r : Reader) (c : ℕ) (r' : Reader) (f : Fault) : Type 0 where
  pub other : stands_next r c ≡ false
  pub is : r' ≡ r
  pub there : f.at ≡ r.at

-- past the spaces
pub record Spaced (r r' : Reader) : Type 0 where
  pub is : r' ≡ record r { at = r'.at }
  pub skipped : Skipped r.text.now r.at r'.at

-- past the number n
pub record Counts (r : Reader) (n : ℕ) (r' : Reader) : Type 0 where
  pub is : r' ≡ record r { at = r'.at }
  pub stood : stands_next r digit ≡ true
  pub on : r.at < r'.at
  pub within : r'.at ≤ length r.text.now
  pub moves : (t : State) (p : Part) (l : Left)
      → step t (next_byte r) ≡ some (digits p (value (next_byte r)) l) → Reaches r.text.now r.at (some t)
      → Reaches r.text.now r'.at (some (counted p n l))

-- at the place k the scan goes on from t to t' by a byte of class c, and by no other
pub record Needs (s : List ℕ) (k c : ℕ) (t t' : State) : Type 0 where
  pub byte : k < length s → step t (get_or s k 0) ≡ pick (eqb (class_of (get_or s k 0)) c) (some t') none
  pub end : length s ≤ k → ends t ≡ none

pub record Signed (g : Reading) (c : ℕ) (r : Reading) : Type 0 where
  pub on : On g r
  pub past : g.ok ≡ true → class_at g.text g.at c ≡ true → g.at < r.at
  pub moves : (t t' : State) → (g.ok ≡ true → Needs g.text g.at c t t') → Stays t' → At g t → At r t'
  pub holds : (w : List ℕ) → Holds g w → Holds r w

pub record Dotted (g r : Reading) : Type 0 where
  pub on : On g r
  pub moves : (n i : ℕ) (l : Left) → At g (counted (from n) i l) → At r (bound (upto n i) l)
  pub holds : (w : List ℕ) → Holds g w → Holds r w

pub record Numbered (g r : Reading) : Type 0 where
  pub on : On g r
  pub n : ℕ
  pub moves : (t : State) (p : Part) (l : Left)
      → (g.ok ≡ true → Needs g.text g.at digit t (digits p (value (get_or g.text g.at 0)) l))
      → At g t → At r (counted p n l)
  pub holds : (w : List ℕ) → Holds g w → Holds r (w ++ (n ∷ []))

pub record Ranged (g r : Reading) : Type 0 where
  pub on : On g r
  pub i : ℕ
  pub j : ℕ
  pub moves : (n : ℕ) (l : Left) → At g (counted alone n l) → At r (finish l (term (range n i j)))
  pub holds : (w : List ℕ) → Holds g w → Holds r (w ++ (i ∷ j ∷ []))

pub record Item (g r : Reading) : Type 0 where
  pub on : On g r
  pub e : Expr
  pub moves : (l : Left) → At g (want l) → At r (finish l e)
  pub holds : (w : List ℕ) → Holds g w → Holds r (w ++ bytes e)

-- the bytes that stand before an operand, of the operator's code and of what is to its left
abbrev pub front : ℕ → Option Expr → List ℕ
front code none = []
front code (some e) = code ∷ bytes e

-- for whatever a is joined by & to the first item
pub record Ands (start : ℕ) (g r : Reading) : Type 0 where
  pub on : On g r
  pub no-amp : r.ok ≡ true → class_at r.text r.at amp ≡ false
  pub e : Option Expr → Expr
  pub moves : (b a : Option Expr) (o : List Frame) → At g (want (record { bars = b; amps = a; outer = o })) → At r (done (e a) b o)
  pub holds : (a : Option Expr) (v : List ℕ) → HowMany start v → Holds g (v ++ front 3 a) → Holds r (v ++ bytes (e a))

-- for whatever b is joined by | to the first of them
pub record Ors (start : ℕ) (g r : Reading) : Type 0 where
  pub on : On g r
  pub no-amp : r.ok ≡ true → class_at r.text r.at amp ≡ false
  pub no-bar : r.ok ≡ true → class_at r.text r.at bar ≡ false
  pub b : Option Expr → Option Expr
  pub e : Option Expr → Expr
  pub moves : (x : Option Expr) (o : List Frame) → At g (want (record { bars = x; amps = none; outer = o })) → At r (done (e x) (b x) o)
  pub holds : (x : Option Expr) (v : List ℕ) → HowMany start v → Holds g (v ++ front 4 x) → Holds r (v ++ bytes (or-to (b x) (e x)))

-- the bytes of a legal text, or the place of the first fault
abbrev pub Whole : List ℕ → Result Made Fault → Type 0
Whole s r = MatchResult r (λ m. (b : List ℕ) × TextOf s b × Kept m b) (λ f. FaultAt Legal s f.at)
