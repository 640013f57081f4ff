-- Requests one after another: which files content moves between, and what "nobody passes" means. Definitions only.
use Rattle.std.specs.Prelude.{◌≡◌, List, [], ◌∷◌, ◌++◌, ℕ}
use Rattle.answer.specs.Answers.{Granted}
use Rattle.securon.specs.Sets.{Set, ◌⊆◌, Apart}
use Rattle.expression.specs.Bytes.{SET}
use Rattle.policy.specs.declared.State.{State}
use Rattle.policy.specs.State.{read, write, e_of, g_of}
use Rattle.rules.specs.Rules.{TakesContentOut}
use Rattle.machine.specs.Runs.{Grants}
use Rattle.machine.specs.Machine.{Request, load, begin, end, ask, change, bypass, GateEvent}

-- a load or a bypass
abbrev pub Resets : Request → Type 0
Resets (load image) = Unit {0}
Resets (begin slot role) = ⊥
Resets (end slot) = ⊥
Resets (ask slot file mode) = ⊥
Resets (change slot file mode t1 t2) = ⊥
Resets (bypass slot file mode e g) = Unit {0}

-- no load and no bypass is granted in it; refused ones may stand anywhere
abbrev pub Quiet : List GateEvent → Type 0
Quiet [] = Unit {0}
Quiet (e ∷ es) = (Granted e.answer → Resets e.request → ⊥) × Quiet es

-- no session of that slot ends in it
abbrev pub NoEnd : ℕ → List GateEvent → Type 0
NoEnd slot [] = Unit {0}
NoEnd slot (e ∷ es) = (Grants e (end slot) → ⊥) × NoEnd slot es

-- the file that a request is about, by the number that it goes by here: today that of its row, whatever the state that the request met.
-- (A request about no file has 0, which nothing below looks at)
abbrev pub file_of : State → Request → ℕ
file_of s (load image) = 0
file_of s (begin slot role) = 0
file_of s (end slot) = 0
file_of s (ask slot file mode) = file
file_of s (change slot file mode t1 t2) = file
file_of s (bypass slot file mode e g) = file

-- by e the session of that slot takes content out of a file: a granted Read or Execute
pub data TakesOut (e : GateEvent) (slot : ℕ) : Type 0 where
  by-ask : {file mode : ℕ} → TakesContentOut mode → Grants e (ask slot file mode) → TakesOut e slot

-- by e the session of that slot puts content into a file: a granted Write
pub data PutsIn (e : GateEvent) (slot : ℕ) : Type 0 where
  by-write : {file : ℕ} → Grants e (ask slot file write) → PutsIn e slot

-- content moves from file a to file b: on one slot content is taken out of a, and later, with no end of its session in between, put into b
pub record Move (es : List GateEvent) (a b : ℕ) : Type 0 where
  pub slot : ℕ
  pub earlier : List GateEvent
  pub takes : GateEvent
  pub between : List GateEvent
  pub puts : GateEvent
  pub later : List GateEvent
  pub in_order : es ≡ earlier ++ (takes ∷ (between ++ (puts ∷ later)))
  pub takes_out : TakesOut takes slot
  pub from-a : file_of takes.before takes.request ≡ a
  pub puts-in : PutsIn puts slot
  pub to-b : file_of puts.before puts.request ≡ b
  pub not-ended : NoEnd slot between

-- content of a could have moved to b, any number of files long, whatever the moves' order in time. A file reaches itself
pub data Reached (es : List GateEvent) (a : ℕ) : ℕ → Type 0 where
  itself : Reached es a a
  moved : {c b : ℕ} → Reached es a c → Move es c b → Reached es a b

-- the same in time: each move begins after the one before it was over
pub data ReachedInTime : List GateEvent → ℕ → ℕ → Type 0 where
  already : {es : List GateEvent} {a : ℕ} → ReachedInTime es a a
  moved_on : {a c b : ℕ} (xs ys zs : List GateEvent) → ReachedInTime xs a c → Move ys c b → ReachedInTime (xs ++ (ys ++ zs)) a b

-- the indelible read conditions of a file, for sets V+, V-, M1, M2 whatever they are: E within V+, G apart from V-, E within M1,
-- G within M2, for its Read row. Mutable parts have no say
pub record PassesIndelible (s : State) (file : ℕ) (v_plus v_minus m1 m2 : Set) : Type 0 where
  pub e-held : SET s.tree (e_of s file read) ⊆ v_plus
  pub g-apart : Apart v_minus (SET s.tree (g_of s file read))
  pub e-mediated : SET s.tree (e_of s file read) ⊆ m1
  pub g-mediated : SET s.tree (g_of s file read) ⊆ m2
