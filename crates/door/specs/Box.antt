-- The box that callers keep: which bytes are the record of which call, and what a call does to the box. Definitions only.
use Rattle.std.specs.Prelude.{◌≡◌, List, [], ◌∷◌, ◌++◌, ◌⊎◌, ℕ, length, drop}
use Rattle.answer.specs.declared.Answer.{Answer}
use Rattle.answer.specs.Answers.{Decides, Leaves, packed}
use Rattle.policy.specs.declared.State.{State}
use Rattle.policy.specs.State.{fresh_state}
use Rattle.print.specs.Print.{PrintOf, print_conditions, print_grants}
use Rattle.machine.specs.Machine.{Request, load, begin, end, ask, change, bypass, Step, GateEvent}
use Rattle.records.specs.Records.{Recorded}
use Rattle.door.specs.declared.BoxRecord.{BoxRecord}

-- bytes that are no record are answered with a number that 01's table does not have, at place 0
abbrev pub no_record : ℕ
no_record = 255

-- the box with the fresh state
abbrev pub fresh_box : BoxRecord
fresh_box = record { state = fresh_state }

-- what a record asks for: a request of the machine, or bytes that the box gives out and that alter nothing: the print of an expression
pub data Call : Type 0 where
  requests : Request → Call
  prints : List ℕ → Call

-- these bytes are the record of a call, and the rest:
-- 01 slot role; 02 slot; 03 slot file mode; 04 or 05 slot file mode and two expressions (change, bypass); 06 image (load); 10 expression (print)
pub data IsBoxRecord (bs : List ℕ) : Call → List ℕ → Type 0 where
  begins : {slot role : ℕ} {rest : List ℕ} → Recorded bs 1 ((slot ∷ []) ∷ (role ∷ []) ∷ []) rest → IsBoxRecord bs (requests (begin slot role)) rest
  ends : {slot : ℕ} {rest : List ℕ} → Recorded bs 2 ((slot ∷ []) ∷ []) rest → IsBoxRecord bs (requests (end slot)) rest
  asks : {slot file mode : ℕ} {rest : List ℕ}
      → Recorded bs 3 ((slot ∷ []) ∷ (file ∷ []) ∷ (mode ∷ []) ∷ []) rest → IsBoxRecord bs (requests (ask slot file mode)) rest
  changes : {slot file mode : ℕ} {t1 t2 rest : List ℕ}
      → Recorded bs 4 ((slot ∷ []) ∷ (file ∷ []) ∷ (mode ∷ []) ∷ t1 ∷ t2 ∷ []) rest → IsBoxRecord bs (requests (change slot file mode t1 t2)) rest
  bypasses : {slot file mode : ℕ} {e g rest : List ℕ}
      → Recorded bs 5 ((slot ∷ []) ∷ (file ∷ []) ∷ (mode ∷ []) ∷ e ∷ g ∷ []) rest → IsBoxRecord bs (requests (bypass slot file mode e g)) rest
  loads : {image rest : List ℕ} → Recorded bs 6 (image ∷ []) rest → IsBoxRecord bs (requests (load image)) rest
  a-print : {x rest : List ℕ} → Recorded bs 16 (x ∷ []) rest → IsBoxRecord bs (prints x) rest

-- the print of x: the state stays; granted it gives out the print, refused nothing
pub record PrintDoes (s : State) (x : List ℕ) (room : ℕ) (a : Answer) (t : State) (given : List ℕ) : Type 0 where
  pub decides : Decides (print_conditions s x room) (print_grants x) a
  pub gives : Leaves a (PrintOf x) [] given
  pub unaltered : t ≡ s

-- a call on a state, with so much room for what it gives out: the answer, the state after it, and the bytes that it gives out. A request gives out none
abbrev pub CallDoes : State → Call → ℕ → Answer → State → List ℕ → Type 0
CallDoes s (requests q) room a t given = Step s q a t × (given ≡ [])
CallDoes s (prints x) room a t given = PrintDoes s x room a t given

-- the request that a call with this answer was of the machine; a print is none
abbrev pub requested : State → Call → Answer → List GateEvent
requested s (requests q) a = record { before = s; request = q; answer = a } ∷ []
requested s (prints x) a = []

-- a call was made of the box: r is its answer as one number, and the bytes that it gives out stand at the front of the room
pub record Makes (b : BoxRecord) (c : Call) (out : List ℕ) (r : ℕ) (after : BoxRecord) (out' : List ℕ) : Type 0 where
  pub answer : Answer
  pub given : List ℕ
  pub does : CallDoes b.state c (length out) answer after.state given
  pub packs : r ≡ packed answer
  pub fills : out' ≡ given ++ drop (length given) out

-- load(image) was made of the box
pub record Refills (b : BoxRecord) (image : List ℕ) (r : ℕ) (after : BoxRecord) : Type 0 where
  pub answer : Answer
  pub steps : Step b.state (load image) answer after.state
  pub packs : r ≡ packed answer

-- the bytes are one whole record of a call and nothing after it, and the call was made of the box
pub record Called (b : BoxRecord) (rec out : List ℕ) (r : ℕ) (after : BoxRecord) (out' : List ℕ) : Type 0 where
  pub call : Call
  pub is : IsBoxRecord rec call []
  pub makes : Makes b call out r after out'

-- they are not, and nothing is altered
pub record Uncalled (b : BoxRecord) (rec out : List ℕ) (r : ℕ) (after : BoxRecord) (out' : List ℕ) : Type 0 where
  pub none : (c : Call) → IsBoxRecord rec c [] → ⊥
  pub told : r ≡ no_record
  pub unaltered : after ≡ b
  pub kept : out' ≡ out

-- what a call with these bytes does to the box and to the room for what is given out
abbrev pub Serves : BoxRecord → List ℕ → List ℕ → ℕ → BoxRecord → List ℕ → Type 0
Serves b rec out r after out' = Called b rec out r after out' ⊎ Uncalled b rec out r after out'
