-- What is answered on bytes whatever: right, in order, met, named, or at fault; and 01's number and place for each answer. Definitions only.
use Rattle.std.specs.Prelude.{◌≡◌, Bool, true, ◌↔◌, List, ℕ, ◌<◌, length}
use Rattle.std.specs.declared.result.Result.{Result}
use Rattle.std.specs.declared.result.Result.TheVariants.{Ok, Err}
use Rattle.answer.specs.declared.Answer.{Answer}
use Rattle.answer.specs.Faults.{FaultAt}
use Rattle.answer.specs.Numbers.{done, expression_wrong}
use Rattle.securon.specs.declared.SecuronSet.{SecuronSet}
use Rattle.securon.specs.Sets.{Set, ◌≐◌, marked}
use Rattle.tree.specs.declared.Tree.{Tree}
use Rattle.expression.specs.declared.Kind.{Kind}
use Rattle.expression.specs.declared.Kind.TheVariants.{Privilege, Protection}
use Rattle.expression.specs.Bytes.{Right, InOrder, WrongAt, SET, MeetsT1, MeetsT2}
use Rattle.expression.specs.Judge.{InOrderOver, WrongOver}
use Rattle.order.specs.declared.Scanned.{Scanned}
use Rattle.order.specs.declared.Scanned.TheVariants.{Whole, Short, Fault}
use Rattle.order.specs.declared.Wrong.{Wrong}
use Rattle.order.specs.declared.Mutable.{Mutable}
use Rattle.order.specs.declared.Mutable.TheVariants.{T1, T2}

-- 0, done
abbrev pub fine : Answer
fine = record { number = done; place = 0 }

-- 6, expression wrong, at its place
abbrev pub wrong : ℕ → Answer
wrong k = record { number = expression_wrong; place = k }

-- the number and the place of what a scan of these bytes says; bytes that are not whole are wrong at their end
abbrev pub scan_answer : List ℕ → Scanned → Answer
scan_answer bs Whole = fine
scan_answer bs Short = wrong (length bs)
scan_answer bs (Fault k) = wrong k

-- the number and the place of what was checked first: done; or at fault, whatever was to come of it
abbrev pub check_answer : {A : Type 0} → Result A Wrong → Answer
check_answer (Ok _) = fine
check_answer (Err w) = wrong w.0

-- what a scan of bytes says, however many they are: right as they are; right so far, but not whole; or the first byte that can't stand
abbrev pub Finds : Kind → ℕ → ℕ → List ℕ → Scanned → Type 0
Finds kind n d bs Whole = Right kind n d bs
Finds kind n d bs Short = FaultAt (Right kind n d) bs (length bs)
Finds kind n d bs (Fault k) = (k < length bs) × FaultAt (Right kind n d) bs k

-- what the check of an expression in a request says: in order, or the place for 6
abbrev pub Checks : Kind → ℕ → ℕ → List ℕ → Result (Unit {0}) Wrong → Type 0
Checks kind n d bs (Ok _) = InOrder kind n d bs
Checks kind n d bs (Err w) = WrongAt kind n d bs w.0

-- H meets a mutable part, T1 or T2, each with its own meaning of length 0
abbrev pub MeetsPart : Mutable → Tree → Set → List ℕ → Type 0
MeetsPart T1 t H bs = MeetsT1 t H bs
MeetsPart T2 t H bs = MeetsT2 t H bs

-- on the bytes of a protection: whether they are met; or at fault
abbrev pub Judges : Tree → Mutable → Set → List ℕ → Result Bool Wrong → Type 0
Judges t part H bs (Ok met) = InOrderOver Protection t bs × ((met ≡ true) ↔ MeetsPart part t H bs)
Judges t part H bs (Err w) = WrongOver Protection t bs w.0

-- on the bytes of a privilege: its SET; or at fault, and then no securon is named
abbrev pub NamesSET : Tree → List ℕ → Result SecuronSet Wrong → Type 0
NamesSET t bs (Ok set) = InOrderOver Privilege t bs × (marked set.has ≐ SET t bs)
NamesSET t bs (Err w) = WrongOver Privilege t bs w.0
