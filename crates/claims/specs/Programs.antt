-- Programs that answer requests, over the states and the requests that code can hold. Definitions only.
use Rattle.std.specs.Prelude.{◌≡◌, List, ℕ, ◌<◌, ◌^◌, get_or}
use Rattle.answer.specs.declared.Answer.{Answer}
use Rattle.policy.specs.declared.State.{State}
use Rattle.policy.specs.State.{role_at, file_at}
use Rattle.policy.specs.WellFormed.{HasRoom}
use Rattle.machine.specs.Machine.{Request, load, begin, end, ask, change, bypass, Step}

-- numbers below m, all of them
abbrev pub AllUnder : ℕ → List ℕ → Type 0
AllUnder m l = (i : ℕ) → get_or l i 0 < m

-- lengths and bytes of a shelf are bytes
pub record ShelfOfBytes (lens bytes : List ℕ) : Type 0 where
  pub lengths : AllUnder 256 lens
  pub room : AllUnder 256 bytes

-- a state that code can hold: its room, counts of 64 bits, slots of 16 bits, and bytes
pub record CodeState (s : State) : Type 0 where
  pub room : HasRoom s
  pub securons : s.tree.n < 2 ^ 64
  pub parents : AllUnder 256 s.tree.parent
  pub role-count : s.nroles < 2 ^ 64
  pub roles : (i : ℕ) → ShelfOfBytes (role_at s i).lens (role_at s i).bytes
  pub file-count : s.nfiles < 2 ^ 64
  pub files : (i : ℕ) → ShelfOfBytes (file_at s i).lens (file_at s i).bytes
  pub slots : AllUnder (2 ^ 16) s.slots

-- a request that code can make: its numbers are bytes, and so are those of an image and of its expressions
abbrev pub CodeRequest : Request → Type 0
CodeRequest (load image) = AllUnder 256 image
CodeRequest (begin slot role) = (slot < 256) × (role < 256)
CodeRequest (end slot) = slot < 256
CodeRequest (ask slot file mode) = (slot < 256) × (file < 256) × (mode < 256)
CodeRequest (change slot file mode t1 t2) = (slot < 256) × (file < 256) × (mode < 256) × AllUnder 256 t1 × AllUnder 256 t2
CodeRequest (bypass slot file mode e g) = (slot < 256) × (file < 256) × (mode < 256) × AllUnder 256 e × AllUnder 256 g

-- a program: what it answers to a request in a state, and the state that it leaves
pub record Program : Type 0 where
  pub answers : State → Request → Answer
  pub leaves : State → Request → State

-- it keeps the promises, wherever code can be asked
abbrev pub Keeps : Program → Type 0
Keeps v = (s : State) (q : Request) → CodeState s → CodeRequest q → Step s q (v.answers s q) (v.leaves s q)

-- one that refuses always; one that answers 0 always
abbrev pub RefusesAlways : Program → Type 0
RefusesAlways v = (s : State) (q : Request) → CodeState s → CodeRequest q → (v.answers s q).number ≡ 0 → ⊥

abbrev pub Answers0Always : Program → Type 0
Answers0Always v = (s : State) (q : Request) → CodeState s → CodeRequest q → (v.answers s q).number ≡ 0

-- one that never stores at requests of a kind: the state after them is the one before
abbrev pub NeverStores : (Request → Type 0) → Program → Type 0
NeverStores Kind v = (s : State) (q : Request) → CodeState s → CodeRequest q → Kind q → v.leaves s q ≡ s

abbrev pub IsBegin : Request → Type 0
IsBegin q = (slot : ℕ) × (role : ℕ) × (q ≡ begin slot role)

abbrev pub IsChange : Request → Type 0
IsChange q = (slot : ℕ) × (file : ℕ) × (mode : ℕ) × (t1 : List ℕ) × (t2 : List ℕ) × (q ≡ change slot file mode t1 t2)

abbrev pub IsBypass : Request → Type 0
IsBypass q = (slot : ℕ) × (file : ℕ) × (mode : ℕ) × (e : List ℕ) × (g : List ℕ) × (q ≡ bypass slot file mode e g)

-- one that works for the first request and then repeats itself: to a second request it gives the first one's answer again
abbrev pub RepeatsItself : Program → Type 0
RepeatsItself v = (s : State) (q p : Request) → CodeState s → CodeRequest q → CodeRequest p → v.answers (v.leaves s q) p ≡ v.answers s q
