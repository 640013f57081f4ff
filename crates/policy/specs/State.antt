-- The state and what stands where in it (01, "Rows, roles and the test", "Requests"). Definitions only.
use Rattle.std.specs.Prelude.{◌≡◌, List, [], ℕ, zero, suc, ◌+◌, ◌*◌, ◌<◌, length, get_or, set, replicate}
use Rattle.securon.specs.Sets.{set_room}
use Rattle.tree.specs.declared.Tree.{Tree}
use Rattle.expression.specs.Bytes.{longest}
use Rattle.shelf.specs.Shelf.{stored_at, put_bytes}
use Rattle.policy.specs.declared.Sense.{Sense}
use Rattle.policy.specs.declared.Sense.TheVariants.{Plus, Minus}
use Rattle.policy.specs.declared.Part.{Part}
use Rattle.policy.specs.declared.Part.TheVariants.{T1, E, T2, G}
use Rattle.policy.specs.declared.Role.{Role}
use Rattle.policy.specs.declared.File.{File}
use Rattle.policy.specs.declared.State.{State}

-- the most roles and the most files (01, "Image": 0 to 32); sixteen slots
abbrev pub most_roles : ℕ
most_roles = 32

abbrev pub most_files : ℕ
most_files = 32

abbrev pub slot_count : ℕ
slot_count = 16

-- modes: 0 Read, 1 Write, 2 Execute, 3 Detect, 4 Change Protection
abbrev pub mode_count : ℕ
mode_count = 5

abbrev pub IsMode : ℕ → Type 0
IsMode mode = mode < mode_count

abbrev pub read : ℕ
read = 0

abbrev pub write : ℕ
write = 1

abbrev pub execute : ℕ
execute = 2

abbrev pub detect : ℕ
detect = 3

abbrev pub change_protection : ℕ
change_protection = 4

-- the places of a role's expressions: mode after mode, V+ then V-; then M1, M2, B
abbrev pub senses : ℕ
senses = 2

abbrev pub sense_number : Sense → ℕ
sense_number Plus = 0
sense_number Minus = 1

abbrev pub role_place : ℕ → ℕ → ℕ
role_place mode sense = senses * mode + sense

abbrev pub v_plus_place : ℕ → ℕ
v_plus_place mode = role_place mode 0

abbrev pub v_minus_place : ℕ → ℕ
v_minus_place mode = role_place mode 1

abbrev pub m1_place : ℕ
m1_place = senses * mode_count

abbrev pub m2_place : ℕ
m2_place = m1_place + 1

abbrev pub b_place : ℕ
b_place = m1_place + 2

abbrev pub role_places : ℕ
role_places = m1_place + 3

-- the places of a file's expressions: mode after mode, T1, E, T2, G
abbrev pub parts : ℕ
parts = 4

abbrev pub part_number : Part → ℕ
part_number T1 = 0
part_number E = 1
part_number T2 = 2
part_number G = 3

abbrev pub file_place : ℕ → ℕ → ℕ
file_place mode part = parts * mode + part

abbrev pub t1_place : ℕ → ℕ
t1_place mode = file_place mode 0

abbrev pub e_place : ℕ → ℕ
e_place mode = file_place mode 1

abbrev pub t2_place : ℕ → ℕ
t2_place mode = file_place mode 2

abbrev pub g_place : ℕ → ℕ
g_place mode = file_place mode 3

abbrev pub file_places : ℕ
file_places = parts * mode_count

-- role i and file i. (Past the last there is nothing)
abbrev pub off_role : Role
off_role = record { lens = []; bytes = [] }

abbrev pub off_file : File
off_file = record { lens = []; bytes = [] }

abbrev pub role_at : State → ℕ → Role
role_at s i = get_or s.roles i off_role

abbrev pub file_at : State → ℕ → File
file_at s i = get_or s.files i off_file

-- which roles and which files are there: those below the count
abbrev pub RolePresent : State → ℕ → Type 0
RolePresent s role = role < s.nroles

abbrev pub Present : State → ℕ → Type 0
Present s file = file < s.nfiles

-- a slot is free or holds a role number
pub data Hold : Type 0 where
  Free : Hold
  By : ℕ → Hold

-- a slot is kept as a number: 0 where it is free, k + 1 where it holds role k
abbrev pub held_in : ℕ → Hold
held_in zero = Free
held_in (suc k) = By k

abbrev pub slot_with : Hold → ℕ
slot_with Free = 0
slot_with (By k) = suc k

-- what slot i holds. (Past the last there is nothing)
abbrev pub hold_of : State → ℕ → Hold
hold_of s i = held_in (get_or s.slots i 0)

abbrev pub Taken : State → ℕ → Type 0
Taken s slot = hold_of s slot ≡ Free → ⊥

-- the role of a session: the one that its slot holds. (Of a free slot, 0: there is no session)
abbrev pub role_in : Hold → ℕ
role_in Free = 0
role_in (By k) = k

abbrev pub role_of : State → ℕ → ℕ
role_of s slot = role_in (hold_of s slot)

-- the expression at place k of a role, of a file
abbrev pub role_part : Role → ℕ → List ℕ
role_part r k = stored_at r.lens r.bytes k

abbrev pub file_part : File → ℕ → List ℕ
file_part f k = stored_at f.lens f.bytes k

-- a role has V+ and V- per mode, mediating sets M1 and M2, and bypass set B
abbrev pub v_plus_of : State → ℕ → ℕ → List ℕ
v_plus_of s role mode = role_part (role_at s role) (v_plus_place mode)

abbrev pub v_minus_of : State → ℕ → ℕ → List ℕ
v_minus_of s role mode = role_part (role_at s role) (v_minus_place mode)

abbrev pub m1_of : State → ℕ → List ℕ
m1_of s role = role_part (role_at s role) m1_place

abbrev pub m2_of : State → ℕ → List ℕ
m2_of s role = role_part (role_at s role) m2_place

abbrev pub b_of : State → ℕ → List ℕ
b_of s role = role_part (role_at s role) b_place

-- a file has a row per mode: T1, E, T2, G
abbrev pub t1_of : State → ℕ → ℕ → List ℕ
t1_of s file mode = file_part (file_at s file) (t1_place mode)

abbrev pub e_of : State → ℕ → ℕ → List ℕ
e_of s file mode = file_part (file_at s file) (e_place mode)

abbrev pub t2_of : State → ℕ → ℕ → List ℕ
t2_of s file mode = file_part (file_at s file) (t2_place mode)

abbrev pub g_of : State → ℕ → ℕ → List ℕ
g_of s file mode = file_part (file_at s file) (g_place mode)

-- the fresh state has the root alone, no role, no file, all slots free; unused room is zero
abbrev pub no_role : Role
no_role = record { lens = replicate role_places 0; bytes = replicate (longest * role_places) 0 }

abbrev pub no_file : File
no_file = record { lens = replicate file_places 0; bytes = replicate (longest * file_places) 0 }

abbrev pub root_alone : Tree
root_alone = record { n = 1; parent = replicate set_room 0 }

abbrev pub fresh_state : State
fresh_state = record {
  tree = root_alone;
  nroles = 0;
  roles = replicate most_roles no_role;
  nfiles = 0;
  files = replicate most_files no_file;
  slots = replicate slot_count (slot_with Free);
}

-- the same state with one field being another
abbrev pub set_tree : State → Tree → State
set_tree s x = record { tree = x; nroles = s.nroles; roles = s.roles; nfiles = s.nfiles; files = s.files; slots = s.slots }

abbrev pub set_nroles : State → ℕ → State
set_nroles s x = record { tree = s.tree; nroles = x; roles = s.roles; nfiles = s.nfiles; files = s.files; slots = s.slots }

abbrev pub set_roles : State → List Role → State
set_roles s x = record { tree = s.tree; nroles = s.nroles; roles = x; nfiles = s.nfiles; files = s.files; slots = s.slots }

abbrev pub set_nfiles : State → ℕ → State
set_nfiles s x = record { tree = s.tree; nroles = s.nroles; roles = s.roles; nfiles = x; files = s.files; slots = s.slots }

abbrev pub set_files : State → List File → State
set_files s x = record { tree = s.tree; nroles = s.nroles; roles = s.roles; nfiles = s.nfiles; files = x; slots = s.slots }

abbrev pub set_slots : State → List ℕ → State
set_slots s x = record { tree = s.tree; nroles = s.nroles; roles = s.roles; nfiles = s.nfiles; files = s.files; slots = x }

-- the same state with slot i holding h
abbrev pub with_hold : State → ℕ → Hold → State
with_hold s i h = set_slots s (set s.slots i (slot_with h))

-- the same state with another role i, another file i
abbrev pub with_role : State → ℕ → Role → State
with_role s i r = set_roles s (set s.roles i r)

abbrev pub with_file : State → ℕ → File → State
with_file s i f = set_files s (set s.files i f)

-- the file with x stored at place k
abbrev pub put_file : File → ℕ → List ℕ → File
put_file f k x = record { lens = set f.lens k (length x); bytes = put_bytes f.bytes k x }

-- the file with x stored at place k, and y two places on: T1 with T2, or E with G
abbrev pub put_pair : File → ℕ → List ℕ → List ℕ → File
put_pair f k x y = put_file (put_file f k x) (k + 2) y

-- the same state with x stored at place k of a file, and y two places on
abbrev pub with_pair : State → ℕ → ℕ → List ℕ → List ℕ → State
with_pair s file k x y = with_file s file (put_pair (file_at s file) k x y)

-- the same state with T1 and T2 of the file's row stored
abbrev pub with_t1_t2 : State → ℕ → ℕ → List ℕ → List ℕ → State
with_t1_t2 s file mode t1 t2 = with_pair s file (t1_place mode) t1 t2

-- the same state with E and G of the file's row stored
abbrev pub with_e_g : State → ℕ → ℕ → List ℕ → List ℕ → State
with_e_g s file mode e g = with_pair s file (e_place mode) e g
