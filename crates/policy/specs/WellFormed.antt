-- When a state is well formed, and what its examination tells. 01, "Requests": "Well formed means: counts and tree as above, every stored expression in order
-- for its kind, held roles present, unused room zero." Definitions only.
use Rattle.std.specs.Prelude.{◌≡◌, ◌↔◌, IsSome, ℕ, ◌<◌, ◌≤◌, length, get_or}
use Rattle.securon.specs.Sets.{set_room}
use Rattle.std.specs.declared.option.Option.TheVariants.{Some}
use Rattle.tree.specs.Grown.{Leveled}
use Rattle.tree.specs.Tree.{IsTree, IsDepth, LevelsOf}
use Rattle.expression.specs.declared.Kind.TheVariants.{Privilege, Protection}
use Rattle.shelf.specs.Shelf.{HasPlaces, PartInOrder, room_past, AllZero, ZeroShelf}
use Rattle.policy.specs.declared.Role.{Role}
use Rattle.policy.specs.declared.File.{File}
use Rattle.policy.specs.declared.State.{State}
use Rattle.policy.specs.declared.Examined.{Examined}
use Rattle.policy.specs.State.{most_roles, most_files, slot_count, IsMode, role_places, file_places, v_plus_place, v_minus_place, m1_place, m2_place, b_place}
use Rattle.policy.specs.State.{t1_place, e_place, t2_place, g_place, role_at, file_at, RolePresent, Present, By, hold_of, role_of}

-- the room of a state: a parent for each securon, 32 roles of thirteen places, 32 files of twenty places, sixteen slots, each place of 48 bytes.
-- Every state that code holds has it
pub record HasRoom (s : State) : Type 0 where
  pub parents : length s.tree.parent ≡ set_room
  pub roles : length s.roles ≡ most_roles
  pub role-places : (i : ℕ) → i < most_roles → HasPlaces role_places (role_at s i).lens (role_at s i).bytes
  pub files : length s.files ≡ most_files
  pub file-places : (i : ℕ) → i < most_files → HasPlaces file_places (file_at s i).lens (file_at s i).bytes
  pub slots : length s.slots ≡ slot_count

-- a role's expressions are all privilege expressions
pub record RoleInOrder (n d : ℕ) (r : Role) : Type 0 where
  pub v-plus : (mode : ℕ) → IsMode mode → PartInOrder Privilege n d r.lens r.bytes (v_plus_place mode)
  pub v-minus : (mode : ℕ) → IsMode mode → PartInOrder Privilege n d r.lens r.bytes (v_minus_place mode)
  pub m1 : PartInOrder Privilege n d r.lens r.bytes m1_place
  pub m2 : PartInOrder Privilege n d r.lens r.bytes m2_place
  pub b : PartInOrder Privilege n d r.lens r.bytes b_place

-- T1 and T2 are protection expressions, E and G privilege expressions
pub record FileInOrder (n d : ℕ) (f : File) : Type 0 where
  pub t1 : (mode : ℕ) → IsMode mode → PartInOrder Protection n d f.lens f.bytes (t1_place mode)
  pub e : (mode : ℕ) → IsMode mode → PartInOrder Privilege n d f.lens f.bytes (e_place mode)
  pub t2 : (mode : ℕ) → IsMode mode → PartInOrder Protection n d f.lens f.bytes (t2_place mode)
  pub g : (mode : ℕ) → IsMode mode → PartInOrder Privilege n d f.lens f.bytes (g_place mode)

-- unused room is zero: the root's parent and those of securons from n up; of a role or file that is there, the bytes of an expression past its length;
-- every role and file that is not there. A free slot keeps nothing
pub record UnusedZero (s : State) : Type 0 where
  pub root : get_or s.tree.parent 0 0 ≡ 0
  pub parents : (u : ℕ) → s.tree.n ≤ u → get_or s.tree.parent u 0 ≡ 0
  pub role-bytes : (i k : ℕ) → RolePresent s i → k < role_places → AllZero (room_past (role_at s i).lens (role_at s i).bytes k)
  pub roles : (i : ℕ) → (RolePresent s i → ⊥) → ZeroShelf (role_at s i).lens (role_at s i).bytes
  pub file-bytes : (i k : ℕ) → Present s i → k < file_places → AllZero (room_past (file_at s i).lens (file_at s i).bytes k)
  pub files : (i : ℕ) → (Present s i → ⊥) → ZeroShelf (file_at s i).lens (file_at s i).bytes

pub record WellFormed (s : State) : Type 0 where
  pub room : HasRoom s
  -- counts and tree as above
  pub tree : IsTree s.tree
  pub role-count : s.nroles ≤ most_roles
  pub file-count : s.nfiles ≤ most_files
  -- every stored expression in order for its kind. (A tree has one depth)
  pub depth : ℕ
  pub is-depth : IsDepth s.tree depth
  pub roles-in-order : (i : ℕ) → RolePresent s i → RoleInOrder s.tree.n depth (role_at s i)
  pub files-in-order : (i : ℕ) → Present s i → FileInOrder s.tree.n depth (file_at s i)
  -- held roles present
  pub held-present : (i r : ℕ) → hold_of s i ≡ By r → RolePresent s r
  -- unused room zero
  pub unused-zero : UnusedZero s

-- what the examination of a state tells: where it is well formed, and only there, its tree with the levels; with it all that a request needs of the state:
-- the tree, the counts and the slots, the role that a slot holds, and a file with its number
pub record Examines (s : State) (slot file : ℕ) (r : Examined) : Type 0 where
  pub says : IsSome r.grown ↔ WellFormed s
  pub grown-is : (g : Leveled) → r.grown ≡ Some g → (g.tree ≡ s.tree) × LevelsOf s.tree g.levels
  pub tree_is : r.tree ≡ s.tree
  pub nroles-is : r.nroles ≡ s.nroles
  pub nfiles-is : r.nfiles ≡ s.nfiles
  pub slots-is : r.slots ≡ s.slots
  pub role-is : role_of s slot < most_roles → r.role ≡ role_at s (role_of s slot)
  pub role-else : most_roles ≤ role_of s slot → r.role ≡ role_at s 0
  pub at-is : file < most_files → r.at ≡ file
  pub at-else : most_files ≤ file → r.at ≡ 0
  pub file-is : r.file ≡ file_at s r.at
