-- Well formed, shelf by shelf, as the examination goes: what each of its functions tells. A device of the proofs.
use Rattle.std.specs.Prelude.{◌≡◌, IsSome, refl, Bool, true, false, List, ◌↔◌, ℕ, ◌<◌, ◌≤◌, ltb, length, get_or}
use Rattle.tree.specs.declared.Tree.{Tree}
use Rattle.securon.specs.Sets.{set_room}
use Rattle.std.specs.declared.option.Option.{Option}
use Rattle.std.specs.declared.option.Option.TheVariants.{Some}
use Rattle.tree.specs.Grown.{Leveled}
use Rattle.tree.specs.Tree.{IsTree, LevelsOf}
use Rattle.shelf.specs.Shelf.{ZeroShelf}
use Rattle.shelf.specs.Fine.{ShelfIs}
use Rattle.policy.specs.declared.Role.{Role}
use Rattle.policy.specs.declared.File.{File}
use Rattle.policy.specs.declared.State.{State}
use Rattle.policy.specs.State.{most_roles, most_files, slot_count, role_places, file_places, off_role, off_file, By, held_in, role_in}

-- what roles and files have in common: shelves of so many places, so many of them, and nothing past the last
pub record Shelving (X : Type 0) : Type 0 where
  pub lens_of : X → List ℕ
  pub bytes_of : X → List ℕ
  pub off : X
  pub nothing : ZeroShelf (lens_of off) (bytes_of off)
  pub file : Bool
  pub places : ℕ
  pub most : ℕ

abbrev pub role_shelves : Shelving Role
role_shelves = record {
  lens_of = λ r. r.lens;
  bytes_of = λ r. r.bytes;
  off = off_role;
  nothing = record { lengths = λ i. refl; room = λ i. refl };
  file = false;
  places = role_places;
  most = most_roles;
}

abbrev pub file_shelves : Shelving File
file_shelves = record {
  lens_of = λ f. f.lens;
  bytes_of = λ f. f.bytes;
  off = off_file;
  nothing = record { lengths = λ i. refl; room = λ i. refl };
  file = true;
  places = file_places;
  most = most_files;
}

-- one of them
abbrev pub OneIs : {X : Type 0} → Shelving X → Bool → ℕ → ℕ → X → Type 0
OneIs k used n d x = ShelfIs used k.file k.places n d (k.lens_of x) (k.bytes_of x)

-- all of them; which are used says `used`
pub record AllAre {X : Type 0} (k : Shelving X) (used : ℕ → Bool) (n d : ℕ) (xs : List X) : Type 0 where
  pub room : length xs ≡ k.most
  pub each : (i : ℕ) → i < k.most → OneIs k (used i) n d (get_or xs i k.off)

-- which roles and which files are there, as the test has it
abbrev pub role_used : State → ℕ → Bool
role_used s i = ltb i s.nroles

abbrev pub file_used : State → ℕ → Bool
file_used s i = ltb i s.nfiles

-- a role that the slot holds is below the count
abbrev pub SlotIs : ℕ → ℕ → Type 0
SlotIs count x = (r : ℕ) → held_in x ≡ By r → r < count

pub record SlotsAre (count : ℕ) (slots : List ℕ) : Type 0 where
  pub room : length slots ≡ slot_count
  pub each : (i : ℕ) → i < slot_count → SlotIs count (get_or slots i 0)

-- x is the number of a role: of the one of the slot's session, where that is one of the 32, else 0
pub record RoleHeld (slots : List ℕ) (slot x : ℕ) : Type 0 where
  pub within : x < most_roles
  pub is : role_in (held_in (get_or slots slot 0)) < most_roles → x ≡ role_in (held_in (get_or slots slot 0))
  pub else : most_roles ≤ role_in (held_in (get_or slots slot 0)) → x ≡ 0

-- a tree in its room: the parents that no securon has, those of the root and from n up, are zero
pub record TreeFine (t : Tree) : Type 0 where
  pub room : length t.parent ≡ set_room
  pub is-tree : IsTree t
  pub root : get_or t.parent 0 0 ≡ 0
  pub past : (u : ℕ) → t.n ≤ u → get_or t.parent u 0 ≡ 0

-- the tree with its levels where P holds, and only there
pub record GrownIf (P : Type 0) (t : Tree) (r : Option Leveled) : Type 0 where
  pub says : IsSome r ↔ P
  pub is : (g : Leveled) → r ≡ Some g → (g.tree ≡ t) × LevelsOf t g.levels

-- a state part by part, over the depth d of its tree
pub record StateFine (s : State) (d : ℕ) : Type 0 where
  pub tree : TreeFine s.tree
  pub role-count : s.nroles ≤ most_roles
  pub file-count : s.nfiles ≤ most_files
  pub roles : AllAre role_shelves (role_used s) s.tree.n d s.roles
  pub files : AllAre file_shelves (file_used s) s.tree.n d s.files
  pub slots : SlotsAre s.nroles s.slots

-- all but the tree, over n securons and the depth d
pub record PartsFine (s : State) (n d : ℕ) : Type 0 where
  pub role-count : s.nroles ≤ most_roles
  pub file-count : s.nfiles ≤ most_files
  pub roles : AllAre role_shelves (role_used s) n d s.roles
  pub files : AllAre file_shelves (file_used s) n d s.files
  pub slots : SlotsAre s.nroles s.slots

-- the state with these parts
abbrev pub state_of_parts : Tree → ℕ → List Role → ℕ → List File → List ℕ → State
state_of_parts tree nroles roles nfiles files slots = record { tree = tree; nroles = nroles; roles = roles; nfiles = nfiles; files = files; slots = slots }
