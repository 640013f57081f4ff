-- When a role passes a row, when its mediating sets fit, and what its bypass set has to hold (01, "Rows, roles and the test", "Requests";
-- 02, [2]). Definitions only.
use Rattle.std.specs.Prelude.{◌≡◌, List, ◌⊎◌, ℕ}
use Rattle.securon.specs.Sets.{Set, ◌⊆◌, Apart}
use Rattle.tree.specs.declared.Tree.{Tree}
use Rattle.expression.specs.Bytes.{SET, MeetsT1, MeetsT2}
use Rattle.policy.specs.declared.Role.{Role}
use Rattle.policy.specs.declared.File.{File}
use Rattle.policy.specs.declared.State.{State}
use Rattle.policy.specs.State.{read, write, execute, role_at, file_at, role_part, file_part, v_plus_place, v_minus_place}
use Rattle.policy.specs.State.{m1_place, m2_place, b_place, t1_place, e_place, t2_place, g_place}

-- "A role passes a row when all four hold": V+ meets T1; SET(E) is within V+; V- does not meet T2; V- and SET(G) share no securon
pub record PassesRow (t : Tree) (v_plus v_minus : Set) (t1 e t2 g : List ℕ) : Type 0 where
  pub meets-t1 : MeetsT1 t v_plus t1
  pub has-e : SET t e ⊆ v_plus
  pub not-t2 : MeetsT2 t v_minus t2 → ⊥
  pub apart-g : Apart v_minus (SET t g)

-- the role passes the file's row of that mode, over the tree
abbrev pub RolePasses : Tree → Role → File → ℕ → Type 0
RolePasses t r f mode =
    PassesRow t (SET t (role_part r (v_plus_place mode))) (SET t (role_part r (v_minus_place mode)))
    (file_part f (t1_place mode)) (file_part f (e_place mode)) (file_part f (t2_place mode)) (file_part f (g_place mode))

-- and so for a role and a file of a state, by their numbers
abbrev pub Passes : State → ℕ → ℕ → ℕ → Type 0
Passes s role file mode = RolePasses s.tree (role_at s role) (file_at s file) mode

-- takes content out: Read or Execute (02, [2]: "content comes out")
abbrev pub TakesContentOut : ℕ → Type 0
TakesContentOut mode = (mode ≡ read) ⊎ (mode ≡ execute)

-- Read and Execute: E of the file's Read row within M1, G within M2. Write: M1 within E, M2 within G, of the file's Read row. The other modes ask nothing.
-- Here e and g are those of the Read row
pub record MediatesRow (mode : ℕ) (m1 m2 e g : Set) : Type 0 where
  pub e-in-m1 : TakesContentOut mode → e ⊆ m1
  pub g-in-m2 : TakesContentOut mode → g ⊆ m2
  pub m1-in-e : mode ≡ write → m1 ⊆ e
  pub m2-in-g : mode ≡ write → m2 ⊆ g

-- the role's mediating sets fit the file's Read row for that mode
abbrev pub RoleMediates : Tree → Role → File → ℕ → Type 0
RoleMediates t r f mode =
    MediatesRow mode (SET t (role_part r m1_place)) (SET t (role_part r m2_place)) (SET t (file_part f (e_place read))) (SET t (file_part f (g_place read)))

abbrev pub Mediates : State → ℕ → ℕ → ℕ → Type 0
Mediates s role file mode = RoleMediates s.tree (role_at s role) (file_at s file) mode

-- who enters or leaves where the one set becomes the other
abbrev pub EntersOrLeaves : Set → Set → Set
EntersOrLeaves old new u = (new u × (old u → ⊥)) ⊎ (old u × (new u → ⊥))

-- "every securon that enters or leaves SET(E) or SET(G) is in B"
pub record CoversRow (b old_e new_e old_g new_g : Set) : Type 0 where
  pub of-e : EntersOrLeaves old_e new_e ⊆ b
  pub of-g : EntersOrLeaves old_g new_g ⊆ b

-- the role's bypass set has what a store of e and g into the file's row of that mode needs
abbrev pub RoleCovers : Tree → Role → File → ℕ → List ℕ → List ℕ → Type 0
RoleCovers t r f mode e g =
    CoversRow (SET t (role_part r b_place)) (SET t (file_part f (e_place mode))) (SET t e) (SET t (file_part f (g_place mode))) (SET t g)

abbrev pub Covers : State → ℕ → ℕ → ℕ → List ℕ → List ℕ → Type 0
Covers s role file mode e g = RoleCovers s.tree (role_at s role) (file_at s file) mode e g
