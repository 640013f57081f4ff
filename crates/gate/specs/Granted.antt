-- What a grant tells of each request, by name. Definitions only.
use Rattle.std.specs.Prelude.{◌≡◌, List, ℕ, ◌<◌}
use Rattle.expression.specs.declared.Kind.{Kind}
use Rattle.expression.specs.declared.Kind.TheVariants.{Privilege, Protection}
use Rattle.expression.specs.Judge.{InOrderOver}
use Rattle.policy.specs.declared.State.{State}
use Rattle.policy.specs.State.{slot_count, IsMode, change_protection, RolePresent, Present, Free, hold_of, Taken, role_of}
use Rattle.policy.specs.WellFormed.{WellFormed}
use Rattle.rules.specs.Rules.{Passes, Mediates, Covers}

-- begin: the slot was free, and there is such a role
pub record BeginGranted (s : State) (slot role : ℕ) : Type 0 where
  pub well-formed : WellFormed s
  pub known : slot < slot_count
  pub was_free : hold_of s slot ≡ Free
  pub present : RolePresent s role

-- a request by a session: the slot is taken
pub record SessionGranted (s : State) (slot : ℕ) : Type 0 where
  pub well-formed : WellFormed s
  pub known : slot < slot_count
  pub taken : Taken s slot

-- a request on a file: there is such a file and such a mode, and the session's role passes the row that is judged
pub record RowGranted (s : State) (slot file mode row : ℕ) : Type 0 where
  pub session : SessionGranted s slot
  pub present : Present s file
  pub is-mode : IsMode mode
  pub passes : Passes s (role_of s slot) file row

-- ask: the row is that of the mode, and the mediating sets fit
pub record AskGranted (s : State) (slot file mode : ℕ) : Type 0 where
  pub row : RowGranted s slot file mode mode
  pub mediates : Mediates s (role_of s slot) file mode

-- change and bypass: the row is the Change Protection row, and both expressions are in order
pub record StoreGranted (kind : Kind) (s : State) (slot file mode : ℕ) (x y : List ℕ) : Type 0 where
  pub row : RowGranted s slot file mode change_protection
  pub first : InOrderOver kind s.tree x
  pub second : InOrderOver kind s.tree y

abbrev pub ChangeGranted : State → ℕ → ℕ → ℕ → List ℕ → List ℕ → Type 0
ChangeGranted = StoreGranted Protection

-- bypass: besides, the bypass set has every securon that enters or leaves
pub record BypassGranted (s : State) (slot file mode : ℕ) (e g : List ℕ) : Type 0 where
  pub store : StoreGranted Privilege s slot file mode e g
  pub covers : Covers s (role_of s slot) file mode e g
