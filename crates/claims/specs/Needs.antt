-- What an ask needs, as 01 ("Rows, roles and the test") and 02's [2] put it, and what its protections mean, written out. Definitions only.
use Rattle.std.specs.Prelude.{◌≡◌, [], ◌⊎◌, ℕ, ◌<◌}
use Rattle.securon.specs.Sets.{Set, Marks, on, ◌⊆◌}
use Rattle.expression.specs.Expression.{Expr, Value}
use Rattle.expression.specs.Bytes.{bytes, SET}
use Rattle.policy.specs.declared.State.{State}
use Rattle.policy.specs.State.{slot_count, IsMode, read, write, execute, detect, change_protection, Present, Taken, role_of}
use Rattle.policy.specs.State.{v_plus_of, v_minus_of, m1_of, m2_of, t1_of, e_of, t2_of, g_of}
use Rattle.policy.specs.WellFormed.{WellFormed}
use Rattle.rules.specs.Rules.{Passes}

module _ (s : State) (slot file : ℕ) where
  -- the session's role
  abbrev pub its : ℕ
  its = role_of s slot

  -- "Read: passes the Read row, and E of that row within M1, G within M2." (02, [2]:) "From now Execute also needs E of the file's Read row within M1 and
  -- G within M2."
  pub record MayTakeOut (mode : ℕ) : Type 0 where
    pub passes : Passes s its file mode
    pub e-within-m1 : SET s.tree (e_of s file read) ⊆ SET s.tree (m1_of s its)
    pub g-within-m2 : SET s.tree (g_of s file read) ⊆ SET s.tree (m2_of s its)

  -- "Write: passes the Write row, and M1 within E, M2 within G, of the file's Read row (Definition 2.6.7)."
  pub record MayWrite : Type 0 where
    pub passes : Passes s its file write
    pub m1-within-e : SET s.tree (m1_of s its) ⊆ SET s.tree (e_of s file read)
    pub m2-within-g : SET s.tree (m2_of s its) ⊆ SET s.tree (g_of s file read)

  -- "Execute, Detect, Change Protection: pass their own row.", an Execute with what it also needs
  pub data MayAct : ℕ → Type 0 where
    by-reading : MayTakeOut read → MayAct read
    by-writing : MayWrite → MayAct write
    by-executing : MayTakeOut execute → MayAct execute
    by-detecting : Passes s its file detect → MayAct detect
    by-changing : Passes s its file change_protection → MayAct change_protection

  -- all that an ask needs: none of 17, 8, 9, 12, 13 stands against it, and the session's role may act so
  pub record AskNeeds (mode : ℕ) : Type 0 where
    pub well-formed : WellFormed s
    pub slot-known : slot < slot_count
    pub slot-taken : Taken s slot
    pub file-there : Present s file
    pub mode-known : IsMode mode
    pub may : MayAct mode

  module _ (mode : ℕ) where
    -- what the session's role holds for the mode, in the positive and in the negative sense
    abbrev pub held_plus : Set
    held_plus = SET s.tree (v_plus_of s its mode)

    abbrev pub held_minus : Set
    held_minus = SET s.tree (v_minus_of s its mode)

    -- the protections of the row mean their full sets of sets. T1 is empty, or some member of its value, whichever, is a part of V+
    abbrev pub T1Meant : Type 0
    T1Meant = (t1_of s file mode ≡ []) ⊎ ((e : Expr) × (U : Marks) × (t1_of s file mode ≡ bytes e) × Value s.tree e U × (on U ⊆ held_plus))

    -- no member of T2's value, whichever, is a part of V-
    abbrev pub T2Meant : Type 0
    T2Meant = (e : Expr) (U : Marks) → t2_of s file mode ≡ bytes e → Value s.tree e U → on U ⊆ held_minus → ⊥

    pub record ProtectionsMeant : Type 0 where
      pub t1 : T1Meant
      pub t2 : T2Meant
