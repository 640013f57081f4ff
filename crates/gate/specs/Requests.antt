-- Each request: its conditions in the order of 01, "Order", and the state after a grant (01, "Requests", "Numbers given back"). Definitions only.
use Rattle.std.specs.Prelude.{◌≡◌, List, [], ◌∷◌, ◌++◌, ℕ, ◌<◌}
use Rattle.answer.specs.declared.Answer.{Answer}
use Rattle.answer.specs.Numbers.{no_slot, slot_free, slot_taken, no_role, no_file, no_mode, row_not_passed, mediating_unfit, bypass_lacks, ill_formed}
use Rattle.answer.specs.Answers.{Condition, must, DecidesAt, Leaves}
use Rattle.expression.specs.declared.Kind.{Kind}
use Rattle.expression.specs.declared.Kind.TheVariants.{Privilege, Protection}
use Rattle.order.specs.Conditions.{expression_conditions}
use Rattle.policy.specs.declared.State.{State}
use Rattle.policy.specs.State.{slot_count, IsMode, change_protection, RolePresent, Present, Free, By, hold_of, Taken, role_of, with_hold, with_t1_t2, with_e_g}
use Rattle.policy.specs.WellFormed.{WellFormed}
use Rattle.rules.specs.Rules.{Passes, Mediates, Covers}

-- 17: the state is well formed
abbrev pub state_well_formed : State → Condition
state_well_formed s = must (WellFormed s) ill_formed

-- 8: the slot number is not over 15
abbrev pub slot_known : ℕ → Condition
slot_known slot = must (slot < slot_count) no_slot

-- 10: the slot is free; 9: it is taken
abbrev pub slot_is_free : State → ℕ → Condition
slot_is_free s slot = must (hold_of s slot ≡ Free) slot_taken

abbrev pub slot_is_taken : State → ℕ → Condition
slot_is_taken s slot = must (Taken s slot) slot_free

-- 11, 12, 13: there is such a role, such a file, such a mode
abbrev pub role_present : State → ℕ → Condition
role_present s role = must (RolePresent s role) no_role

abbrev pub file_present : State → ℕ → Condition
file_present s file = must (Present s file) no_file

abbrev pub mode_known : ℕ → Condition
mode_known mode = must (IsMode mode) no_mode

-- 14: the session's role passes the file's row of that mode
abbrev pub row_passed : State → ℕ → ℕ → ℕ → Condition
row_passed s slot file row = must (Passes s (role_of s slot) file row) row_not_passed

-- 15: its mediating sets fit
abbrev pub mediated : State → ℕ → ℕ → ℕ → Condition
mediated s slot file mode = must (Mediates s (role_of s slot) file mode) mediating_unfit

-- 16: its bypass set has every securon that enters or leaves
abbrev pub covered : State → ℕ → ℕ → ℕ → List ℕ → List ℕ → Condition
covered s slot file mode e g = must (Covers s (role_of s slot) file mode e g) bypass_lacks

-- 17, 8: what every request begins with
abbrev pub slot_conditions : State → ℕ → List Condition
slot_conditions s slot = state_well_formed s ∷ slot_known slot ∷ []

-- begin: 17, 8, 10, 11
abbrev pub begin_conditions : State → ℕ → ℕ → List Condition
begin_conditions s slot role = slot_conditions s slot ++ (slot_is_free s slot ∷ role_present s role ∷ [])

-- 17, 8, 9: what every request by a session begins with
abbrev pub session_conditions : State → ℕ → List Condition
session_conditions s slot = slot_conditions s slot ++ (slot_is_taken s slot ∷ [])

-- end: 17, 8, 9
abbrev pub end_conditions : State → ℕ → List Condition
end_conditions s slot = session_conditions s slot

-- 17, 8, 9, 12, 13, 14: what ask, change and bypass begin with. `row` is the mode of the row that is judged
abbrev pub row_conditions : State → ℕ → ℕ → ℕ → ℕ → List Condition
row_conditions s slot file mode row = session_conditions s slot ++ (file_present s file ∷ mode_known mode ∷ row_passed s slot file row ∷ [])

-- ask: 17, 8, 9, 12, 13, 14, 15. The row is that of the mode asked for
abbrev pub ask_conditions : State → ℕ → ℕ → ℕ → List Condition
ask_conditions s slot file mode = row_conditions s slot file mode mode ++ (mediated s slot file mode ∷ [])

-- 17, 8, 9, 12, 13, 14, 6: what change and bypass have in common. The row judged is the file's Change Protection row as it was, alone
abbrev pub store_conditions : Kind → State → ℕ → ℕ → ℕ → List ℕ → List ℕ → List Condition
store_conditions kind s slot file mode x y = row_conditions s slot file mode change_protection ++ expression_conditions kind s.tree x y

-- change: 17, 8, 9, 12, 13, 14, 6. T1 and T2 are protection expressions
abbrev pub change_conditions : State → ℕ → ℕ → ℕ → List ℕ → List ℕ → List Condition
change_conditions s slot file mode t1 t2 = store_conditions Protection s slot file mode t1 t2

-- bypass: the same, then 16. E and G are privilege expressions
abbrev pub bypass_conditions : State → ℕ → ℕ → ℕ → List ℕ → List ℕ → List Condition
bypass_conditions s slot file mode e g = store_conditions Privilege s slot file mode e g ++ (covered s slot file mode e g ∷ [])

-- what comes of a request: the answer, and the state after it
pub record Outcome : Type 0 where
  pub answer : Answer
  pub state : State

-- what a request does: its conditions decide the answer, at that place where they grant; a grant makes the state `made`, a refusal keeps the state
pub record Does (cs : List Condition) (at : ℕ) (made before : State) (r : Outcome) : Type 0 where
  pub decides : DecidesAt cs at r.answer
  pub leaves : Leaves r.answer (λ t. t ≡ made) before r.state

-- begin(slot, role): the slot holds the role asked for
abbrev pub Begins : State → ℕ → ℕ → Outcome → Type 0
Begins s slot role = Does (begin_conditions s slot role) 0 (with_hold s slot (By role)) s

-- end(slot): the slot is free
abbrev pub Ends : State → ℕ → Outcome → Type 0
Ends s slot = Does (end_conditions s slot) 0 (with_hold s slot Free) s

-- ask(slot, file, mode): changes nothing
abbrev pub Asks : State → ℕ → ℕ → ℕ → Outcome → Type 0
Asks s slot file mode = Does (ask_conditions s slot file mode) 0 s s

-- change(slot, file, mode, T1, T2): stores both
abbrev pub Changes : State → ℕ → ℕ → ℕ → List ℕ → List ℕ → Outcome → Type 0
Changes s slot file mode t1 t2 = Does (change_conditions s slot file mode t1 t2) 0 (with_t1_t2 s file mode t1 t2) s

-- bypass(slot, file, mode, E, G): stores both
abbrev pub Bypasses : State → ℕ → ℕ → ℕ → List ℕ → List ℕ → Outcome → Type 0
Bypasses s slot file mode e g = Does (bypass_conditions s slot file mode e g) 0 (with_e_g s file mode e g) s
