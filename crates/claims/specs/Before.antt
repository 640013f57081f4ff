-- The gate as it was before 02's [2]: an Execute is granted by its own row alone. For an example of demand 3. Definitions only.
use Rattle.std.specs.Prelude.{◌≡◌, List, [], ◌∷◌, ◌++◌, ◌⊎◌, ℕ}
use Rattle.answer.specs.declared.Answer.{Answer}
use Rattle.answer.specs.Answers.{Condition, must}
use Rattle.answer.specs.Numbers.{mediating_unfit}
use Rattle.policy.specs.declared.State.{State}
use Rattle.policy.specs.State.{execute, role_of}
use Rattle.rules.specs.Rules.{Mediates}
use Rattle.gate.specs.Requests.{row_conditions, Does}
use Rattle.machine.specs.Machine.{Request, load, begin, end, ask, change, bypass, Step}

-- 15 as it was: an Execute was granted whatever the mediating sets
abbrev pub mediated_before : State → ℕ → ℕ → ℕ → Condition
mediated_before s slot file mode = must ((mode ≡ execute) ⊎ Mediates s (role_of s slot) file mode) mediating_unfit

abbrev pub ask_conditions_before : State → ℕ → ℕ → ℕ → List Condition
ask_conditions_before s slot file mode = row_conditions s slot file mode mode ++ (mediated_before s slot file mode ∷ [])

-- a step as it was: all but an ask is as it is
abbrev pub StepBefore : State → Request → Answer → State → Type 0
StepBefore s (load image) a t = Step s (load image) a t
StepBefore s (begin slot role) a t = Step s (begin slot role) a t
StepBefore s (end slot) a t = Step s (end slot) a t
StepBefore s (ask slot file mode) a t = Does (ask_conditions_before s slot file mode) 0 s s (record { answer = a; state = t })
StepBefore s (change slot file mode t1 t2) a t = Step s (change slot file mode t1 t2) a t
StepBefore s (bypass slot file mode e g) a t = Step s (bypass slot file mode e g) a t
