-- A state that came by requests from a well-formed one is well formed, so that none of them answers 17. Assumes nothing.
use Rattle.std.specs.Prelude.{◌≡◌, refl, Bool, true, not, ◌&&◌, List, [], ◌∷◌, ℕ, eqb}
use Rattle.std.proofs.Common.{sym, ap, ◌∙◌, subst, inl, inr, arith, eq-eqb}
use Rattle.std.proofs.lemmas.Bool.{false≢true}
use Rattle.std.proofs.Math.Decide.{ℕ_discrete}
use Rattle.answer.specs.declared.Answer.{Answer}
use Rattle.answer.specs.Numbers.{ill_formed}
use Rattle.answer.specs.Answers.{Condition, Decides, Granted}
use Rattle.logic.specs.Iff.{and-iff, iff-refl}
use Rattle.policy.specs.declared.State.{State}
use Rattle.policy.specs.State.{fresh_state}
use Rattle.policy.specs.WellFormed.{WellFormed}
use Rattle.policy.specs.Fresh.{fresh-well-formed}
use Rattle.image.specs.Laws.{granted-well-formed}
use Rattle.gate.specs.Requests.{begin_conditions, end_conditions, ask_conditions, change_conditions, bypass_conditions}
use Rattle.gate.specs.Laws.{begin-kept, end_kept, ask-kept}
use Rattle.gate.proofs.Altering.{change-kept, bypass-kept}
use Rattle.machine.specs.Machine.{Request, load, begin, end, ask, change, bypass, Step, GateEvent, GateRun}
use Rattle.machine.specs.Runs.{none, next}

pub step-well-formed : (a : Answer) (s t : State) (q : Request) → WellFormed s → Step s q a t → WellFormed t
step-well-formed a s t (load image) w st = go (ℕ_discrete a.number 0)
  where
    go : Dec (Granted a) → WellFormed t
    go (yes g) = granted-well-formed image s (record { answer = a; state = t }) st g
    go (no n) = subst WellFormed (sym (st.leaves.on-refusal n)) w
step-well-formed a s t (begin slot role) w st = begin-kept s w slot role _ st
step-well-formed a s t (end slot) w st = end_kept s w slot _ st
step-well-formed a s t (ask slot file mode) w st = ask-kept s w slot file mode _ st
step-well-formed a s t (change slot file mode t1 t2) w st = change-kept s w slot file mode t1 t2 _ st
step-well-formed a s t (bypass slot file mode e g) w st = bypass-kept s w slot file mode e g _ st

-- from a well-formed state every run leads to a well-formed state
pub run-well-formed : {s t : State} {es : List GateEvent} → WellFormed s → GateRun s es t → WellFormed t
run-well-formed w none = w
run-well-formed w (next {e = e} st r) = run-well-formed (step-well-formed e.answer _ _ e.request w st) r

-- whether no condition of the list, and none after the first, has this number
abbrev nowhere : ℕ → List Condition → Bool
nowhere n [] = true
nowhere n (c ∷ cs) = not (eqb c.number n) && nowhere n cs

abbrev not_later : ℕ → List Condition → Bool
not_later n [] = true
not_later n (c ∷ cs) = nowhere n cs

abbrev FirstHolds : List Condition → Type 0
FirstHolds [] = Unit {0}
FirstHolds (c ∷ cs) = c.holds

module _ (grants : ℕ → Type 0) (a : Answer) (n : ℕ) (some : n ≡ 0 → ⊥) where
  not-here : (cs : List Condition) → nowhere n cs ≡ true → Decides cs grants a → a.number ≡ n → ⊥
  not-here [] o d e = some (sym e ∙ d.0)
  not-here (c ∷ cs) o (inl d) e =
      let w = (and-iff (not (eqb c.number n)) (nowhere n cs) iff-refl iff-refl).0 o in
      false≢true (sym (ap not (eq-eqb c.number n (sym d.1 ∙ e))) ∙ w.0)
  not-here (c ∷ cs) o (inr d) e =
      let w = (and-iff (not (eqb c.number n)) (nowhere n cs) iff-refl iff-refl).0 o in not-here cs w.1 d.1 e

  -- where the first condition holds and no later one has the number, the answer has another
  never : (cs : List Condition) → not_later n cs ≡ true → FirstHolds cs → Decides cs grants a → a.number ≡ n → ⊥
  never [] o h d e = some (sym e ∙ d.0)
  never (c ∷ cs) o h (inl d) e = d.0 h
  never (c ∷ cs) o h (inr d) e = not-here cs o d.1 e

-- a request other than load
abbrev pub IsLoad : Request → Type 0
IsLoad (load image) = Unit {0}
IsLoad (begin slot role) = ⊥
IsLoad (end slot) = ⊥
IsLoad (ask slot file mode) = ⊥
IsLoad (change slot file mode t1 t2) = ⊥
IsLoad (bypass slot file mode e g) = ⊥

pub never-17 : (a : Answer) (s t : State) (q : Request) → WellFormed s → Step s q a t → (IsLoad q → ⊥) → a.number ≡ ill_formed → ⊥
never-17 a s t (load image) w st n e = n tt
never-17 a s t (begin slot role) w st n e =
    never (λ k. k ≡ 0) a ill_formed (λ z. omega arith) (begin_conditions s slot role) refl w st.decides e
never-17 a s t (end slot) w st n e =
    never (λ k. k ≡ 0) a ill_formed (λ z. omega arith) (end_conditions s slot) refl w st.decides e
never-17 a s t (ask slot file mode) w st n e =
    never (λ k. k ≡ 0) a ill_formed (λ z. omega arith) (ask_conditions s slot file mode) refl w st.decides e
never-17 a s t (change slot file mode t1 t2) w st n e =
    never (λ k. k ≡ 0) a ill_formed (λ z. omega arith) (change_conditions s slot file mode t1 t2) refl w st.decides e
never-17 a s t (bypass slot file mode x y) w st n e =
    never (λ k. k ≡ 0) a ill_formed (λ z. omega arith) (bypass_conditions s slot file mode x y) refl w st.decides e

-- a state that came from the fresh one by loads and requests never answers 17
pub no-17-from-fresh : {s : State} {es : List GateEvent} → GateRun fresh_state es s → (a : Answer) (t : State) (q : Request) → Step s q a t
    → (IsLoad q → ⊥) → a.number ≡ ill_formed → ⊥
no-17-from-fresh {s} r a t q = never-17 a s t q (run-well-formed fresh-well-formed r)
