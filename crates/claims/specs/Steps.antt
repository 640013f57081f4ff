-- Steps that are granted: what is enough for each. Assumes nothing.
use Rattle.std.specs.Prelude.{◌≡◌, refl, List, [], ◌∷◌, ◌++◌, ℕ, ◌<◌}
use Rattle.std.proofs.Common.{inr}
use Rattle.answer.specs.declared.Answer.{Answer}
use Rattle.answer.specs.Answers.{Condition, DecidesAt, Leaves}
use Rattle.expression.specs.declared.Kind.TheVariants.{Privilege}
use Rattle.policy.specs.declared.State.{State}
use Rattle.policy.specs.State.{slot_count, Free, By, RolePresent, hold_of, with_hold, with_e_g}
use Rattle.policy.specs.WellFormed.{WellFormed}
use Rattle.order.specs.Conditions.{expression_conditions}
use Rattle.gate.specs.Requests.{mediated, covered, row_conditions}
use Rattle.gate.specs.Granted.{SessionGranted, RowGranted, AskGranted, BypassGranted}
use Rattle.machine.specs.Machine.{Request, begin, end, ask, bypass, Step, GateEvent}

-- the answer of a grant
abbrev pub granted : Answer
granted = record { number = 0; place = 0 }

-- a request that was granted in s
abbrev pub done : State → Request → GateEvent
done s q = record { before = s; request = q; answer = granted }

pub made : (before after : State) → Leaves granted (λ t. t ≡ after) before after
made before after = record { on-grant = λ g. refl; on-refusal = λ n. absurd (n refl) }

-- a row that is granted decides the conditions up to it, whatever comes after them
pub row-holds : {s : State} {slot file mode row : ℕ} {a : Answer} (later : List Condition) → RowGranted s slot file mode row → DecidesAt later 0 a
    → DecidesAt (row_conditions s slot file mode row ++ later) 0 a
row-holds later h d =
    let ses = h.session in
    inr (ses.well-formed, inr (ses.known, inr (ses.taken, inr (h.present, inr (h.is-mode, inr (h.passes, d))))))

module _ (s : State) (slot : ℕ) where
  pub begin-step : WellFormed s → slot < slot_count → (role : ℕ) → hold_of s slot ≡ Free → RolePresent s role
      → Step s (begin slot role) granted (with_hold s slot (By role))
  begin-step w few role f h = record { decides = inr (w, inr (few, inr (f, inr (h, (refl, refl))))); leaves = made s _ }

  pub end_step : SessionGranted s slot → Step s (end slot) granted (with_hold s slot Free)
  end_step h = record { decides = inr (h.well-formed, inr (h.known, inr (h.taken, (refl, refl)))); leaves = made s _ }

  module _ (file mode : ℕ) where
    pub ask-step : AskGranted s slot file mode → Step s (ask slot file mode) granted s
    ask-step h = record { decides = row-holds (mediated s slot file mode ∷ []) h.row (inr (h.mediates, (refl, refl))); leaves = made s _ }

    pub bypass-step : (e g : List ℕ) → BypassGranted s slot file mode e g → Step s (bypass slot file mode e g) granted (with_e_g s file mode e g)
    bypass-step e g h =
        let st = h.store in
        let later = expression_conditions Privilege s.tree e g ++ (covered s slot file mode e g ∷ []) in
        record {
          decides = row-holds later st.row (inr (st.first, inr (st.second, inr (h.covers, (refl, refl)))));
          leaves = made s _;
        }
