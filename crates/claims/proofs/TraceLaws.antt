-- What every step and every run keeps. Assumes nothing.
use Rattle.std.specs.Prelude.{◌≡◌, refl, List, [], ◌∷◌, ◌++◌, ℕ}
use Rattle.std.proofs.Common.{sym, ap, ◌∙◌, subst}
use Rattle.std.proofs.Math.Decide.{ℕ_discrete}
use Rattle.answer.specs.declared.Answer.{Answer}
use Rattle.answer.specs.Answers.{Granted, Leaves}
use Rattle.policy.specs.declared.State.{State}
use Rattle.policy.specs.State.{IsMode, Hold, Free, By, hold_of, e_of, g_of, with_hold, with_t1_t2}
use Rattle.policy.specs.Whole.{free-held}
use Rattle.policy.specs.Reads.{hold-there, change-keeps}
use Rattle.gate.specs.Laws.{begin-granted, end-granted}
use Rattle.gate.proofs.Altering.{change-granted}
use Rattle.machine.specs.Runs.{none, next}
use Rattle.machine.specs.Machine.{Request, load, begin, end, ask, change, bypass, Step, GateEvent, GateRun}
use Rattle.claims.specs.Trace.{Resets, Quiet, NoEnd}

-- the tree, the roles and every indelible part of t are those of s
pub record Kept (s t : State) : Type 0 where
  pub tree : t.tree ≡ s.tree
  pub roles : t.roles ≡ s.roles
  pub e : (file mode : ℕ) → IsMode mode → e_of t file mode ≡ e_of s file mode
  pub g : (file mode : ℕ) → IsMode mode → g_of t file mode ≡ g_of s file mode

pub kept_same : {s t : State} → t ≡ s → Kept s t
kept_same {s} {t} q = subst (Kept s) (sym q) (record { tree = refl; roles = refl; e = λ f m h. refl; g = λ f m h. refl })

hold-keeps : (s : State) (slot : ℕ) (h : Hold) → Kept s (with_hold s slot h)
hold-keeps s slot h = record { tree = refl; roles = refl; e = λ f m q. refl; g = λ f m q. refl }

pub kept_then : {s m t : State} → Kept s m → Kept m t → Kept s t
kept_then p q = record {
  tree = q.tree ∙ p.tree;
  roles = q.roles ∙ p.roles;
  e = λ f m h. q.e f m h ∙ p.e f m h;
  g = λ f m h. q.g f m h ∙ p.g f m h;
}

module _ {s t : State} (a : Answer) where
  -- what holds where a state is made and where it stays holds after any step
  after : (P : State → Type 0) {made : State} → Leaves a (λ u. u ≡ made) s t → (Granted a → P made) → P s → P t
  after P l m o = go (ℕ_discrete a.number 0)
    where
      go : Dec (Granted a) → P t
      go (yes g) = subst P (sym (l.on-grant g)) (m g)
      go (no n) = subst P (sym (l.on-refusal n)) o

  -- a step that is no granted load and no granted bypass keeps them
  pub step_keeps : (q : Request) → Step s q a t → (Granted a → Resets q → ⊥) → Kept s t
  step_keeps (load image) st quiet = kept_same (st.leaves.on-refusal (λ g. quiet g tt))
  step_keeps (begin slot role) st quiet = after (Kept s) st.leaves (λ g. hold-keeps s slot (By role)) (kept_same refl)
  step_keeps (end slot) st quiet = after (Kept s) st.leaves (λ g. hold-keeps s slot Free) (kept_same refl)
  step_keeps (ask slot file mode) st quiet = after (Kept s) st.leaves (λ g. kept_same refl) (kept_same refl)
  step_keeps (change slot file mode x y) st quiet = after (Kept s) st.leaves (λ g. stored g) (kept_same refl)
    where
      stored : Granted a → Kept s (with_t1_t2 s file mode x y)
      stored g =
          let w = change-granted s slot a file mode x y st.decides g in
          let row = w.row in
          let c = change-keeps s row.session.well-formed file row.present mode row.is-mode x y w.first.2.0 w.second.2.0 in
          record { tree = refl; roles = refl; e = λ i m h. (c i m h).0; g = λ i m h. (c i m h).1 }
  step_keeps (bypass slot file mode x y) st quiet = kept_same (st.leaves.on-refusal (λ g. quiet g tt))

pub run-keeps : {s t : State} {es : List GateEvent} → GateRun s es t → Quiet es → Kept s t
run-keeps none q = kept_same refl
run-keeps (next {e = e} st r) q = kept_then (step_keeps e.answer e.request st q.0) (run-keeps r q.1)

-- a session goes on: while it is not ended, its slot holds its role
module _ (a : Answer) (s t : State) (slot role : ℕ) where
  step-holds : (q : Request) → Step s q a t → (Granted a → Resets q → ⊥) → (Granted a → q ≡ end slot → ⊥) → hold_of s slot ≡ By role → hold_of t slot ≡ By role
  step-holds (load image) st quiet on h = ap (λ (x : State). hold_of x slot) (st.leaves.on-refusal (λ g. quiet g tt)) ∙ h
  step-holds (begin other r) st quiet on h = after a (λ x. hold_of x slot ≡ By role) st.leaves (λ g. go g (ℕ_discrete slot other)) h
    where
      go : Granted a → Dec (slot ≡ other) → hold_of (with_hold s other (By r)) slot ≡ By role
      go g (yes q) =
          let w = begin-granted s other a r st.decides g in
          let f : hold_of s slot ≡ Free = rw q w.was_free in
          absurd (free-held (sym f ∙ h))
      go g (no n) =
          let w = begin-granted s other a r st.decides g in
          hold-there s w.well-formed.room other (By r) slot n ∙ h
  step-holds (end other) st quiet on h = after a (λ x. hold_of x slot ≡ By role) st.leaves (λ g. go g (ℕ_discrete slot other)) h
    where
      go : Granted a → Dec (slot ≡ other) → hold_of (with_hold s other Free) slot ≡ By role
      go g (yes q) = absurd (on g (ap end (sym q)))
      go g (no n) =
          let w = end-granted s other a st.decides g in
          hold-there s w.well-formed.room other Free slot n ∙ h
  step-holds (ask x file mode) st quiet on h = after a (λ x. hold_of x slot ≡ By role) st.leaves (λ g. h) h
  step-holds (change x file mode p q) st quiet on h = after a (λ x. hold_of x slot ≡ By role) st.leaves (λ g. h) h
  step-holds (bypass x file mode p q) st quiet on h = after a (λ x. hold_of x slot ≡ By role) st.leaves (λ g. h) h

pub run_holds : {s t : State} {es : List GateEvent} → GateRun s es t → Quiet es → (slot role : ℕ) → NoEnd slot es → hold_of s slot ≡ By role
    → hold_of t slot ≡ By role
run_holds none q slot role on h = h
run_holds (next {e = e} st r) q slot role on h =
    let held = step-holds e.answer _ _ slot role e.request st q.0 (λ g w. on.0 (record { was = w; granted = g })) h in
    run_holds r q.1 slot role on.1 held

pub quiet-split : (xs ys : List GateEvent) → Quiet (xs ++ ys) → Quiet xs × Quiet ys
quiet-split [] ys q = (tt, q)
quiet-split (x ∷ xs) ys q = let w = quiet-split xs ys q.1 in ((q.0, w.0), w.1)
