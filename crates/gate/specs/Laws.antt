-- Each request leaves one answer and one state, keeps a well-formed state well formed, and a grant tells what its conditions say. (Of change and bypass that
-- stands in proofs/Altering.) Assumes nothing.
use Rattle.std.specs.Prelude.{◌≡◌, refl, true, List, [], ◌∷◌, ◌++◌, ℕ}
use Rattle.std.proofs.Common.{sym, ap, ap₂, ◌∙◌, subst}
use Rattle.std.proofs.Math.Decide.{ℕ_discrete}
use Rattle.answer.specs.declared.Answer.{Answer}
use Rattle.answer.specs.Answers.{Condition, Granted, DecidesAt, AllHold}
use Rattle.answer.specs.Laws.{AtMostOne, OnePlaceEach, said, one_answer, one_left}
use Rattle.answer.specs.Lists.{refuses, granted-all}
use Rattle.expression.specs.declared.Kind.{Kind}
use Rattle.expression.specs.declared.Kind.TheVariants.{Privilege, Protection}
use Rattle.order.specs.Conditions.{expression_conditions}
use Rattle.order.specs.Laws.{expression-places}
use Rattle.policy.specs.declared.State.{State}
use Rattle.policy.specs.State.{By, hold_of, change_protection}
use Rattle.policy.specs.WellFormed.{WellFormed}
use Rattle.policy.specs.Kept.{by-kept, free-kept}
use Rattle.policy.specs.Reads.{hold-here}
use Rattle.gate.specs.declared.Effect.{Effect}
use Rattle.gate.specs.Requests.{Outcome, begin_conditions, session_conditions, end_conditions, row_conditions, ask_conditions, store_conditions}
use Rattle.gate.specs.Requests.{covered, change_conditions, bypass_conditions, Does, Begins, Ends, Asks}
use Rattle.gate.specs.Effects.{outcome, Tells}
use Rattle.gate.specs.Granted.{BeginGranted, SessionGranted, RowGranted, AskGranted, StoreGranted}

-- each refusal of each request names one place
module _ (s : State) (slot : ℕ) where
  pub begin-places : (role : ℕ) → OnePlaceEach (begin_conditions s slot role)
  begin-places role = (said 0, (said 0, (said 0, (said 0, tt))))

  pub end-places : OnePlaceEach (end_conditions s slot)
  end-places = (said 0, (said 0, (said 0, tt)))

  row-places : (file mode row : ℕ) (more : List Condition) → OnePlaceEach more → OnePlaceEach (row_conditions s slot file mode row ++ more)
  row-places file mode row more p = (said 0, (said 0, (said 0, (said 0, (said 0, (said 0, p))))))

  module _ (file mode : ℕ) where
    pub ask-places : OnePlaceEach (ask_conditions s slot file mode)
    ask-places = (said 0, (said 0, (said 0, (said 0, (said 0, (said 0, (said 0, tt)))))))

    pub change-places : (x y : List ℕ) → OnePlaceEach (change_conditions s slot file mode x y)
    change-places x y =
        row-places file mode change_protection (expression_conditions Protection s.tree x y) (expression-places Protection s.tree x y [] tt)

    pub bypass-places : (x y : List ℕ) → OnePlaceEach (bypass_conditions s slot file mode x y)
    bypass-places x y =
        let last = covered s slot file mode x y ∷ [] in
        let both = expression-places Privilege s.tree x y last (said 0, tt) in
        row-places file mode change_protection (expression_conditions Privilege s.tree x y ++ last) both

-- conditions and the state that a grant makes leave one answer and one state
pub one-outcome : (cs : List Condition) (at : ℕ) (made before : State) → OnePlaceEach cs → AtMostOne (Does cs at made before)
one-outcome cs at made before one x y p q =
    let a = one_answer cs (λ k. k ≡ at) one (said at) x.answer y.answer p.decides q.decides in
    let b = one_left y.answer (λ (t : State). t ≡ made) (λ u v e f. e ∙ sym f) _ x.state y.state (rw a at p.leaves) q.leaves in
    ap₂ (λ (z : Answer) (t : State). record { answer = z; state = t }) a b

-- effects that tell of the same leave one answer and one state after it. (Which file an effect names is its own affair, where it alters none)
pub one_told : {s : State} {P : Outcome → Type 0} {e f : Effect} → AtMostOne P → Tells s P e → Tells s P f → outcome s e ≡ outcome s f
one_told one p q = one _ _ p.is q.is

module _ (s : State) (slot : ℕ) where
  pub one-begin : (role : ℕ) → AtMostOne (Begins s slot role)
  one-begin role = one-outcome (begin_conditions s slot role) 0 _ s (begin-places s slot role)

  pub one_end : AtMostOne (Ends s slot)
  one_end = one-outcome (end_conditions s slot) 0 _ s (end-places s slot)

  module _ (file mode : ℕ) where
    pub one-ask : AtMostOne (Asks s slot file mode)
    one-ask = one-outcome (ask_conditions s slot file mode) 0 _ s (ask-places s slot file mode)

-- what a grant has shown
pub shown : (cs : List Condition) (at : ℕ) (a : Answer) → refuses cs ≡ true → DecidesAt cs at a → Granted a → AllHold cs
shown cs at a ref d g = granted-all (λ k. k ≡ at) a cs ref d g

-- conditions that hold, by name
module _ (s : State) (slot : ℕ) where
  pub session-named : AllHold (session_conditions s slot) → SessionGranted s slot
  session-named (w, (l, (t, _))) = record { well-formed = w; known = l; taken = t }

  module _ (file mode : ℕ) where
    pub row_named : (row : ℕ) → AllHold (row_conditions s slot file mode row) → RowGranted s slot file mode row
    row_named row (w, (l, (t, (p, (m, (r, _)))))) = record {
      session = record { well-formed = w; known = l; taken = t };
      present = p;
      is-mode = m;
      passes = r;
    }

    pub store-named : (kind : Kind) (x y : List ℕ) → AllHold (store_conditions kind s slot file mode x y) → StoreGranted kind s slot file mode x y
    store-named kind x y (w, (l, (t, (p, (m, (r, (a, (b, _)))))))) = record {
      row = row_named change_protection (w, (l, (t, (p, (m, (r, tt))))));
      first = a;
      second = b;
    }

-- what a grant tells of each request
module _ (s : State) (slot : ℕ) (a : Answer) where
  pub begin-granted : (role : ℕ) → DecidesAt (begin_conditions s slot role) 0 a → Granted a → BeginGranted s slot role
  begin-granted role d g =
      let (w, (l, (f, (p, _)))) = shown (begin_conditions s slot role) 0 a refl d g in
      record { well-formed = w; known = l; was_free = f; present = p }

  pub end-granted : DecidesAt (end_conditions s slot) 0 a → Granted a → SessionGranted s slot
  end-granted d g = session-named s slot (shown (end_conditions s slot) 0 a refl d g)

  module _ (file mode : ℕ) where
    pub ask-granted : DecidesAt (ask_conditions s slot file mode) 0 a → Granted a → AskGranted s slot file mode
    ask-granted d g =
        let (w, (l, (t, (p, (m, (r, (x, _))))))) = shown (ask_conditions s slot file mode) 0 a refl d g in
        record { row = row_named s slot file mode mode (w, (l, (t, (p, (m, (r, tt)))))); mediates = x }

-- begin takes nothing from the slot's past: what a begun slot holds is the role asked for
pub begun-holds : (s : State) (slot role : ℕ) (r : Outcome) → Begins s slot role r → Granted r.answer → hold_of r.state slot ≡ By role
begun-holds s slot role r d g =
    let h = begin-granted s slot r.answer role d.decides g in
    ap (λ (t : State). hold_of t slot) (d.leaves.on-grant g) ∙ hold-here s h.well-formed.room slot (By role) h.known

-- a request keeps a well-formed state well formed, if what a grant makes is well formed
pub kept : (cs : List Condition) (at : ℕ) (made s : State) (r : Outcome) → WellFormed s → (Granted r.answer → WellFormed made) → Does cs at made s r
    → WellFormed r.state
kept cs at made s r w h d = go (ℕ_discrete r.answer.number 0)
  where
    go : Dec (Granted r.answer) → WellFormed r.state
    go (yes g) = subst WellFormed (sym (d.leaves.on-grant g)) (h g)
    go (no n) = subst WellFormed (sym (d.leaves.on-refusal n)) w

module _ (s : State) (w : WellFormed s) (slot : ℕ) where
  pub begin-kept : (role : ℕ) (r : Outcome) → Begins s slot role r → WellFormed r.state
  begin-kept role r d = kept (begin_conditions s slot role) 0 _ s r w (λ g.
      let h = begin-granted s slot r.answer role d.decides g in by-kept s w slot role h.known h.present) d

  pub end_kept : (r : Outcome) → Ends s slot r → WellFormed r.state
  end_kept r d = kept (end_conditions s slot) 0 _ s r w (λ g. free-kept s w slot (end-granted s slot r.answer d.decides g).known) d

  module _ (file mode : ℕ) where
    pub ask-kept : (r : Outcome) → Asks s slot file mode r → WellFormed r.state
    ask-kept r d = kept (ask_conditions s slot file mode) 0 _ s r w (λ g. w) d
