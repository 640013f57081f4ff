-- Of change and bypass: each leaves one answer and one state, a grant tells what its conditions say, a well-formed state stays well formed, and the answer's
-- number and place have few digits. Assumes nothing.
use Rattle.std.specs.Prelude.{refl, List, [], ◌∷◌, ℕ}
use Rattle.std.proofs.Common.{arith}
use Rattle.answer.specs.declared.Answer.{Answer}
use Rattle.answer.specs.Answers.{Granted, DecidesAt}
use Rattle.answer.specs.Laws.{AtMostOne}
use Rattle.answer.specs.Lists.{answer-under}
use Rattle.tree.specs.Laws.{one-depth}
use Rattle.expression.specs.declared.Kind.TheVariants.{Privilege, Protection}
use Rattle.policy.specs.declared.State.{State}
use Rattle.policy.specs.WellFormed.{WellFormed}
use Rattle.policy.specs.Kept.{t1t2-kept, eg-kept}
use Rattle.gate.specs.Requests.{Outcome, covered, change_conditions, bypass_conditions, Changes, Bypasses}
use Rattle.gate.specs.Granted.{ChangeGranted, BypassGranted}
use Rattle.gate.specs.Laws.{change-places, bypass-places, one-outcome, shown, store-named, kept}
use Rattle.gate.specs.Small.{Small, unnamed, store-places}

-- one outcome
module _ (s : State) (slot : ℕ) where
  module _ (file mode : ℕ) where
    pub one-change : (t1 t2 : List ℕ) → AtMostOne (Changes s slot file mode t1 t2)
    one-change t1 t2 = one-outcome (change_conditions s slot file mode t1 t2) 0 _ s (change-places s slot file mode t1 t2)

    pub one-bypass : (e g : List ℕ) → AtMostOne (Bypasses s slot file mode e g)
    one-bypass e g = one-outcome (bypass_conditions s slot file mode e g) 0 _ s (bypass-places s slot file mode e g)

-- what a grant tells
module _ (s : State) (slot : ℕ) (a : Answer) where
  module _ (file mode : ℕ) where
    pub change-granted : (x y : List ℕ) → DecidesAt (change_conditions s slot file mode x y) 0 a → Granted a → ChangeGranted s slot file mode x y
    change-granted x y d g = store-named s slot file mode Protection x y (shown (change_conditions s slot file mode x y) 0 a refl d g)

    pub bypass-granted : (x y : List ℕ) → DecidesAt (bypass_conditions s slot file mode x y) 0 a → Granted a → BypassGranted s slot file mode x y
    bypass-granted x y d g =
        let (w, (l, (t, (p, (m, (r, (i, (j, (c, _))))))))) = shown (bypass_conditions s slot file mode x y) 0 a refl d g in
        record { store = store-named s slot file mode Privilege x y (w, (l, (t, (p, (m, (r, (i, (j, tt)))))))); covers = c }

-- well formed stays well formed
module _ (s : State) (w : WellFormed s) (slot : ℕ) where
  module _ (file mode : ℕ) where
    pub change-kept : (t1 t2 : List ℕ) (r : Outcome) → Changes s slot file mode t1 t2 r → WellFormed r.state
    change-kept t1 t2 r d = kept (change_conditions s slot file mode t1 t2) 0 _ s r w (λ g.
        let h = change-granted s slot r.answer file mode t1 t2 d.decides g in
        let (k, p, o) = h.first in
        let (e, q, v) = h.second in
        t1t2-kept s w k p file h.row.present mode h.row.is-mode t1 t2 o (rw (one-depth q p) at v)) d

    pub bypass-kept : (e g : List ℕ) (r : Outcome) → Bypasses s slot file mode e g r → WellFormed r.state
    bypass-kept x y r d = kept (bypass_conditions s slot file mode x y) 0 _ s r w (λ g.
        let h = (bypass-granted s slot r.answer file mode x y d.decides g).store in
        let (k, p, o) = h.first in
        let (e, q, v) = h.second in
        eg-kept s w k p file h.row.present mode h.row.is-mode x y o (rw (one-depth q p) at v)) d

-- few digits
module _ (s : State) (slot : ℕ) where
  module _ (file mode : ℕ) where
    pub change-small : (x y : List ℕ) (a : Answer) → DecidesAt (change_conditions s slot file mode x y) 0 a → Small 1000 a
    change-small x y a =
        answer-under {a = a} 100 1000 (change_conditions s slot file mode x y) (omega arith) unnamed refl (store-places s slot file mode Protection x y [] tt)

    pub bypass-small : (x y : List ℕ) (a : Answer) → DecidesAt (bypass_conditions s slot file mode x y) 0 a → Small 1000 a
    bypass-small x y a =
        let last = covered s slot file mode x y ∷ [] in
        let places = store-places s slot file mode Privilege x y last (unnamed, tt) in
        answer-under {a = a} 100 1000 (bypass_conditions s slot file mode x y) (omega arith) unnamed refl places
