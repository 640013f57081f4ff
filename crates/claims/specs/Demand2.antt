-- Demand 2, in the user's words: "Each answer and each new state is the one that chapter 2 of Rabin and Tygar's toolkit report gives, as our first paper
-- fixes it: granted exactly when the rules grant, refused with that number exactly when they say so. A protection means its full set of sets, also where
-- nobody could write that set out." The rules are those of 01 and, for Execute, of 02's [2] ("Demand 2 reads with this rule"). Below, each sentence is
-- followed by its theorems. Assumes nothing.
use Rattle.std.specs.Prelude.{◌≡◌, refl, true, List, ◌↔◌, ℕ, zero, suc, ◌<◌, length}
use Rattle.std.proofs.Common.{inl, inr, arith, lit<}
use Rattle.answer.specs.declared.Answer.{Answer}
use Rattle.answer.specs.Answers.{Condition, Decides, Granted, Is, AllHold, FirstFails, Leaves}
use Rattle.answer.specs.Numbers.{row_not_passed}
use Rattle.answer.specs.Laws.{OnePlaceEach}
use Rattle.answer.specs.Lists.{refuses, granted-place, granted-exactly, refused-exactly}
use Rattle.expression.specs.Bytes.{MeetsT1}
use Rattle.policy.specs.State.{IsMode, read, write, Present, Free, By, with_hold, with_t1_t2, with_e_g, role_of, t1_of}
use Rattle.policy.specs.declared.State.{State}
use Rattle.image.specs.declared.Loaded.{Loaded}
use Rattle.image.specs.Image.{Policy, image}
use Rattle.image.specs.Load.{state_of, Loads}
use Rattle.image.specs.Laws as load-laws
use Rattle.text.specs.Turn.{text_conditions, text_grants, text_makes}
use Rattle.text.specs.Laws.{text-places}
use Rattle.print.specs.Print.{print_conditions, print_grants, print_makes}
use Rattle.print.specs.Laws.{print-places}
use Rattle.rules.specs.Rules.{Passes, Mediates}
use Rattle.rules.specs.Laws.{over-execute, out-fits, write-fits, other_fits}
use Rattle.gate.specs.Requests.{begin_conditions, end_conditions, ask_conditions, change_conditions, bypass_conditions}
use Rattle.gate.specs.Requests.{Outcome, Does, Begins, Ends, Asks, Changes, Bypasses}
use Rattle.gate.specs.Granted.{SessionGranted, BeginGranted, AskGranted, ChangeGranted, BypassGranted}
use Rattle.gate.specs.Laws.{begin-places, end-places, ask-places, change-places, bypass-places}
use Rattle.gate.specs.Laws.{begin-granted, end-granted, ask-granted}
use Rattle.gate.proofs.Altering.{change-granted, bypass-granted}
use Rattle.claims.specs.Needs.{AskNeeds, MayAct, by-reading, by-writing, by-executing, by-detecting, by-changing}
use Rattle.claims.specs.Needs.{held_plus, T1Meant, ProtectionsMeant}

-- ---- "Each answer and each new state is the one that chapter 2 .. gives, as our first paper fixes it: granted exactly when the rules grant, refused with
-- that number exactly when they say so."

-- granted exactly when every condition holds; refused with that number at that place exactly when the first that does not hold has them
pub record Exactly (cs : List Condition) (a : Answer) : Type 0 where
  pub granted : Granted a ↔ AllHold cs
  pub refused : (number place : ℕ) → (number ≡ 0 → ⊥) → Is a number place ↔ FirstFails cs number place

-- and the new state: the one that the request makes where it is granted, else the old one
pub record ExactlyAnd (cs : List Condition) (made before : State) (r : Outcome) : Type 0 where
  pub answer : Exactly cs r.answer
  pub after-a-grant : AllHold cs → r.state ≡ made
  pub after-a-refusal : (AllHold cs → ⊥) → r.state ≡ before

exactly : (cs : List Condition) (grants : ℕ → Type 0) (a : Answer) → refuses cs ≡ true → OnePlaceEach cs → Decides cs grants a → Exactly cs a
exactly cs grants a r one d = record { granted = granted-exactly grants a cs r d; refused = λ n k z. refused-exactly grants a cs one n k z d }

exactly-and : (cs : List Condition) (at : ℕ) (made before : State) (r : Outcome) → refuses cs ≡ true → OnePlaceEach cs → Does cs at made before r
    → ExactlyAnd cs made before r
exactly-and cs at made before r f one d =
    let x = exactly cs (λ k. k ≡ at) r.answer f one d.decides in
    record {
      answer = x;
      after-a-grant = λ h. d.leaves.on-grant (x.granted.1 h);
      after-a-refusal = λ n. d.leaves.on-refusal (λ g. n (x.granted.0 g));
    }

-- load: granted exactly when the bytes are the image of a policy, and then the state is the one that it makes; refused with that number at that place
-- exactly when the image is refused so, and then the state is the old one
pub record LoadsExactly (bytes : List ℕ) (before : State) (r : Loaded) : Type 0 where
  pub granted : Granted r.answer ↔ ((p : Policy) × image.Takes bytes p)
  pub refused : (number place : ℕ) → (number ≡ 0 → ⊥) → Is r.answer number place ↔ image.Refuses bytes number place
  pub after-a-grant : (p : Policy) → image.Takes bytes p → r.state ≡ state_of p
  pub after-a-refusal : (number place : ℕ) → image.Refuses bytes number place → r.state ≡ before

pub load-exactly : (bytes : List ℕ) (before : State) (r : Loaded) → Loads bytes before r → LoadsExactly bytes before r
load-exactly bytes before r l = record {
  granted = load-laws.granted-exactly bytes before r l;
  refused = load-laws.refused-exactly bytes before r l;
  after-a-grant = load-laws.granted-state bytes before r l;
  after-a-refusal = λ n k f. (load-laws.refused-state bytes before r l n k f).1;
}

-- a call that fills an output: granted, the place is as the grant names it, and the output is what it makes; refused, the output is the old one
pub record FillsExactly (cs : List Condition) (grants : ℕ → Type 0) (makes : List ℕ → Type 0) (before after : List ℕ) (a : Answer) : Type 0 where
  pub answer : Exactly cs a
  pub after-a-grant : AllHold cs → grants a.place × makes after
  pub after-a-refusal : (AllHold cs → ⊥) → after ≡ before

fills-exactly : (cs : List Condition) (grants : ℕ → Type 0) (makes : List ℕ → Type 0) (before after : List ℕ) (a : Answer) → refuses cs ≡ true
    → OnePlaceEach cs → Decides cs grants a → Leaves a makes before after → FillsExactly cs grants makes before after a
fills-exactly cs grants makes before after a f one d l =
    let x = exactly cs grants a f one d in
    record {
      answer = x;
      after-a-grant = λ h. let g = x.granted.1 h in (granted-place grants a cs f d g, l.on-grant g);
      after-a-refusal = λ n. l.on-refusal (λ g. n (x.granted.0 g));
    }

-- text: 20, 18, 19; the place is the count of its bytes, and they fill the front of the output
abbrev pub TurnsExactly : List ℕ → List ℕ → List ℕ → Answer → Type 0
TurnsExactly text before = FillsExactly (text_conditions text (length before)) (text_grants text) (text_makes text before) before

pub text-exactly : (text before after : List ℕ) (a : Answer) → Decides (text_conditions text (length before)) (text_grants text) a
    → Leaves a (text_makes text before) before after → TurnsExactly text before after a
text-exactly text before after a =
    fills-exactly (text_conditions text (length before)) (text_grants text) (text_makes text before) before after a refl (text-places text (length before))

-- print: 17, 6, 20; the place is the length of the text, and it fills the front of the output
abbrev pub PrintsExactly : State → List ℕ → List ℕ → List ℕ → Answer → Type 0
PrintsExactly s x before = FillsExactly (print_conditions s x (length before)) (print_grants x) (print_makes x before) before

pub print-exactly : (s : State) (x before after : List ℕ) (a : Answer) → Decides (print_conditions s x (length before)) (print_grants x) a
    → Leaves a (print_makes x before) before after → PrintsExactly s x before after a
print-exactly s x before after a =
    fills-exactly (print_conditions s x (length before)) (print_grants x) (print_makes x before) before after a refl (print-places s x (length before))

module _ (s : State) (slot : ℕ) where
  -- begin: 17, 8, 10, 11; the slot holds the role asked for
  pub begin-exactly : (role : ℕ) (r : Outcome) → Begins s slot role r → ExactlyAnd (begin_conditions s slot role) (with_hold s slot (By role)) s r
  begin-exactly role r = exactly-and (begin_conditions s slot role) 0 _ s r refl (begin-places s slot role)

  -- end: 17, 8, 9; the slot is free
  pub end-exactly : (r : Outcome) → Ends s slot r → ExactlyAnd (end_conditions s slot) (with_hold s slot Free) s r
  end-exactly r = exactly-and (end_conditions s slot) 0 _ s r refl (end-places s slot)

  module _ (file mode : ℕ) where
    -- ask: 17, 8, 9, 12, 13, 14, 15; changes nothing
    pub ask-exactly : (r : Outcome) → Asks s slot file mode r → ExactlyAnd (ask_conditions s slot file mode) s s r
    ask-exactly r = exactly-and (ask_conditions s slot file mode) 0 _ s r refl (ask-places s slot file mode)

    -- change: 17, 8, 9, 12, 13, 14, 6; both are stored
    pub change-exactly : (t1 t2 : List ℕ) (r : Outcome) → Changes s slot file mode t1 t2 r
        → ExactlyAnd (change_conditions s slot file mode t1 t2) (with_t1_t2 s file mode t1 t2) s r
    change-exactly t1 t2 r = exactly-and (change_conditions s slot file mode t1 t2) 0 _ s r refl (change-places s slot file mode t1 t2)

    -- bypass: the same, then 16; both are stored
    pub bypass-exactly : (e g : List ℕ) (r : Outcome) → Bypasses s slot file mode e g r
        → ExactlyAnd (bypass_conditions s slot file mode e g) (with_e_g s file mode e g) s r
    bypass-exactly e g r = exactly-and (bypass_conditions s slot file mode e g) 0 _ s r refl (bypass-places s slot file mode e g)

-- what a grant needs, by name: of an ask as 01's bullets put it (Needs), of the others as gate/Granted does
module _ (s : State) (slot : ℕ) (r : Outcome) where
  pub begin-granted-exactly : (role : ℕ) → Begins s slot role r → Granted r.answer ↔ BeginGranted s slot role
  begin-granted-exactly role d = (
    begin-granted s slot r.answer role d.decides,
    λ h. (begin-exactly s slot role r d).answer.granted.1 (h.well-formed, (h.known, (h.was_free, (h.present, tt)))),
  )

  pub end-granted-exactly : Ends s slot r → Granted r.answer ↔ SessionGranted s slot
  end-granted-exactly d = (
    end-granted s slot r.answer d.decides,
    λ h. (end-exactly s slot r d).answer.granted.1 (h.well-formed, (h.known, (h.taken, tt))),
  )

  module _ (file mode : ℕ) where
    pub ask-granted-exactly : Asks s slot file mode r → Granted r.answer ↔ AskNeeds s slot file mode
    ask-granted-exactly d = (λ g. needed mode (ask-granted s slot r.answer file mode d.decides g), enough)
      where
        may : (m : ℕ) → m < 5 → Passes s (role_of s slot) file m → Mediates s (role_of s slot) file m → MayAct s slot file m
        may zero h p q = by-reading (record { passes = p; e-within-m1 = q.e-in-m1 (inl refl); g-within-m2 = q.g-in-m2 (inl refl) })
        may (suc zero) h p q = by-writing (record { passes = p; m1-within-e = q.m1-in-e refl; m2-within-g = q.m2-in-g refl })
        may (suc (suc zero)) h p q = by-executing (record { passes = p; e-within-m1 = q.e-in-m1 (inr refl); g-within-m2 = q.g-in-m2 (inr refl) })
        may (suc (suc (suc zero))) h p q = by-detecting p
        may (suc (suc (suc (suc zero)))) h p q = by-changing p
        may (suc (suc (suc (suc (suc m))))) h p q = absurd (omega arith)

        needed : (m : ℕ) → AskGranted s slot file m → AskNeeds s slot file m
        needed m h =
            let row = h.row in
            let session = row.session in
            record {
              well-formed = session.well-formed;
              slot-known = session.known;
              slot-taken = session.taken;
              file-there = row.present;
              mode-known = row.is-mode;
              may = may m row.is-mode row.passes h.mediates;
            }

        acts : (m : ℕ) → MayAct s slot file m → Passes s (role_of s slot) file m × Mediates s (role_of s slot) file m
        acts m (by-reading h) = (h.passes, (out-fits (inl refl)).0 (h.e-within-m1, h.g-within-m2))
        acts m (by-writing h) = (h.passes, (write-fits refl).0 (h.m1-within-e, h.m2-within-g))
        acts m (by-executing h) = (h.passes, (out-fits (inr refl)).0 (h.e-within-m1, h.g-within-m2))
        acts m (by-detecting p) = (p, other_fits (λ e. omega arith) (over-execute (lit< tt)))
        acts m (by-changing p) = (p, other_fits (λ e. omega arith) (over-execute (lit< tt)))

        enough : AskNeeds s slot file mode → Granted r.answer
        enough h =
            let (p, q) = acts mode h.may in
            let all : AllHold (ask_conditions s slot file mode) =
            (h.well-formed, (h.slot-known, (h.slot-taken, (h.file-there, (h.mode-known, (p, (q, tt))))))) in
            (ask-exactly s slot file mode r d).answer.granted.1 all

    pub change-granted-exactly : (t1 t2 : List ℕ) → Changes s slot file mode t1 t2 r → Granted r.answer ↔ ChangeGranted s slot file mode t1 t2
    change-granted-exactly t1 t2 d = (
      change-granted s slot r.answer file mode t1 t2 d.decides,
      λ h.
          let row = h.row in
          let ses = row.session in
          let all : AllHold (change_conditions s slot file mode t1 t2) = (
            ses.well-formed,
            (ses.known, (ses.taken, (row.present, (row.is-mode, (row.passes, (h.first, (h.second, tt))))))),
          ) in
          (change-exactly s slot file mode t1 t2 r d).answer.granted.1 all,
    )

    pub bypass-granted-exactly : (e g : List ℕ) → Bypasses s slot file mode e g r → Granted r.answer ↔ BypassGranted s slot file mode e g
    bypass-granted-exactly e g d = (
      bypass-granted s slot r.answer file mode e g d.decides,
      λ h.
          let row = h.store.row in
          let ses = row.session in
          let all : AllHold (bypass_conditions s slot file mode e g) = (
            ses.well-formed,
            (ses.known, (ses.taken, (row.present, (row.is-mode, (row.passes, (h.store.first, (h.store.second, (h.covers, tt)))))))),
          ) in
          (bypass-exactly s slot file mode e g r d).answer.granted.1 all,
    )

    -- ---- "A protection means its full set of sets, also where nobody could write that set out.": what `ask` grants it grants by some member of T1's value
    -- and against every member of T2's; and where those fail, all that is tested before them being in order, it refuses with 14
    passed : Passes s (role_of s slot) file mode → ProtectionsMeant s slot file mode
    passed p = record { t1 = first p.meets-t1; t2 = λ e U q v h. p.not-t2 (e, q, record { chosen = U; in-value = v; held = h }) }
      where
        first : MeetsT1 s.tree (held_plus s slot file mode) (t1_of s file mode) → T1Meant s slot file mode
        first (inl z) = inl z
        first (inr (e, q, m)) = inr (e, m.chosen, q, m.in-value, m.held)

    pub a-protection-means-its-full-set-of-sets : Asks s slot file mode r → Granted r.answer → ProtectionsMeant s slot file mode
    a-protection-means-its-full-set-of-sets d g = passed (ask-granted s slot r.answer file mode d.decides g).row.passes

    pub and-else-the-row-is-not-passed : Asks s slot file mode r → SessionGranted s slot → Present s file → IsMode mode
        → (ProtectionsMeant s slot file mode → ⊥) → Is r.answer row_not_passed 0
    and-else-the-row-is-not-passed d h p m n =
        let first : FirstFails (ask_conditions s slot file mode) row_not_passed 0 =
        inr (h.well-formed, inr (h.known, inr (h.taken, inr (p, inr (m, inl ((λ w. n (passed w)), refl, refl)))))) in
        ((ask-exactly s slot file mode r d).answer.refused row_not_passed 0 (λ z. omega arith)).1 first
