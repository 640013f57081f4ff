-- What a load comes to: one answer and one state; a grant exactly for the image of a policy; a refusal exactly where the image is refused. Assumes nothing.
use Rattle.std.specs.Prelude.{◌≡◌, refl, List, [], ◌++◌, ◌↔◌, ℕ, ◌<◌, ◌≤◌, length}
use Rattle.std.proofs.Common.{sym, ap, ap₂, ◌∙◌, subst, inl, inr, arith}
use Rattle.answer.specs.Numbers.{done, ends_early, left_over}
use Rattle.answer.specs.declared.Answer.{Answer}
use Rattle.answer.specs.Answers.{Granted, Is, Leaves}
use Rattle.answer.specs.Laws.{one_left}
use Rattle.policy.specs.declared.State.{State}
use Rattle.policy.specs.WellFormed.{WellFormed}
use Rattle.fields.specs.Document.{Answers}
use Rattle.fields.specs.Loads.{one_answer}
use Rattle.fields.specs.Loads as document
use Rattle.image.specs.declared.Loaded.{Loaded}
use Rattle.image.specs.Image.{Policy, policy_image, in_use, image, longest_image}
use Rattle.image.specs.Load.{state_of, Loads}
use Rattle.image.specs.Made.{state-well-formed}
use Rattle.image.specs.Bounds.{one-digit, image-place}

-- an image is the image of one policy
pub one-policy : (bytes : List ℕ) (p q : Policy) → image.Takes bytes p → image.Takes bytes q → p ≡ q
one-policy bytes p q = image.one bytes p q

-- the state that the policy of these bytes makes
abbrev Made : List ℕ → State → Type 0
Made bytes s = (p : Policy) × image.Takes bytes p × (s ≡ state_of p)

one-made : (bytes : List ℕ) (s t : State) → Made bytes s → Made bytes t → s ≡ t
one-made bytes s t (p, u, e) (q, v, f) = e ∙ ap state_of (one-policy bytes p q u v) ∙ sym f

-- the contract leaves one answer and one state
pub one-load : (bytes : List ℕ) (before : State) (r q : Loaded) → Loads bytes before r → Loads bytes before q → r ≡ q
one-load bytes before r q p w =
    let answer : r.answer ≡ q.answer = one_answer image bytes r.answer q.answer p.answers w.answers in
    let left = subst (λ (a : Answer). Leaves a (Made bytes) before r.state) answer p.leaves in
    let state : r.state ≡ q.state = one_left q.answer (Made bytes) (one-made bytes) before r.state q.state left w.leaves in
    ap₂ (λ (a : Answer) (s : State). record { answer = a; state = s }) answer state

module _ (bytes : List ℕ) (before : State) (r : Loaded) (l : Loads bytes before r) where
  -- granted exactly when the bytes are the image of some policy
  pub granted-exactly : Granted r.answer ↔ ((p : Policy) × image.Takes bytes p)
  granted-exactly = document.granted-exactly image bytes r.answer l.answers

  -- and then the state after is the one that it makes
  pub granted-state : (p : Policy) → image.Takes bytes p → r.state ≡ state_of p
  granted-state p t = one-made bytes r.state (state_of p) (l.leaves.on-grant (granted-exactly.1 (p, t))) (p, t, refl)

  -- it is well formed
  pub granted-well-formed : Granted r.answer → WellFormed r.state
  granted-well-formed g =
      let (p, t, e) = l.leaves.on-grant g in
      subst WellFormed (sym e) (state-well-formed bytes p t)

  -- refused with that number and place exactly when the image is refused so
  pub refused-exactly : (n k : ℕ) → (n ≡ done → ⊥) → Is r.answer n k ↔ image.Refuses bytes n k
  refused-exactly = document.refused-exactly image bytes r.answer l.answers

  -- and then the state stays
  pub refused-state : (n k : ℕ) → image.Refuses bytes n k → Is r.answer n k × (r.state ≡ before)
  refused-state n k f =
      let other = document.not_done image bytes n k f in
      let is = (refused-exactly n k other).1 f in
      (is, l.leaves.on-refusal (λ g. other (sym is.number ∙ g)))

-- of the image of a policy, every part from the front that is not all of it is refused with 3, at its length, and the state stays
pub cut-refused : (front rest : List ℕ) (p : Policy) → image.Takes (front ++ rest) p → (rest ≡ [] → ⊥)
    → (before : State) (r : Loaded) → Loads front before r → Is r.answer ends_early (length front) × (r.state ≡ before)
cut-refused front rest p t some before r l =
    refused-state front before r l ends_early (length front) (document.cut-refused (policy_image in_use) front rest p t some)

-- the image of a policy with bytes behind it is refused with 7, at the first of them, and the state stays
pub over-refused : (bytes rest : List ℕ) (p : Policy) → image.Takes bytes p → (rest ≡ [] → ⊥)
    → (before : State) (r : Loaded) → Loads (bytes ++ rest) before r → Is r.answer left_over (length bytes) × (r.state ≡ before)
over-refused bytes rest p t some before r l =
    refused-state (bytes ++ rest) before r l left_over (length bytes) (document.over-refused (policy_image in_use) bytes rest p t some)

-- a load's number has one digit, and its place lies in the image or at its end
pub load_inside : {a : Answer} (bs : List ℕ) (before after : State) → Loads bs before (record { answer = a; state = after })
    → (a.number < 10) × (a.place ≤ length bs)
load_inside {a} bs before after l = go l.answers
  where
    go : Answers image bs a → (a.number < 10) × (a.place ≤ length bs)
    go (inl (v, i)) = (omega (arith, i.number), omega (arith, i.place))
    go (inr f) = (one-digit in_use bs a.number a.place f, (image.inside bs a.number a.place f).1)

-- and its place is no further on than the longest image
pub load-place : {a : Answer} (bs : List ℕ) (before after : State) → Loads bs before (record { answer = a; state = after }) → a.place ≤ longest_image
load-place {a} bs before after l = go l.answers
  where
    go : Answers image bs a → a.place ≤ longest_image
    go (inl (v, i)) = omega (arith, i.place)
    go (inr f) = image-place bs a.number a.place f
