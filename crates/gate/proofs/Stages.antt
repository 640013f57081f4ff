-- How the stages of a request follow one another, what they know of the state that was seen, and what they make of it. Assumes nothing.
use Rattle.std.specs.Prelude.{◌≡◌, refl, Bool, true, List, [], ◌∷◌, ◌++◌, ◌↔◌, ℕ, ◌<◌, get_or, set}
use Rattle.std.proofs.Common.{sym, ap, ap₂, ◌∙◌, subst, inl, inr, arith}
use Rattle.std.specs.Result.{IsErrAnd}
use Rattle.std.proofs.lemmas.List.{set-get_or}
use Rattle.std.proofs.lemmas.Result.{err_from_is_err_and}
use Rattle.std.specs.declared.option.Option.TheVariants.{Some}
use Rattle.std.specs.declared.result.Result.{Result}
use Rattle.std.specs.declared.result.Result.TheVariants.{Ok, Err}
use Rattle.answer.specs.declared.Answer.{Answer}
use Rattle.answer.specs.Numbers.{done}
use Rattle.answer.specs.Answers.{Condition, Is, DecidesAt, AllHold, FirstFails}
use Rattle.answer.specs.Lists.{refuses, granted-all}
use Rattle.tree.specs.declared.Tree.{Tree}
use Rattle.tree.specs.Grown.{Leveled}
use Rattle.tree.specs.Laws.{one-depth}
use Rattle.expression.specs.declared.Kind.{Kind}
use Rattle.expression.specs.Bytes.{Right}
use Rattle.expression.specs.Judge.{InOrderOver}
use Rattle.order.specs.Order.{fine}
use Rattle.policy.specs.declared.Role.{Role}
use Rattle.policy.specs.declared.File.{File}
use Rattle.policy.specs.declared.State.{State}
use Rattle.policy.specs.declared.Examined.{Examined}
use Rattle.policy.specs.State.{Hold, held_in, slot_with, Present, role_at, file_at, role_of, hold_of, set_files, with_hold, put_pair, with_pair}
use Rattle.policy.specs.WellFormed.{RoleInOrder, FileInOrder, Examines}
use Rattle.policy.specs.SeenLaws.{at-within, stored-again}
use Rattle.policy.specs.Whole.{session-holds}
use Rattle.rules.specs.AtHand.{AtHand}
use Rattle.gate.specs.declared.Effect.{Effect}
use Rattle.gate.specs.Requests.{Does}
use Rattle.gate.specs.Granted.{SessionGranted}
use Rattle.gate.specs.Effects.{effect_of, Tells}
use Rattle.gate.specs.Parts.{Stage, Makes, Judges, ComesTo}

-- a refusal of the list before stands
fails-first : (xs ys : List Condition) (n k : ℕ) → FirstFails xs n k → FirstFails (xs ++ ys) n k
fails-first [] ys n k f = absurd f
fails-first (c ∷ xs) ys n k (inl f) = inl f
fails-first (c ∷ xs) ys n k (inr f) = inr (f.0, fails-first xs ys n k f.1)

-- so does one that a `?` gives back
module _ (xs ys : List Condition) (a : Answer) where
  pub stands : {A : Type 0} (r : Result A Answer) → IsErrAnd r (λ b. b ≡ a) → FirstFails xs a.number a.place → Stage (xs ++ ys) r
  stands r e f = let p = err_from_is_err_and r e in rw (p.1, p.2) (fails-first xs ys a.number a.place f)

  pub stands-judged : (s made : State) (r : Result Effect Answer) → IsErrAnd r (λ b. b ≡ a) → FirstFails xs a.number a.place → Judges s (xs ++ ys) made r
  stands-judged s made r e f = let p = err_from_is_err_and r e in rw (p.1, p.2) (fails-first xs ys a.number a.place f)

-- after a list that holds the next one refuses, or holds too
pub fails-next : (xs ys : List Condition) (n k : ℕ) → AllHold xs → FirstFails ys n k → FirstFails (xs ++ ys) n k
fails-next [] ys n k h f = f
fails-next (c ∷ xs) ys n k h f = inr (h.0, fails-next xs ys n k h.1 f)

pub all-next : (xs ys : List Condition) → AllHold xs → AllHold ys → AllHold (xs ++ ys)
all-next [] ys h i = i
all-next (c ∷ xs) ys h i = (h.0, all-next xs ys h.1 i)

-- a condition that does not hold, and its refusal
pub refused : {P : Type 0} {a : Answer} {n : ℕ} → (P → ⊥) → Is a n 0 → (P → ⊥) × (n ≡ a.number) × (a.place ≡ 0)
refused fails is = (fails, sym is.number, is.place)

-- a list does not both hold and refuse
fails-not-all : (cs : List Condition) (n k : ℕ) → FirstFails cs n k → AllHold cs → ⊥
fails-not-all [] n k f h = f
fails-not-all (c ∷ cs) n k (inl f) h = f.0 h.0
fails-not-all (c ∷ cs) n k (inr f) h = fails-not-all cs n k f.1 h.1

-- the answer of a list that holds, and of one that refuses
all-decide : (cs : List Condition) (a : Answer) → AllHold cs → a ≡ fine → DecidesAt cs 0 a
all-decide [] a h e = (ap (λ (b : Answer). b.number) e, ap (λ (b : Answer). b.place) e)
all-decide (c ∷ cs) a h e = inr (h.0, all-decide cs a h.1 e)

fails-decide : (cs : List Condition) (a : Answer) → FirstFails cs a.number a.place → DecidesAt cs 0 a
fails-decide [] a f = absurd f
fails-decide (c ∷ cs) a (inl f) = inl (f.0, sym f.1, f.2)
fails-decide (c ∷ cs) a (inr f) = inr (f.0, fails-decide cs a f.1)

module _ {s : State} {slot file : ℕ} {seen : Examined} (x : Examines s slot file seen) where
  -- the slots that were seen are those of the state
  pub hold-seen : held_in (get_or seen.slots slot 0) ≡ hold_of s slot
  hold-seen = ap (λ (l : List ℕ). held_in (get_or l slot 0)) x.slots-is

  -- of a session, its role and a file that is there
  module _ (ses : SessionGranted s slot) (present : Present s file) where
    role-few : role_of s slot < s.nroles
    role-few = ses.well-formed.held-present slot (role_of s slot) (session-holds s slot ses.taken)

    role-seen : seen.role ≡ role_at s (role_of s slot)
    role-seen = x.role-is (omega (arith, role-few, ses.well-formed.role-count))

    pub file-seen : seen.file ≡ file_at s file
    file-seen = x.file-is ∙ ap (file_at s) (x.at-is (omega (arith, ses.well-formed.file-count)))

  -- over the tree with its levels that was seen
  module _ {g : Leveled} (is : seen.grown ≡ Some g) where
    -- what is in order over the tree is right over its levels
    pub right-over : (kind : Kind) (bs : List ℕ) → InOrderOver kind s.tree bs → Right kind g.tree.n g.levels.depth.0 bs
    right-over kind bs (d, deep, o) =
        let has = x.grown-is g is in
        rw has.0 (subst (λ (k : ℕ). Right kind s.tree.n k bs) (one-depth deep has.1.depth) o.1)

    module _ (ses : SessionGranted s slot) (present : Present s file) where
      pub at-hand : AtHand g seen.role seen.file
      at-hand =
          let w = ses.well-formed in
          let has = x.grown-is g is in
          let e = one-depth w.is-depth has.1.depth in
          let d = g.levels.depth.0 in
          let r = role_at s (role_of s slot) in
          let role : RoleInOrder s.tree.n d r = subst (λ (k : ℕ). RoleInOrder s.tree.n k r) e (w.roles-in-order (role_of s slot) (role-few ses present)) in
          let f = file_at s file in
          let its : FileInOrder s.tree.n d f = subst (λ (k : ℕ). FileInOrder s.tree.n k f) e (w.files-in-order file present) in
          record { role = rw (has.0, role-seen ses present) role; file = rw (has.0, file-seen ses present) its }

      -- a test of what was seen is one of the session's role and the file
      pub told : (P : Tree → Role → File → Type 0) {b : Bool} → (b ≡ true) ↔ P g.tree seen.role seen.file
          → (b ≡ true) ↔ P s.tree (role_at s (role_of s slot)) (file_at s file)
      told P test = rw ((x.grown-is g is).0, role-seen ses present, file-seen ses present) at test

  -- what an effect makes of the state: nothing new, a slot altered, two expressions stored in a file
  pub makes-same : (a : Answer) → Is a done 0 → Makes s s (effect_of a seen.slots seen.at seen.file)
  makes-same a is = record {
    within = at-within x;
    answer = ap₂ (λ (n k : ℕ). record { number = n; place = k }) is.number is.place;
    state = stored-again x;
  }

  pub makes-hold : (h : Hold) → Makes s (with_hold s slot h) (effect_of fine (set seen.slots slot (slot_with h)) seen.at seen.file)
  makes-hold h = record {
    within = at-within x;
    answer = refl;
    state = rw (x.slots-is, x.file-is) (ap (set_files (with_hold s slot h)) (set-get_or s.files seen.at _));
  }

  pub makes-pair : (k : ℕ) (p q : List ℕ) → SessionGranted s slot → Present s file
      → Makes s (with_pair s file k p q) (effect_of fine seen.slots seen.at (put_pair seen.file k p q))
  makes-pair k p q ses present =
      let at = x.at-is (omega (arith, ses.well-formed.file-count)) in
      record { within = at-within x; answer = refl; state = rw (x.slots-is, at, file-seen ses present) refl }

  -- what was judged, told of the effect that it comes to
  pub tells : (cs : List Condition) (made : State) (r : Result Effect Answer) (e : Effect) → refuses cs ≡ true → Judges s cs made r
      → ComesTo seen r e → Tells s (Does cs 0 made s) e
  tells cs made (Ok m) e ref (all, makes) is = rw is (record {
    within = makes.within;
    is = record {
      decides = all-decide cs m.answer all makes.answer;
      leaves = record { on-grant = λ _. makes.state; on-refusal = λ n. absurd (n (ap (λ (b : Answer). b.number) makes.answer)) };
    };
  })
  tells cs made (Err a) e ref fails is =
      let d = fails-decide cs a fails in
      rw is (record {
        within = at-within x;
        is = record {
          decides = d;
          leaves = record {
            on-grant = λ g. absurd (fails-not-all cs _ _ fails (granted-all (λ k. k ≡ 0) a cs ref d g));
            on-refusal = λ _. stored-again x;
          };
        };
      })
