-- The four empty versions of 01, "Proof obligations of the whole": each is shut out by the promises. They are theorems over any program, and not edits of
-- ours, since the promises have to shut out every such program and not only a damaged one. That a program keeps the promises at all is shown by
-- `machine::serve`, which is made of the product's own functions and promises `Step` for every state and every request that code can hold.
-- Assumes nothing.
use Rattle.std.specs.Prelude.{◌≡◌, refl, List, [], ◌∷◌, ℕ, zero, suc, ◌<◌, length}
use Rattle.std.proofs.Common.{sym, ap, ◌∙◌, subst, inl, inr, not-suc-le-zero, arith, lit<, lit≤}
use Rattle.answer.specs.declared.Answer.{Answer}
use Rattle.answer.specs.Answers.{Granted}
use Rattle.expression.specs.Expression.{one, term}
use Rattle.policy.specs.State.{By, fresh_state, hold_of, read, change_protection, t1_of, e_of}
use Rattle.policy.specs.declared.State.{State}
use Rattle.policy.specs.Fresh.{fresh-well-formed}
use Rattle.policy.specs.Reads.{hold-here, t1t2-reads, eg-reads}
use Rattle.policy.specs.Whole.{free-held}
use Rattle.rules.specs.Rules.{Covers}
use Rattle.gate.specs.Laws.{begin-granted}
use Rattle.machine.specs.Machine.{Request, begin, change, bypass, Step}
use Rattle.claims.specs.Demand2.{begin-granted-exactly, change-granted-exactly, bypass-granted-exactly}
use Rattle.claims.specs.Sample.{root, sample, sample-well-formed, sample-free, sample-counts, sample-depth, sample-root}
use Rattle.claims.specs.Sample.{sample-role0, sample-file1, held_by}
use Rattle.claims.proofs.Examples.{row, its, held-is, changes-row, covered, none-in-order}
use Rattle.claims.specs.Programs.{AllUnder, CodeState, CodeRequest, Program, Keeps, RefusesAlways, Answers0Always, NeverStores}
use Rattle.claims.specs.Programs.{IsBegin, IsChange, IsBypass, RepeatsItself}
use Rattle.claims.specs.ProgramLaws.{well-formed-code}

-- states and requests that code can hold
sample-code : CodeState sample
sample-code = well-formed-code sample-well-formed

held-code : CodeState (held_by 0)
held-code = well-formed-code (held-is 0 (lit< tt)).well-formed

root-code : AllUnder 256 root
root-code zero = lit< tt
root-code (suc zero) = lit< tt
root-code (suc (suc i)) = lit< tt

none-code : AllUnder 256 []
none-code i = lit< tt

begin-code : CodeRequest (begin 0 0)
begin-code = (lit< tt, lit< tt)

change-code : CodeRequest (change 0 1 read root [])
change-code = (lit< tt, lit< tt, lit< tt, root-code, none-code)

bypass-code : CodeRequest (bypass 0 1 read [] [])
bypass-code = (lit< tt, lit< tt, lit< tt, none-code, none-code)

root-is-some : root ≡ [] → ⊥
root-is-some e = let z = ap length e in omega arith

-- in the sample, role 0 can begin on slot 0
can-begin : (a : Answer) (t : State) → Step sample (begin 0 0) a t → Granted a
can-begin a t st = (begin-granted-exactly sample 0 _ 0 st).1 (record {
  well-formed = sample-well-formed;
  known = lit< tt;
  was_free = sample-free;
  present = rw sample-counts.0 (lit< tt);
})

-- its session can change file 1's T1, and take its E away
can-change : (a : Answer) (t : State) → Step (held_by 0) (change 0 1 read root []) a t → Granted a
can-change a t st =
    let passes = changes-row sample.tree sample-role0 sample-file1 in
    (change-granted-exactly (held_by 0) 0 _ 1 read root [] st).1 (record {
      row = row (held-is 0 (lit< tt)) 1 (lit< tt) read change_protection (lit< tt) passes;
      first = (0, sample-depth, (lit≤ tt, inr (term (one 0), sample-root, refl)));
      second = (0, sample-depth, (lit≤ tt, inl refl));
    })

can-bypass : (a : Answer) (t : State) → Step (held_by 0) (bypass 0 1 read [] []) a t → Granted a
can-bypass a t st =
    let passes = changes-row sample.tree sample-role0 sample-file1 in
    let covers = covered 1 (lit< tt) sample-file1 [] (inl refl) (inr refl) in
    (bypass-granted-exactly (held_by 0) 0 _ 1 read [] [] st).1 (record {
      store = record {
        row = row (held-is 0 (lit< tt)) 1 (lit< tt) read change_protection (lit< tt) passes;
        first = (0, sample-depth, none-in-order);
        second = (0, sample-depth, none-in-order);
      };
      covers = its (held-is 0 (lit< tt)) (λ r. Covers (held_by 0) r 1 read [] []) covers;
    })

module _ (v : Program) (keeps : Keeps v) where
  -- one that refuses always
  pub not-one-that-refuses-always : RefusesAlways v → ⊥
  not-one-that-refuses-always refuses =
      refuses sample (begin 0 0) sample-code begin-code (can-begin _ _ (keeps sample (begin 0 0) sample-code begin-code))

  -- one that answers 0 always: in the fresh state there is no role to begin
  pub not-one-that-answers-0-always : Answers0Always v → ⊥
  not-one-that-answers-0-always grants =
      let fresh = well-formed-code fresh-well-formed in
      let st = keeps fresh_state (begin 0 0) fresh begin-code in
      let h = begin-granted fresh_state 0 (v.answers fresh_state (begin 0 0)) 0 st.decides (grants fresh_state (begin 0 0) fresh begin-code) in
      not-suc-le-zero h.present

  -- one that never stores: after a granted begin the slot holds the role
  pub not-one-that-never-stores-at-begin : NeverStores IsBegin v → ⊥
  not-one-that-never-stores-at-begin idle =
      let st = keeps sample (begin 0 0) sample-code begin-code in
      let left = st.leaves.on-grant (can-begin _ _ st) in
      let stays = idle sample (begin 0 0) sample-code begin-code (0, 0, refl) in
      let held = hold-here sample sample-well-formed.room 0 (By 0) (lit< tt) in
      free-held (sym sample-free ∙ ap (λ (x : State). hold_of x 0) (sym stays ∙ left) ∙ held)

  -- after a granted change the file has the new T1
  pub not-one-that-never-stores-at-change : NeverStores IsChange v → ⊥
  not-one-that-never-stores-at-change idle =
      let st = keeps (held_by 0) (change 0 1 read root []) held-code change-code in
      let left = st.leaves.on-grant (can-change _ _ st) in
      let stays = idle (held_by 0) (change 0 1 read root []) held-code change-code (0, 1, read, root, [], refl) in
      let h = held-is 0 (lit< tt) in
      let new = (t1t2-reads (held_by 0) h.well-formed 1 (rw h.counted (lit< tt)) read (lit< tt) root [] (lit≤ tt) (lit≤ tt)).first in
      root-is-some (sym new ∙ ap (λ (x : State). t1_of x 1 read) (sym left ∙ stays) ∙ sample-file1.t1)

  -- after a granted bypass the file has the new E
  pub not-one-that-never-stores-at-bypass : NeverStores IsBypass v → ⊥
  not-one-that-never-stores-at-bypass idle =
      let st = keeps (held_by 0) (bypass 0 1 read [] []) held-code bypass-code in
      let left = st.leaves.on-grant (can-bypass _ _ st) in
      let stays = idle (held_by 0) (bypass 0 1 read [] []) held-code bypass-code (0, 1, read, [], [], refl) in
      let h = held-is 0 (lit< tt) in
      let new = (eg-reads (held_by 0) h.well-formed 1 (rw h.counted (lit< tt)) read (lit< tt) [] [] (lit≤ tt) (lit≤ tt)).first in
      root-is-some (sym sample-file1.e ∙ ap (λ (x : State). e_of x 1 read) (sym stays ∙ left) ∙ new)

  -- one that works for the first request and then repeats itself: the second begin on a slot is refused
  pub not-one-that-repeats-itself : RepeatsItself v → ⊥
  not-one-that-repeats-itself again =
      let st = keeps sample (begin 0 0) sample-code begin-code in
      let g = can-begin _ _ st in
      let m = v.leaves sample (begin 0 0) in
      let left : m ≡ held_by 0 = st.leaves.on-grant g in
      let second = keeps m (begin 0 0) (subst CodeState (sym left) held-code) begin-code in
      let repeated = ap (λ (a : Answer). a.number) (again sample (begin 0 0) (begin 0 0) sample-code begin-code begin-code) ∙ g in
      let h = begin-granted m 0 (v.answers m (begin 0 0)) 0 second.decides repeated in
      free-held (sym h.was_free ∙ ap (λ (x : State). hold_of x 0) left ∙ (held-is 0 (lit< tt)).held)
