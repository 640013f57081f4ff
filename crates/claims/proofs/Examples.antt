-- Examples, proved, from the load of the sample's image: the setting of demand 3 is met, with content that moves; sessions have to be told apart; the claim
-- would be false with the mutable parts in it; a granted bypass can break it, judged in the loaded state and in the present one; and it would be false if
-- an Execute were granted by its row alone. Assumes nothing.
use Rattle.std.specs.Prelude.{◌≡◌, refl, List, [], ◌∷◌, ◌⊎◌, ℕ, ◌<◌}
use Rattle.std.proofs.Common.{sym, ap, ◌∙◌, subst, inl, inr, ⊎_elim, lit<, lit≤, arith}
use Rattle.answer.specs.declared.Answer.{Answer}
use Rattle.answer.specs.Numbers.{mediating_unfit}
use Rattle.securon.specs.Sets.{Set, empty, ◌⊆◌}
use Rattle.tree.specs.declared.Tree.{Tree}
use Rattle.expression.specs.Expression.{one, term, Meets}
use Rattle.expression.specs.declared.Kind.TheVariants.{Privilege}
use Rattle.expression.specs.Bytes.{SET, MeetsT1, InOrder}
use Rattle.expression.specs.Laws.{meets-term}
use Rattle.expression.specs.Scan.{bytes-some}
use Rattle.expression.specs.Unique.{one-expression}
use Rattle.policy.specs.State.{IsMode, read, write, execute, change_protection, Free, By, role_at, file_at, role_in, role_of, hold_of, fresh_state}
use Rattle.policy.specs.State.{with_hold, with_e_g, t1_of, e_of, t2_of, g_of}
use Rattle.policy.specs.declared.Role.{Role}
use Rattle.policy.specs.declared.File.{File}
use Rattle.policy.specs.declared.State.{State}
use Rattle.policy.specs.WellFormed.{WellFormed}
use Rattle.policy.specs.Whole.{free-held}
use Rattle.policy.specs.Kept.{by-kept, free-kept, eg-kept}
use Rattle.policy.specs.Reads.{hold-here}
use Rattle.rules.specs.Rules.{PassesRow, RolePasses, Passes, TakesContentOut, RoleMediates, Mediates, Covers}
use Rattle.rules.specs.Laws.{out-fits, write-fits}
use Rattle.gate.specs.Granted.{SessionGranted, RowGranted, BypassGranted}
use Rattle.gate.specs.Requests.{mediated}
use Rattle.machine.specs.Runs.{Run, none, next}
use Rattle.machine.specs.Machine.{load, begin, end, ask, bypass, Step, GateEvent, GateRun}
use Rattle.claims.specs.Trace.{Quiet, TakesOut, by-ask, by-write, Move, PassesIndelible}
use Rattle.claims.specs.Before.{mediated_before, StepBefore}
use Rattle.claims.proofs.Demand3.{AfterLoad}
use Rattle.claims.specs.Steps.{granted, done, made, row-holds, begin-step, end_step, ask-step, bypass-step}
use Rattle.claims.proofs.MoveLaws.{move-confines}
use Rattle.claims.specs.Sample.{root, sample_image, sample, sample-loads, sample-well-formed, sample-depth, sample-root, sample-free, sample-counts}
use Rattle.claims.specs.Sample.{freed-again, RoleParts, FileParts, sample-role0, sample-role1, sample-role2}
use Rattle.claims.specs.Sample.{sample-file0, sample-file1, sample-file2, sample-file3}
use Rattle.claims.specs.Sample.{held_by, raised, lowered}
use Rattle.claims.specs.Sample.{raised-file0, raised-file2, lowered-file0, lowered-file1}

-- who is in the sets of the sample: 0 in {0}, nobody in length 0
nobody : (t : Tree) (u : ℕ) → SET t [] u → ⊥
nobody t u (e, q, m) = bytes-some e (sym q)

zero_in : (t : Tree) → SET t root 0
zero_in t = (term (one 0), refl, refl)

-- a row with all parts empty is passed with whatever is held
empty-row : (t : Tree) (v_plus v_minus : Set) → PassesRow t v_plus v_minus [] [] [] []
empty-row t v_plus v_minus = record {
  meets-t1 = inl refl;
  has-e = λ u m. absurd (nobody t u m);
  not-t2 = λ (e, q, m). bytes-some e (sym q);
  apart-g = λ u v m. nobody t u m;
}

-- V+ = {0} passes E = {0}, and T1 = {0}
e-row : (t : Tree) (v_minus : Set) → PassesRow t (SET t root) v_minus [] root [] []
e-row t v_minus = record { meets-t1 = inl refl; has-e = λ u m. m; not-t2 = λ (e, q, m). bytes-some e (sym q); apart-g = λ u v m. nobody t u m }

t1-row : (t : Tree) (v_minus : Set) → PassesRow t (SET t root) v_minus root [] [] []
t1-row t v_minus = record {
  meets-t1 = inr (term (one 0), refl, (meets-term t (SET t root) (one 0)).1 (0, refl, zero_in t));
  has-e = λ u m. absurd (nobody t u m);
  not-t2 = λ (e, q, m). bytes-some e (sym q);
  apart-g = λ u v m. nobody t u m;
}

-- what a role passes by its parts and a file's
module _ (tree : Tree) {role : Role} {file : File} {v m b t e : List ℕ} (r : RoleParts role v m b) (f : FileParts file t e) where
  reads-row : PassesRow tree (SET tree v) (SET tree []) t e [] [] → RolePasses tree role file read
  reads-row p = rw (r.v-plus, r.v-minus, f.t1, f.e, f.t2, f.g) p

  writes-row : RolePasses tree role file write
  writes-row = rw (r.other-plus.0, r.other-minus.0, f.other-t1.0, f.other-e.0, f.other-t2.0, f.other-g.0) (empty-row tree _ _)

  executes-row : RolePasses tree role file execute
  executes-row = rw (r.other-plus.1, r.other-minus.1, f.other-t1.1, f.other-e.1, f.other-t2.1, f.other-g.1) (empty-row tree _ _)

  pub changes-row : RolePasses tree role file change_protection
  changes-row = rw (r.other-plus.2, r.other-minus.2, f.other-t1.2, f.other-e.2, f.other-t2.2, f.other-g.2) (empty-row tree _ _)

  out-mediated : {mode : ℕ} → TakesContentOut mode → SET tree e ⊆ SET tree m → RoleMediates tree role file mode
  out-mediated o h = (out-fits o).0 (rw (r.m1, f.e) h, rw (r.m2, f.g) (λ u x. x))

  writes-mediated : SET tree m ⊆ SET tree e → RoleMediates tree role file write
  writes-mediated h = (write-fits refl).0 (rw (r.m1, f.e) h, rw (r.m2, f.g) (λ u x. x))

-- a state with four files in which slot 0 is held by the role
pub record InSession (s : State) (role : ℕ) : Type 0 where
  pub well-formed : WellFormed s
  pub held : hold_of s 0 ≡ By role
  pub counted : s.nfiles ≡ 4

module _ {s : State} {role : ℕ} (h : InSession s role) where
  pub session : SessionGranted s 0
  session = record { well-formed = h.well-formed; known = lit< tt; taken = λ e. free-held (sym e ∙ h.held) }

  pub its : (P : ℕ → Type 0) → P role → P (role_of s 0)
  its P p = subst P (sym (ap role_in h.held)) p

  module _ (file : ℕ) (few : file < 4) where
    pub row : (mode judged : ℕ) → IsMode mode → Passes s role file judged → RowGranted s 0 file mode judged
    row mode judged m p = record {
      session = session;
      present = rw h.counted few;
      is-mode = m;
      passes = its (λ r. Passes s r file judged) p;
    }

    asked : (mode : ℕ) → IsMode mode → Passes s role file mode → Mediates s role file mode → Step s (ask 0 file mode) granted s
    asked mode m p q = ask-step s 0 file mode (record { row = row mode mode m p; mediates = its (λ r. Mediates s r file mode) q })

    module _ {v m b t e : List ℕ} (r : RoleParts (role_at s role) v m b) (f : FileParts (file_at s file) t e) where
      asked-read : PassesRow s.tree (SET s.tree v) (SET s.tree []) t e [] [] → SET s.tree e ⊆ SET s.tree m
          → Step s (ask 0 file read) granted s
      asked-read p q = asked read (lit< tt) (reads-row s.tree r f p) (out-mediated s.tree r f (inl refl) q)

      asked-execute : SET s.tree e ⊆ SET s.tree m → Step s (ask 0 file execute) granted s
      asked-execute q = asked execute (lit< tt) (executes-row s.tree r f) (out-mediated s.tree r f (inr refl) q)

      asked-write : SET s.tree m ⊆ SET s.tree e → Step s (ask 0 file write) granted s
      asked-write q = asked write (lit< tt) (writes-row s.tree r f) (writes-mediated s.tree r f q)

-- the sample held by one of its roles
pub held-is : (role : ℕ) → role < 3 → InSession (held_by role) role
held-is role h = record {
  well-formed = by-kept sample sample-well-formed 0 role (lit< tt) (rw sample-counts.0 h);
  held = hold-here sample sample-well-formed.room 0 (By role) (lit< tt);
  counted = sample-counts.1;
}

begun : (role : ℕ) → role < 3 → Step sample (begin 0 role) granted (held_by role)
begun role h = begin-step sample 0 sample-well-formed (lit< tt) role sample-free (rw sample-counts.0 h)

-- who has nothing
abbrev pub PassesWithNothing : State → ℕ → Type 0
PassesWithNothing s file = PassesIndelible s file empty empty empty empty

-- nothing passes a file with no indelible part, and no file with E = {0}
passes-empty : (s : State) (file : ℕ) → e_of s file read ≡ [] → g_of s file read ≡ [] → PassesWithNothing s file
passes-empty s file e g = record {
  e-held = λ u m. nobody s.tree u (rw e at m);
  g-apart = λ u v m. v;
  e-mediated = λ u m. nobody s.tree u (rw e at m);
  g-mediated = λ u m. nobody s.tree u (rw g at m);
}

fails-root : (s : State) (file : ℕ) → e_of s file read ≡ root → PassesWithNothing s file → ⊥
fails-root s file e p = p.e-held 0 (rw e (zero_in s.tree))

-- after the load of the sample's image
after-load : {t : State} {es : List GateEvent} → GateRun sample es t → Quiet es → AfterLoad sample t es
after-load r q = record {
  before = fresh_state;
  image = sample_image;
  answer = granted;
  loads = sample-loads;
  granted = refl;
  then = r;
  quiet = q;
}

-- a session of that role takes content out of a by an ask for that mode, then writes b, and then come other requests
abbrev pub out_then_write : ℕ → ℕ → ℕ → ℕ → List GateEvent → List GateEvent
out_then_write mode role a b later =
    done sample (begin 0 role) ∷ done (held_by role) (ask 0 a mode) ∷ done (held_by role) (ask 0 b write) ∷ later

out-then-write-moves : (mode role a b : ℕ) (later : List GateEvent) → TakesOut (done (held_by role) (ask 0 a mode)) 0
    → Move (out_then_write mode role a b later) a b
out-then-write-moves mode role a b later o = record {
  slot = 0;
  earlier = done sample (begin 0 role) ∷ [];
  takes = done (held_by role) (ask 0 a mode);
  between = [];
  puts = done (held_by role) (ask 0 b write);
  later = later;
  in_order = refl;
  takes_out = o;
  from-a = refl;
  puts-in = by-write (record { was = refl; granted = refl });
  to-b = refl;
  not-ended = tt;
}

-- a granted Read takes content out, and so does a granted Execute
by_read : {s : State} {file : ℕ} → TakesOut (done s (ask 0 file read)) 0
by_read = by-ask (inl refl) (record { was = refl; granted = refl })

by-execute : {s : State} {file : ℕ} → TakesOut (done s (ask 0 file execute)) 0
by-execute = by-ask (inr refl) (record { was = refl; granted = refl })

-- ---- 1. The setting of demand 3 is met, and content moves in it by a Read and by an Execute: from file 0 to file 1, both with E = {0}
abbrev pub one_move : ℕ → List GateEvent
one_move mode = out_then_write mode 0 0 1 []

out-then-run : (mode : ℕ) → Step (held_by 0) (ask 0 0 mode) granted (held_by 0) → (later : List GateEvent) (t : State) → GateRun (held_by 0) later t
    → GateRun sample (out_then_write mode 0 0 1 later) t
out-then-run mode out later t r =
    let writes = asked-write (held-is 0 (lit< tt)) 1 (lit< tt) sample-role0 sample-file1 (λ u x. x) in
    next (begun 0 (lit< tt)) (next out (next writes r))

reads_first : Step (held_by 0) (ask 0 0 read) granted (held_by 0)
reads_first = asked-read (held-is 0 (lit< tt)) 0 (lit< tt) sample-role0 sample-file0 (e-row _ _) (λ u x. x)

executes-first : Step (held_by 0) (ask 0 0 execute) granted (held_by 0)
executes-first = asked-execute (held-is 0 (lit< tt)) 0 (lit< tt) sample-role0 sample-file0 (λ u x. x)

pub record ContentMovesAfterALoad (mode : ℕ) : Type 0 where
  pub after : AfterLoad sample (held_by 0) (one_move mode)
  pub moved : Move (one_move mode) 0 1

pub content-moves-after-a-load : ContentMovesAfterALoad read
content-moves-after-a-load = record {
  after = after-load (out-then-run read reads_first [] (held_by 0) none) ((λ g r. r), ((λ g r. r), ((λ g r. r), tt)));
  moved = out-then-write-moves read 0 0 1 [] by_read;
}

pub content-moves-by-an-execute : ContentMovesAfterALoad execute
content-moves-by-an-execute = record {
  after = after-load (out-then-run execute executes-first [] (held_by 0) none) ((λ g r. r), ((λ g r. r), ((λ g r. r), tt)));
  moved = out-then-write-moves execute 0 0 1 [] by-execute;
}

-- ---- 2. Sessions have to be told apart: slot 0's old session read file 0, and its new session writes file 2
abbrev pub ended : State
ended = with_hold (held_by 0) 0 Free

abbrev pub two_sessions : List GateEvent
two_sessions =
    done sample (begin 0 0)
    ∷ done (held_by 0) (ask 0 0 read)
    ∷ done (held_by 0) (end 0)
    ∷ done ended (begin 0 1)
    ∷ done (held_by 1) (ask 0 2 write)
    ∷ []

pub record OldSessionsReadIsNotTheNewOnes : Type 0 where
  pub after : AfterLoad sample (held_by 1) two_sessions
  pub not-moved : Move two_sessions 0 2 → ⊥
  pub last-passed : PassesWithNothing sample 2
  pub first-not-passed : PassesWithNothing sample 0 → ⊥

two-sessions-run : GateRun sample two_sessions (held_by 1)
two-sessions-run =
    let h = held-is 0 (lit< tt) in
    let still = free-kept (held_by 0) h.well-formed 0 (lit< tt) in
    let free = hold-here (held_by 0) h.well-formed.room 0 Free (lit< tt) in
    let again = begin-step ended 0 still (lit< tt) 1 free (rw sample-counts.0 (lit< tt)) in
    next (begun 0 (lit< tt))
    (next reads_first
    (next (end_step (held_by 0) 0 (session h))
    (next (subst (Step ended (begin 0 1) granted) (freed-again 0 1) again)
    (next (asked-write (held-is 1 (lit< tt)) 2 (lit< tt) sample-role1 sample-file2 (λ u x. x))
    none))))

pub sessions-are-told-apart : OldSessionsReadIsNotTheNewOnes
sessions-are-told-apart =
    let quiet : Quiet two_sessions = ((λ g r. r), ((λ g r. r), ((λ g r. r), ((λ g r. r), ((λ g r. r), tt))))) in
    record {
      after = after-load two-sessions-run quiet;
      not-moved = λ m.
          let c = move-confines two-sessions-run quiet m in
          nobody sample.tree 0 (rw sample-file2.e at (c.e 0 (rw sample-file0.e (zero_in sample.tree))));
      last-passed = passes-empty sample 2 sample-file2.e sample-file2.g;
      first-not-passed = fails-root sample 0 sample-file0.e;
    }

-- ---- 3. With the mutable parts the claim would be false: content moves from file 3, whose T1 asks for {0}, to file 2, which nobody needs anything to read
-- the whole Read row of a file, mutable parts included, is passed with these sets
abbrev pub PassesReadRow : State → ℕ → Set → Set → Type 0
PassesReadRow s file v_plus v_minus = PassesRow s.tree v_plus v_minus (t1_of s file read) (e_of s file read) (t2_of s file read) (g_of s file read)

pub record MutablePartsWouldBreakIt : Type 0 where
  pub after : AfterLoad sample (held_by 2) (out_then_write read 2 3 2 [])
  pub moved : Move (out_then_write read 2 3 2 []) 3 2
  pub last-passed : PassesReadRow sample 2 empty empty
  pub first-not-passed : PassesReadRow sample 3 empty empty → ⊥

pub mutable-parts-have-no-say : MutablePartsWouldBreakIt
mutable-parts-have-no-say =
    let h = held-is 2 (lit< tt) in
    let role = sample-role2 in
    let run =
    next (begun 2 (lit< tt))
    (next (asked-read h 3 (lit< tt) role sample-file3 (t1-row _ _) (λ u x. x))
    (next (asked-write h 2 (lit< tt) role sample-file2 (λ u x. x))
    none)) in
    record {
      after = after-load run ((λ g r. r), ((λ g r. r), ((λ g r. r), tt)));
      moved = out-then-write-moves read 2 3 2 [] by_read;
      last-passed = rw (sample-file2.t1, sample-file2.e, sample-file2.t2, sample-file2.g) (empty-row sample.tree empty empty);
      first-not-passed = λ p. unmet (rw sample-file3.t1 at p.meets-t1);
    }
  where
    unmet : MeetsT1 sample.tree empty root → ⊥
    unmet (inl q) = bytes-some (term (one 0)) q
    unmet (inr (e, q, m)) =
        let same = one-expression e (term (one 0)) (sym q) in
        ((meets-term sample.tree empty (one 0)).0 (subst (Meets sample.tree empty) same m)).2

-- ---- 4. A granted bypass can break it. Role 0's bypass set has 0, so its session may give a file the E {0} or take it away
root-in-order : InOrder Privilege sample.tree.n 0 root
root-in-order = (lit≤ tt, inr (term (one 0), sample-root, refl))

pub none-in-order : InOrder Privilege sample.tree.n 0 []
none-in-order = (lit≤ tt, inl refl)

module _ (file : ℕ) (few : file < 4) {t e : List ℕ} (f : FileParts (file_at (held_by 0) file) t e) (new : List ℕ) where
  pub covered : (e ≡ root) ⊎ (e ≡ []) → (new ≡ root) ⊎ (new ≡ []) → Covers (held_by 0) 0 file read new []
  covered was is = record {
    of-e = λ u. ⊎_elim (λ w. rw sample-role0.b (within u new is w.0)) (λ w. rw sample-role0.b (within u e was (rw f.e at w.0)));
    of-g = λ u. ⊎_elim
        (λ w. absurd (nobody sample.tree u w.0))
        (λ w. absurd (nobody sample.tree u (rw f.g at w.0)));
  }
    where
      within : (u : ℕ) (x : List ℕ) → (x ≡ root) ⊎ (x ≡ []) → SET sample.tree x u → SET sample.tree root u
      within u x (inl q) m = subst (λ (y : List ℕ). SET sample.tree y u) q m
      within u x (inr q) m = absurd (nobody sample.tree u (subst (λ (y : List ℕ). SET sample.tree y u) q m))

  bypassed : InOrder Privilege sample.tree.n 0 new → Covers (held_by 0) 0 file read new []
      → Step (held_by 0) (bypass 0 file read new []) granted (with_e_g (held_by 0) file read new [])
  bypassed o c =
      let h = held-is 0 (lit< tt) in
      let changes = changes-row sample.tree sample-role0 f in
      bypass-step (held_by 0) 0 file read new [] (record {
        store = record {
          row = row h file few read change_protection (lit< tt) changes;
          first = (0, sample-depth, o);
          second = (0, sample-depth, none-in-order);
        };
        covers = its h (λ r. Covers (held_by 0) r file read new []) c;
      })

-- judged in the loaded state: file 2 has no indelible part when loaded; it is given E = {0}, and then content of file 0 moves to it
abbrev pub bypassed_before : List GateEvent
bypassed_before =
    done sample (begin 0 0)
    ∷ done (held_by 0) (bypass 0 2 read root [])
    ∷ done raised (ask 0 0 read)
    ∷ done raised (ask 0 2 write)
    ∷ []

pub record ABypassBreaksItForTheLoadedState : Type 0 where
  pub loads : Step fresh_state (load sample_image) granted sample
  pub run : GateRun sample bypassed_before raised
  pub moved : Move bypassed_before 0 2
  pub last-passed : PassesWithNothing sample 2
  pub first-not-passed : PassesWithNothing sample 0 → ⊥

raised-held : InSession raised 0
raised-held =
    let h = held-is 0 (lit< tt) in
    record {
      well-formed = eg-kept (held_by 0) h.well-formed 0 sample-depth 2 (rw h.counted (lit< tt)) read (lit< tt) root []
          root-in-order none-in-order;
      held = h.held;
      counted = h.counted;
    }

pub a-bypass-breaks-it-for-the-loaded-state : ABypassBreaksItForTheLoadedState
a-bypass-breaks-it-for-the-loaded-state =
    let raising = bypassed 2 (lit< tt) sample-file2 root root-in-order
    (covered 2 (lit< tt) sample-file2 root (inr refl) (inl refl)) in
    let role = sample-role0 in
    record {
      loads = sample-loads;
      run =
          next (begun 0 (lit< tt))
          (next raising
          (next (asked-read raised-held 0 (lit< tt) role raised-file0 (e-row _ _) (λ u x. x))
          (next (asked-write raised-held 2 (lit< tt) role raised-file2 (λ u x. x))
          none)));
      moved = record {
        slot = 0;
        earlier = done sample (begin 0 0) ∷ done (held_by 0) (bypass 0 2 read root []) ∷ [];
        takes = done raised (ask 0 0 read);
        between = [];
        puts = done raised (ask 0 2 write);
        later = [];
        in_order = refl;
        takes_out = by_read;
        from-a = refl;
        puts-in = by-write (record { was = refl; granted = refl });
        to-b = refl;
        not-ended = tt;
      };
      last-passed = passes-empty sample 2 sample-file2.e sample-file2.g;
      first-not-passed = fails-root sample 0 sample-file0.e;
    }

-- judged in the present state: content moves from file 0 to file 1, both with E = {0}, and then file 1's E is taken away
abbrev pub bypassed_after : List GateEvent
bypassed_after = out_then_write read 0 0 1 (done (held_by 0) (bypass 0 1 read [] []) ∷ [])

pub record ABypassBreaksItForThePresentState : Type 0 where
  pub loads : Step fresh_state (load sample_image) granted sample
  pub run : GateRun sample bypassed_after lowered
  pub moved : Move bypassed_after 0 1
  pub last-passed : PassesWithNothing lowered 1
  pub first-not-passed : PassesWithNothing lowered 0 → ⊥

pub a-bypass-breaks-it-for-the-present-state : ABypassBreaksItForThePresentState
a-bypass-breaks-it-for-the-present-state =
    let lowering = bypassed 1 (lit< tt) sample-file1 [] none-in-order
    (covered 1 (lit< tt) sample-file1 [] (inl refl) (inr refl)) in
    record {
      loads = sample-loads;
      run = out-then-run read reads_first _ lowered (next lowering none);
      moved = out-then-write-moves read 0 0 1 _ by_read;
      last-passed = passes-empty lowered 1 lowered-file1.e lowered-file1.g;
      first-not-passed = fails-root lowered 0 lowered-file0.e;
    }

-- ---- 5. By the row alone, as 01 had it for Execute before 02's [2], the claim would be false
-- role 1, with nothing, runs file 0, whose Read row has E = {0}, and writes file 2, which nobody needs anything to read
abbrev pub one_execute : List GateEvent
one_execute = out_then_write execute 1 0 2 []

abbrev pub unfit : Answer
unfit = record { number = mediating_unfit; place = 0 }

pub record AnExecuteWouldBreakIt : Type 0 where
  pub loads : Step fresh_state (load sample_image) granted sample
  pub run-before : Run StepBefore sample one_execute (held_by 1)
  pub quiet : Quiet one_execute
  pub moved : Move one_execute 0 2
  pub last-passed : PassesWithNothing sample 2
  pub first-not-passed : PassesWithNothing sample 0 → ⊥
  -- and so it is refused now, with 15
  pub refused-now : Step (held_by 1) (ask 0 0 execute) unfit (held_by 1)

pub by-the-row-alone-it-would-be-false : AnExecuteWouldBreakIt
by-the-row-alone-it-would-be-false =
    let h = held-is 1 (lit< tt) in
    let runs = row h 0 (lit< tt) execute execute (lit< tt) (executes-row sample.tree sample-role1 sample-file0) in
    let writes = row h 2 (lit< tt) write write (lit< tt) (writes-row sample.tree sample-role1 sample-file2) in
    let fits = its h (λ r. Mediates (held_by 1) r 2 write) (writes-mediated sample.tree sample-role1 sample-file2 (λ u x. x)) in
    let ran : StepBefore (held_by 1) (ask 0 0 execute) granted (held_by 1) =
    record { decides = row-holds (mediated_before (held_by 1) 0 0 execute ∷ []) runs (inr (inl refl, (refl, refl))); leaves = made _ _ } in
    let wrote : StepBefore (held_by 1) (ask 0 2 write) granted (held_by 1) =
    record { decides = row-holds (mediated_before (held_by 1) 0 2 write ∷ []) writes (inr (inr fits, (refl, refl))); leaves = made _ _ } in
    record {
      loads = sample-loads;
      run-before =
          next {e = done sample (begin 0 1)} (begun 1 (lit< tt))
          (next {e = done (held_by 1) (ask 0 0 execute)} ran
          (next {e = done (held_by 1) (ask 0 2 write)} wrote
          none));
      quiet = ((λ g r. r), ((λ g r. r), ((λ g r. r), tt)));
      moved = out-then-write-moves execute 1 0 2 [] by-execute;
      last-passed = passes-empty sample 2 sample-file2.e sample-file2.g;
      first-not-passed = fails-root sample 0 sample-file0.e;
      refused-now = record {
        decides = row-holds (mediated (held_by 1) 0 0 execute ∷ []) runs (inl (unmediated h, refl, refl));
        leaves = record { on-grant = λ g. refl; on-refusal = λ n. refl };
      };
    }
  where
    unmediated : InSession (held_by 1) 1 → Mediates (held_by 1) (role_of (held_by 1) 0) 0 execute → ⊥
    unmediated h q =
        let m = subst (λ (r : ℕ). Mediates (held_by 1) r 0 execute) (ap role_in h.held) q in
        nobody sample.tree 0 (rw sample-role1.m1 at (m.e-in-m1 (inr refl) 0 (rw sample-file0.e (zero_in sample.tree))))
