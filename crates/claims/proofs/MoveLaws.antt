-- Content that moves goes only to files that are as hard to read. Assumes nothing.
use Rattle.std.specs.Prelude.{◌≡◌, refl, List, [], ◌∷◌, ◌++◌, ℕ, get_or}
use Rattle.std.proofs.Common.{sym, ap, ◌∙◌, subst, append_assoc, arith}
use Rattle.securon.specs.Sets.{Set, ◌⊆◌}
use Rattle.expression.specs.Bytes.{SET}
use Rattle.policy.specs.declared.Role.{Role}
use Rattle.policy.specs.declared.State.{State}
use Rattle.policy.specs.State.{read, write, By, role_in, role_of, hold_of, e_of, g_of, m1_of, m2_of, role_part, m1_place, m2_place, off_role}
use Rattle.policy.specs.Whole.{session-holds}
use Rattle.rules.specs.Rules.{TakesContentOut, Mediates}
use Rattle.gate.specs.Granted.{AskGranted}
use Rattle.gate.specs.Laws.{ask-granted}
use Rattle.machine.specs.Runs.{Grants}
use Rattle.machine.specs.Machine.{Request, ask, Step, GateEvent, GateRun}
use Rattle.machine.specs.RunLaws.{cut_at}
use Rattle.claims.specs.Trace.{Quiet, file_of, TakesOut, by-ask, PutsIn, by-write, Move, Reached, itself, moved}
use Rattle.claims.specs.Trace.{ReachedInTime, already, moved_on, PassesIndelible}
use Rattle.claims.proofs.TraceLaws.{Kept, kept_then, step_keeps, run-keeps, run_holds, quiet-split}

-- who reads b by its indelible parts holds what a's indelible parts ask: E and G of a's Read row are within those of b's
pub record Confines (s : State) (a b : ℕ) : Type 0 where
  pub e : SET s.tree (e_of s a read) ⊆ SET s.tree (e_of s b read)
  pub g : SET s.tree (g_of s a read) ⊆ SET s.tree (g_of s b read)

pub confines-itself : (s : State) (a : ℕ) → Confines s a a
confines-itself s a = record { e = λ u m. m; g = λ u m. m }

pub confines-then : {s : State} {a b c : ℕ} → Confines s a b → Confines s b c → Confines s a c
confines-then p q = record { e = λ u m. q.e u (p.e u m); g = λ u m. q.g u (p.g u m) }

-- the sets of a kept state are those of the state before
module _ {s t : State} (k : Kept s t) where
  e-same : (file : ℕ) → SET t.tree (e_of t file read) ≡ SET s.tree (e_of s file read)
  e-same file = ap (λ x. SET x (e_of t file read)) k.tree ∙ ap (SET s.tree) (k.e file read (omega arith))

  g-same : (file : ℕ) → SET t.tree (g_of t file read) ≡ SET s.tree (g_of s file read)
  g-same file = ap (λ x. SET x (g_of t file read)) k.tree ∙ ap (SET s.tree) (k.g file read (omega arith))

  m1-same : (role : ℕ) → SET t.tree (m1_of t role) ≡ SET s.tree (m1_of s role)
  m1-same role =
      ap (λ x. SET x (m1_of t role)) k.tree
      ∙ ap (λ (l : List Role). SET s.tree (role_part (get_or l role off_role) m1_place)) k.roles

  m2-same : (role : ℕ) → SET t.tree (m2_of t role) ≡ SET s.tree (m2_of s role)
  m2-same role =
      ap (λ x. SET x (m2_of t role)) k.tree
      ∙ ap (λ (l : List Role). SET s.tree (role_part (get_or l role off_role) m2_place)) k.roles

-- a Read or an Execute, and a Write by the same role, over the same tree, roles and indelible parts
mediated : (s p q : State) → Kept s p → Kept s q → (role a b mode : ℕ) → TakesContentOut mode → Mediates p role a mode → Mediates q role b write
    → Confines s a b
mediated s p q kp kq role a b mode o r w = record {
  e = λ u m.
      let x = r.e-in-m1 o u (subst (λ (A : Set). A u) (sym (e-same kp a)) m) in
      let y = subst (λ (A : Set). A u) (m1-same kp role) x in
      let z = w.m1-in-e refl u (subst (λ (A : Set). A u) (sym (m1-same kq role)) y) in
      subst (λ (A : Set). A u) (e-same kq b) z;
  g = λ u m.
      let x = r.g-in-m2 o u (subst (λ (A : Set). A u) (sym (g-same kp a)) m) in
      let y = subst (λ (A : Set). A u) (m2-same kp role) x in
      let z = w.m2-in-g refl u (subst (λ (A : Set). A u) (sym (m2-same kq role)) y) in
      subst (λ (A : Set). A u) (g-same kq b) z;
}

-- a granted ask: what it tells, and the state that it leaves
asked : (e : GateEvent) (t : State) (slot file mode : ℕ) → Step e.before e.request e.answer t → Grants e (ask slot file mode)
    → AskGranted e.before slot file mode × (t ≡ e.before)
asked e t slot file mode st g =
    let w = subst (λ (q : Request). Step e.before q e.answer t) g.was st in
    (ask-granted e.before slot e.answer file mode w.decides g.granted, w.leaves.on-grant g.granted)

-- what takes content out, and what puts it in: the session is there, its mediating sets fit, and the state stays
pub record Passing (e : GateEvent) (t : State) (slot mode : ℕ) : Type 0 where
  pub held : hold_of e.before slot ≡ By (role_of e.before slot)
  pub mediates : Mediates e.before (role_of e.before slot) (file_of e.before e.request) mode
  pub stays : t ≡ e.before

module _ (e : GateEvent) (t : State) (slot : ℕ) (st : Step e.before e.request e.answer t) where
  passing : (file mode : ℕ) → Grants e (ask slot file mode) → Passing e t slot mode
  passing file mode g =
      let (told, stays) = asked e t slot file mode st g in
      record { held = session-holds e.before slot told.row.session.taken; mediates = rw g.was told.mediates; stays = stays }

  out-passing : TakesOut e slot → (mode : ℕ) × TakesContentOut mode × Passing e t slot mode
  out-passing (by-ask {file} o g) = (_, o, passing file _ g)

  in-passing : PutsIn e slot → Passing e t slot write
  in-passing (by-write {file} g) = passing file write g

-- a session that goes on has one role
pub one-role : (s t : State) (slot : ℕ) → hold_of t slot ≡ By (role_of s slot) → role_of t slot ≡ role_of s slot
one-role s t slot h = ap role_in h

-- one move
pub move-confines : {s t : State} {es : List GateEvent} → GateRun s es t → Quiet es → {a b : ℕ} → Move es a b → Confines s a b
move-confines {s} {t} {es} r q {a} {b} m =
    let slot = m.slot in
    let taken = m.takes.before in
    let onward = m.between ++ (m.puts ∷ m.later) in
    let c1 = cut_at m.earlier m.takes onward (subst (λ (x : List GateEvent). GateRun s x t) m.in_order r) in
    let q1 = quiet-split m.earlier (m.takes ∷ onward) (subst Quiet m.in_order q) in
    let c2 = cut_at m.between m.puts m.later c1.onward in
    let q2 = quiet-split m.between (m.puts ∷ m.later) q1.1.1 in
    let (mode, o, out) = out-passing m.takes c1.after slot c1.steps m.takes_out in
    let into = in-passing m.puts c2.after slot c2.steps m.puts-in in
    let before = run-keeps c1.first q1.0 in
    let meanwhile = kept_then (step_keeps m.takes.answer m.takes.request c1.steps q1.1.0) (run-keeps c2.first q2.0) in
    let held = ap (λ (x : State). hold_of x slot) out.stays ∙ out.held in
    let still = run_holds c2.first q2.0 slot (role_of taken slot) m.not-ended held in
    let same = one-role taken m.puts.before slot still in
    let from-a = subst (λ (x : ℕ). Mediates taken (role_of taken slot) x mode) m.from-a out.mediates in
    let to-b = subst (λ (x : ℕ). Mediates m.puts.before (role_of m.puts.before slot) x write) m.to-b into.mediates in
    let by-same = subst (λ (x : ℕ). Mediates m.puts.before x b write) same to-b in
    mediated s taken m.puts.before before (kept_then before meanwhile) (role_of taken slot) a b mode o from-a by-same

-- moves one after another
pub reached-confines : {s t : State} {es : List GateEvent} → GateRun s es t → Quiet es → {a b : ℕ} → Reached es a b → Confines s a b
reached-confines {s} r q {a} itself = confines-itself s a
reached-confines r q (moved p m) = confines-then (reached-confines r q p) (move-confines r q m)

-- a move of a part is a move of the whole
move-wider : (xs ys zs : List GateEvent) {a b : ℕ} → Move ys a b → Move (xs ++ (ys ++ zs)) a b
move-wider xs ys zs m = record {
  slot = m.slot;
  earlier = xs ++ m.earlier;
  takes = m.takes;
  between = m.between;
  puts = m.puts;
  later = m.later ++ zs;
  in_order =
      ap (λ (l : List GateEvent). xs ++ (l ++ zs)) m.in_order
      ∙ ap (xs ++◌) (append_assoc m.earlier (m.takes ∷ (m.between ++ (m.puts ∷ m.later))) zs)
      ∙ ap (λ (l : List GateEvent). xs ++ (m.earlier ++ (m.takes ∷ l))) (append_assoc m.between (m.puts ∷ m.later) zs)
      ∙ sym (append_assoc xs m.earlier (m.takes ∷ (m.between ++ (m.puts ∷ (m.later ++ zs)))));
  takes_out = m.takes_out;
  from-a = m.from-a;
  puts-in = m.puts-in;
  to-b = m.to-b;
  not-ended = m.not-ended;
}

reached-wider : (xs zs : List GateEvent) {a b : ℕ} → Reached xs a b → Reached (xs ++ zs) a b
reached-wider xs zs itself = itself
reached-wider xs zs (moved p m) = moved (reached-wider xs zs p) (move-wider [] xs zs m)

-- what was reached in time was reached
pub in-time : {es : List GateEvent} {a b : ℕ} → ReachedInTime es a b → Reached es a b
in-time already = itself
in-time (moved_on xs ys zs p m) = moved (reached-wider xs (ys ++ zs) (in-time p)) (move-wider xs ys zs m)

-- who passes the last passes the first
pub passes-first : {s : State} {a b : ℕ} → Confines s a b → (v_plus v_minus m1 m2 : Set) → PassesIndelible s b v_plus v_minus m1 m2
    → PassesIndelible s a v_plus v_minus m1 m2
passes-first c v_plus v_minus m1 m2 p = record {
  e-held = λ u h. p.e-held u (c.e u h);
  g-apart = λ u v h. p.g-apart u v (c.g u h);
  e-mediated = λ u h. p.e-mediated u (c.e u h);
  g-mediated = λ u h. p.g-mediated u (c.g u h);
}

-- the indelible read conditions are the same in two states where E and G of the file's Read row are
passes-as : {s t : State} (file : ℕ) → SET t.tree (e_of t file read) ≡ SET s.tree (e_of s file read)
    → SET t.tree (g_of t file read) ≡ SET s.tree (g_of s file read) → (v_plus v_minus m1 m2 : Set)
    → PassesIndelible s file v_plus v_minus m1 m2 → PassesIndelible t file v_plus v_minus m1 m2
passes-as file e g v_plus v_minus m1 m2 p = record {
  e-held = λ u h. p.e-held u (subst (λ (A : Set). A u) e h);
  g-apart = λ u v h. p.g-apart u v (subst (λ (A : Set). A u) g h);
  e-mediated = λ u h. p.e-mediated u (subst (λ (A : Set). A u) e h);
  g-mediated = λ u h. p.g-mediated u (subst (λ (A : Set). A u) g h);
}

module _ {s t : State} (k : Kept s t) (file : ℕ) where
  pub passes_kept : (v_plus v_minus m1 m2 : Set) → PassesIndelible s file v_plus v_minus m1 m2 → PassesIndelible t file v_plus v_minus m1 m2
  passes_kept = passes-as file (e-same k file) (g-same k file)

  pub passes-loaded : (v_plus v_minus m1 m2 : Set) → PassesIndelible t file v_plus v_minus m1 m2 → PassesIndelible s file v_plus v_minus m1 m2
  passes-loaded = passes-as file (sym (e-same k file)) (sym (g-same k file))
