-- Demand 1, in the user's words: "Every call ends with a defined answer, on any image, text, request or state. Nothing is left for the caller to check
-- first. A refused call gives its number and place, and the state and each buffer lent to it come back unaltered."
-- Below, each sentence is followed by its theorems. Assumes nothing.
use Rattle.std.specs.Prelude.{◌≡◌, List, ◌∷◌, ◌++◌, ℕ, ◌≤◌, length, drop}
use Rattle.std.proofs.Common.{sym, ap, ◌∙◌, subst, arith, length-append, length-take, length-drop, drop_of_length-le, take_all}
use Rattle.std.proofs.Math.Decide.{dec_le}
use Rattle.std.proofs.Math.Seq.{drop-append_seam}
use Rattle.answer.specs.declared.Answer.{Answer}
use Rattle.answer.specs.Answers.{Decides, Granted, Leaves}
use Rattle.policy.specs.declared.State.{State}
use Rattle.text.specs.Turn.{text_conditions, text_grants, text_makes}
use Rattle.text.specs.Laws.{one-text-answer, one-text-output}
use Rattle.print.specs.Print.{print_conditions, print_grants, print_makes}
use Rattle.print.specs.Laws.{one-print-answer, one-print-output}
use Rattle.machine.specs.Machine.{Request, load, begin, end, ask, change, bypass, Step, GateEvent, GateRun}
use Rattle.machine.specs.Laws.{Same, one-step}
use Rattle.machine.specs.RunLaws.{cut_at, run-joined}
use Rattle.script.specs.Script.{Replays}
use Rattle.script.specs.Laws.{one-replay}

-- ---- "Every call ends with a defined answer, on any image, text, request or state. Nothing is left for the caller to check first."
-- That every call returns, whatever it is given, is Rattle's own proof of the functions that docs/CLAIMS.md lists as entry points: none has a `requires`.
-- What their promises leave open is shown here: nothing. One answer, one state and one content of each buffer that was lent to be written.

-- a load, a begin, an end, an ask, a change, a bypass
pub one-answer-and-one-state : (s : State) (q : Request) (a b : Answer) (t u : State) → Step s q a t → Step s q b u → Same a b t u
one-answer-and-one-state = one-step

-- a text
pub one-answer-to-a-text : (text : List ℕ) (room : ℕ) (a b : Answer) → Decides (text_conditions text room) (text_grants text) a
    → Decides (text_conditions text room) (text_grants text) b → a ≡ b
one-answer-to-a-text = one-text-answer

pub one-output-of-a-text : (text : List ℕ) (a : Answer) (before x y : List ℕ) → Leaves a (text_makes text before) before x
    → Leaves a (text_makes text before) before y → x ≡ y
one-output-of-a-text = one-text-output

-- a print
pub one-answer-to-a-print : (s : State) (expression : List ℕ) (room : ℕ) (a b : Answer)
    → Decides (print_conditions s expression room) (print_grants expression) a
    → Decides (print_conditions s expression room) (print_grants expression) b → a ≡ b
one-answer-to-a-print = one-print-answer

pub one-output-of-a-print : (expression : List ℕ) (a : Answer) (before x y : List ℕ) → Leaves a (print_makes expression before) before x
    → Leaves a (print_makes expression before) before y → x ≡ y
one-output-of-a-print = one-print-output

-- a whole replay
pub one-output-of-a-replay : {input before x y : List ℕ} {r s : ℕ} → Replays input before x r → Replays input before y s → (x ≡ y) × (r ≡ s)
one-output-of-a-replay = one-replay

-- ---- "A refused call gives its number and place": which they are is demand 2.
-- "and the state and each buffer lent to it come back unaltered." A buffer that is lent to be read can't be written to, by its type.

-- a load, a begin, an end, an ask, a change, a bypass: the state
pub a-refused-call-leaves-the-state : (s : State) (q : Request) (a : Answer) (t : State) → Step s q a t → (Granted a → ⊥) → t ≡ s
a-refused-call-leaves-the-state s (load image) a t st = st.leaves.on-refusal
a-refused-call-leaves-the-state s (begin slot role) a t st = st.leaves.on-refusal
a-refused-call-leaves-the-state s (end slot) a t st = st.leaves.on-refusal
a-refused-call-leaves-the-state s (ask slot file mode) a t st = st.leaves.on-refusal
a-refused-call-leaves-the-state s (change slot file mode t1 t2) a t st = st.leaves.on-refusal
a-refused-call-leaves-the-state s (bypass slot file mode e g) a t st = st.leaves.on-refusal

-- a text: the output
pub a-refused-text-leaves-the-output : (text : List ℕ) (a : Answer) (before after : List ℕ) → Leaves a (text_makes text before) before after
    → (Granted a → ⊥) → after ≡ before
a-refused-text-leaves-the-output text a before after l = l.on-refusal

-- a print: the output
pub a-refused-print-leaves-the-output : (expression : List ℕ) (a : Answer) (before after : List ℕ) → Leaves a (print_makes expression before) before after
    → (Granted a → ⊥) → after ≡ before
a-refused-print-leaves-the-output expression a before after l = l.on-refusal

-- among other calls: a refused one might as well not have been made, for whatever comes after it
pub a-refused-call-could-be-left-out : {s t : State} (xs : List GateEvent) (e : GateEvent) (ys : List GateEvent) → GateRun s (xs ++ (e ∷ ys)) t
    → (Granted e.answer → ⊥) → GateRun s (xs ++ ys) t
a-refused-call-could-be-left-out {s} {t} xs e ys r n =
    let c = cut_at xs e ys r in
    let stays = a-refused-call-leaves-the-state e.before e.request e.answer c.after c.steps n in
    run-joined c.first (subst (λ (x : State). GateRun x ys t) stays c.onward)

-- a whole replay is never refused; a refused call in it could be left out (Replayed has its run), and of its output what lies past the print stays
pub a-replay-leaves-the-rest-of-its-output : {input before after : List ℕ} {r : ℕ} → Replays input before after r → drop r after ≡ drop r before
a-replay-leaves-the-rest-of-its-output {input} {before} {after} {r} p = go (dec_le (length p.printed) (length before))
  where
    go : Dec (length p.printed ≤ length before) → drop r after ≡ drop r before
    go (yes h) =
        let whole = take_all (length before) p.printed h in
        let filled = p.filled.is ∙ ap (◌++ drop (length p.printed) before) whole in
        rw (p.filled.fits h, filled) (drop-append_seam p.printed (drop (length p.printed) before))
    go (no n) =
        let full = p.filled.full (omega arith) in
        let long : length after ≡ length before = rw p.filled.is (simp (length-append, length-take, length-drop) (omega arith)) in
        drop_of_length-le after {i = r} (omega arith) ∙ sym (drop_of_length-le before {i = r} (omega arith))
