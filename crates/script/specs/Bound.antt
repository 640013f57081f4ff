-- An output's length is bounded by its input's, whatever the bytes are. Assumes nothing.
use Rattle.std.proofs.Common.{ap, ◌∙◌, inl, inr, arith, length-append, length-take, length-drop}
use Rattle.std.specs.Prelude.{List, [], ◌++◌, ℕ, suc, ◌+◌, ◌*◌, ◌^◌, ◌≤◌, length, drop}
use Rattle.std.proofs.Math.Decide.{dec_le}
use Rattle.answer.specs.declared.Answer.{Answer}
use Rattle.policy.specs.declared.State.{State}
use Rattle.policy.specs.State.{fresh_state}
use Rattle.image.specs.Image.{expression_bytes}
use Rattle.image.specs.Load.{Loads}
use Rattle.image.specs.Laws.{load_inside}
use Rattle.gate.specs.Small.{Small, begin-small, end-small, ask-small}
use Rattle.gate.proofs.Altering.{change-small, bypass-small}
use Rattle.machine.specs.Machine.{Request, Step}
use Rattle.lines.specs.Lines.{Line}
use Rattle.lines.specs.Lengths.{line-length, under-power}
use Rattle.script.specs.Script.{IsRecord, a-begin, an-end, an-ask, a-change, a-bypass, Plays, ended, called, cut, Prints, stated, image_in}

-- the line of an answer whose place has j + 1 digits
small_line : {a : Answer} {l : List ℕ} (j : ℕ) → Small (10 ^ suc j) a → Line a [] l → length l ≤ j + 5
small_line j w x = omega (arith, line-length 1 j w.0 w.1 x)

-- each byte of a record pays for three of its line
record-line : (s t : State) {bytes rest l : List ℕ} {q : Request} {a : Answer} → IsRecord bytes q rest → Step s q a t → Line a [] l
    → length l + 3 * length rest ≤ 3 * length bytes
record-line s t {a = a} (a-begin {slot} {role}) w x = omega (arith, small_line 0 (begin-small s slot role a w.decides) x)
record-line s t {a = a} (an-end {slot}) w x = omega (arith, small_line 0 (end-small s slot a w.decides) x)
record-line s t {a = a} (an-ask {slot} {file} {mode}) w x = omega (arith, small_line 0 (ask-small s slot file mode a w.decides) x)
record-line s t {rest = rest} {a = a} (a-change {slot} {file} {mode} {x} {y}) w l =
    omega (arith, small_line 2 (change-small s slot file mode x y a w.decides) l, length-append x (expression_bytes y ++ rest), length-append y rest)
record-line s t {rest = rest} {a = a} (a-bypass {slot} {file} {mode} {x} {y}) w l =
    omega (arith, small_line 2 (bypass-small s slot file mode x y a w.decides) l, length-append x (expression_bytes y ++ rest), length-append y rest)

-- and `cut` comes at most once
play-length : {s : State} {bytes printed : List ℕ} → Plays s bytes printed → length printed ≤ 4 + 3 * length bytes
play-length ended = omega arith
play-length {s} (called {t = t} {line = l} {printed = p} r w x more) = omega (arith, record-line s t r w x, play-length more, length-append l p)
play-length (cut some none) = omega arith

-- the line of a load
load_line : {a : Answer} {l : List ℕ} (bs : List ℕ) (before after : State) → Loads bs before (record { answer = a; state = after }) → Line a [] l
    → length l ≤ 4 + length bs
load_line {a} bs before after w x =
    let i = load_inside bs before after w in omega (arith, i.1, line-length 0 a.place i.0 (under-power a.place) x)

-- an output has at most four bytes, and three for each byte of the input
pub short-output : {input printed : List ℕ} → Prints input printed → length printed ≤ 4 + 3 * length input
short-output (inl x) = omega (arith, ap length x.1)
short-output {input} (inr x) =
    let all = ap length x.is ∙ length-append x.line x.rest in
    let first = load_line (image_in input) fresh_state x.state x.loads x.is-line in
    omega (arith, all, first, go (dec_le (2 + stated input) (length input)))
  where
    image : (length (image_in input) ≤ stated input) × (length (image_in input) ≤ length input)
    image =
        let i = length-take (stated input) (drop 2 input) in
        let j = length-drop 2 input in
        (omega arith, omega arith)

    go : Dec (2 + stated input ≤ length input) → length (image_in input) + length x.rest ≤ 3 * length input
    go (yes h) = omega (arith, image.0, play-length (x.whole h), length-drop (2 + stated input) input)
    go (no n) = omega (arith, image.1, ap length (x.short (omega arith)))
