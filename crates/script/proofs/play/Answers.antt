-- `script::play` meets its contract: the code and the bytes after it say which record it is. Assumes nothing.
use mathlib.Core.Path.{◌≡◌, sym, ◌∙◌, subst}
use mathlib.Core.List.{List}
use Prim.Native.Nat.{ℕ, ◌-◌}
use native.Mathlib.Omega.{arith}
use lib.ListN.{length, get_or, take, drop, length-drop}
use lib.Seq.{take_all}
use borrow.Author.Tests.{ltb-false}
use Rattle.machine.specs.Machine.{Request}
use Rattle.script.specs.Script.{IsRecord}
use Rattle.script.specs.Records.{begin-whole, end_whole, ask-whole, change-whole, bypass-whole}
use Rattle.script.proofs.play.Goals as goal
use Rattle.script.proofs.play.Goals.{then-bytes-lt4+in-1-1, else-bytes-lt4+in-1-1}
use Rattle.script.proofs.play.Goals.{then-bytes-lt3+in-2-1, else-bytes-lt3+then-bytes-lt4+in-2-1, else-bytes-lt3+else-bytes-lt4+in-2-1}

-- what is left after so many bytes
left-is : (k : ℕ) {bs : List ℕ} {q : Request} → IsRecord bs q (drop k bs) → IsRecord bs q (take (length bs - k) (drop k bs))
left-is k {bs} {q} = subst (IsRecord bs q) (sym (take_all (length bs - k) (drop k bs) (omega (arith, length-drop k bs))))

rest-is : (k : ℕ) (bs : List ℕ) {l : List ℕ} → take (length bs - k) (drop k bs) ≡ l → drop k bs ≡ l
rest-is k bs e = sym (take_all (length bs - k) (drop k bs) (omega (arith, length-drop k bs))) ∙ e

pub returns-in-1 : goal.returns-in-1
returns-in-1 c =
    let code : get_or c.args.bytes.now 0 0 ≡ 1 = elim c.in-1-1.branch [ then-bytes-lt4+in-1-1 w ↦ omega arith | else-bytes-lt4+in-1-1 w ↦ omega arith ] in
    (_, left-is 3 (begin-whole c.args.bytes.now code (omega (arith, ltb-false))), c.begin.ensures)

pub returns-in-2 : goal.returns-in-2
returns-in-2 c =
    let code : get_or c.args.bytes.now 0 0 ≡ 2 = elim c.in-2-1.branch [
      | then-bytes-lt3+in-2-1 w ↦ omega arith
      | else-bytes-lt3+then-bytes-lt4+in-2-1 w ↦ omega arith
      | else-bytes-lt3+else-bytes-lt4+in-2-1 w ↦ omega arith
    ] in
    (_, left-is 2 (end_whole c.args.bytes.now code (omega (arith, ltb-false))), c.end.ensures)

pub returns-in-3 : goal.returns-in-3
returns-in-3 c = (_, left-is 4 (ask-whole c.args.bytes.now (omega arith) (omega arith)), c.ask.ensures)

pub returns-in-Some : goal.returns-in-Some
returns-in-Some c =
    let two = c.in-Some.ensures in
    (_, change-whole c.args.bytes.now _ _ _ (omega arith) (rest-is 4 c.args.bytes.now two) (omega arith), c.change.ensures)

pub returns-in-Some-two_expressions : goal.returns-in-Some-two_expressions
returns-in-Some-two_expressions c =
    let two = c.in-Some-two_expressions.ensures in
    (_, bypass-whole c.args.bytes.now _ _ _ (omega arith) (rest-is 4 c.args.bytes.now two) (omega arith), c.bypass.ensures)
