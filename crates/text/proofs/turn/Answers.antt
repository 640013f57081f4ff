-- `turn` meets its contract: a fault is where the text is wrong, and a text of more bytes than fit has no other bytes. Assumes nothing.
use mathlib.Core.Path.{◌≡◌, sym, ap, subst}
use mathlib.Core.Logic.{inl, inr}
use native.Mathlib.Omega.{arith}
use lib.ListN.{length}
use Rattle.answer.specs.Faults.{FaultAt}
use Rattle.answer.specs.Laws.{no-fault}
use Rattle.text.specs.Text.{Legal}
use Rattle.text.specs.Turn.{TextFits}
use Rattle.text.specs.Complete.{one-reading}
use Rattle.text.proofs.turn.Goals as goal

pub returns-in-Err-clause-decides : goal.returns-in-Err-clause-decides
returns-in-Err-clause-decides c =
    let a = c.at-in-Err.ensures in
    let f = c.in-Err.ensures in
    inr (
      c.if-out-lt-LONGEST.false,
      inl (
        (λ w. no-fault Legal c.args.text.now w.1 f),
        a.number,
        inr (c.if-text-gt-LONGEST_TEXT.false, subst (FaultAt Legal c.args.text.now) (sym a.place) f),
      ),
    )

pub returns-in_default-clause-decides : goal.returns-in_default-clause-decides
returns-in_default-clause-decides c =
    let a = c.of-in_default.ensures in
    let (b, g, k) = c.in-Ok.ensures in
    let many : (w : TextFits c.args.text.now) → ⊥ = λ w.
    let e : length b ≡ length w.0 = ap length (one-reading g w.1) in omega (arith, k.count, c.in_default.ensures, w.2) in
    inr (c.if-out-lt-LONGEST.false, inr ((c.if-text-gt-LONGEST_TEXT.false, (b, g)), inl (many, a.number, a.place)))
