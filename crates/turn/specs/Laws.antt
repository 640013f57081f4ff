-- There is one line to print for a text. Assumes nothing.
use Rattle.std.specs.Prelude.{◌≡◌, List, ℕ}
use Rattle.std.proofs.Common.{sym, ◌∙◌, subst}
use Rattle.std.proofs.Math.Decide.{ℕ_discrete}
use Rattle.answer.specs.declared.Answer.{Answer}
use Rattle.answer.specs.Answers.{Granted}
use Rattle.expression.specs.Bytes.{longest}
use Rattle.text.specs.Complete.{one-reading}
use Rattle.text.specs.Laws.{one-text-answer}
use Rattle.lines.specs.Lines.{Line}
use Rattle.lines.specs.Laws.{one_line}
use Rattle.turn.specs.Printed.{Printed}

pub one-print : {w l m : List ℕ} → Printed w l → Printed w m → l ≡ m
one-print {w} {l} {m} x y =
    one_line x.line-is
    (subst (λ (b : List ℕ). Line x.answer b m) (sym (bytes (ℕ_discrete x.answer.number 0)))
    (subst (λ (a : Answer). Line a y.bytes m) (sym same) y.line-is))
  where
    same : x.answer ≡ y.answer
    same = one-text-answer w longest x.answer y.answer x.decides y.decides

    bytes : Dec (Granted x.answer) → x.bytes ≡ y.bytes
    bytes (yes g) = one-reading (x.made g) (y.made (subst Granted same g))
    bytes (no n) = x.none n ∙ sym (y.none (λ g. n (subst Granted (sym same) g)))
