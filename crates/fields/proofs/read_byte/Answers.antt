-- `fields::read_byte` meets its contract: the number is not met, not all there, or judged. Assumes nothing.
use Rattle.std.proofs.Common.{◌∙◌, ap, drop, length, arith, length-drop}
use Rattle.std.proofs.lemmas.Result.{err_from_is_err_and}
use Rattle.fields.specs.Parts.{first}
use Rattle.fields.specs.Readings.{number-stays, number-early}
use Rattle.fields.proofs.OutOfRange.{byte-front, number-judged}
use Rattle.fields.proofs.read_byte.Goals as goal

pub returns-in_err-at : goal.returns-in_err-at
returns-in_err-at c =
    let p = err_from_is_err_and c.from_residual.result c.from_residual.ensures.1 in
    rw (p.1, p.2) (number-stays 1 first _ _ _ _ c.in_err-at.was)

pub returns-in_default : goal.returns-in_default
returns-in_default c =
    let few = c.in_default.len_below in
    let left = ap length c.onward.ensures ∙ length-drop c.in_ok-at.at c.args.bytes.now in
    rw c.early.ensures (number-early 1 first _ _ _ _ c.in_ok-at.was (omega arith))

pub returns : goal.returns
returns c =
    let enough = c.in-len1-up.len_at_least in
    let left = ap length c.onward.ensures ∙ length-drop c.in_ok-at.at c.args.bytes.now in
    let stands = c.from.ensures ∙ ap first c.onward.ensures in
    number-judged 1 first (λ bs a. first (drop a bs)) byte-front _ _ _ _ c.in_ok-at.was _ stands (omega arith) c.in_range.ensures
