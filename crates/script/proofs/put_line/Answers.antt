-- `script::put_line` meets its contract: the line is printed apart, and then written. Assumes nothing.
use native.Mathlib.Omega.{arith}
use Rattle.script.specs.FillLaws.{puts-line}
use Rattle.script.proofs.put_line.Goals as goal

pub returns : goal.returns
returns c =
    let print = c.print-long in
    puts-line _ _ _ _ _ _ _ _ print.ensures (omega (arith, print.auto)) c.put.ensures
