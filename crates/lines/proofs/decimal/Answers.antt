-- `decimal` meets its contract: the digits that were made are copied. Assumes nothing.
use mathlib.Core.Path.{sym}
use lib.ListN.{take}
use native.Mathlib.Omega.{arith}
use Rattle.lines.proofs.Laws.{few-digits, part-written}
use Rattle.lines.proofs.decimal.Goals as goal

pub returns : goal.returns
returns c =
    let k = c.decimal-k.ensures in
    let few = few-digits _ _ c.ranges.n.fits k.len in
    let d = take c.decimal-k.result c.decimal-k.new.out in
    record {
      d = d;
      decimal = (c.decimal-k.result, k.len, k.digits);
      short = omega (arith, k.in_bounds, few);
      written = rw c.copy_from_slice.ensures.after (part-written _ d _ _ _ (omega arith) (sym k.in_bounds.1) (omega (arith, few)));
    }
