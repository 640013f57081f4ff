-- `hexes` meets its contract: the bytes that were passed are written. Assumes nothing.
use native.Mathlib.Omega.{arith}
use Rattle.lines.proofs.Laws.{hexes-more, hexed-to}
use Rattle.lines.proofs.hexes.Goals as goal

pub hex-p-requires : goal.hex-p-requires
hex-p-requires c =
    let v = c.loop-x.invariant in
    omega (arith, hexed-to c.args.b.now c.loop-x.x-index (omega arith) v, v.long)

pub loop-x-preserved : goal.loop-x-preserved
loop-x-preserved c = hexes-more c.args.b.now c.loop-x.x-index (omega arith) c.loop-x.invariant c.hex-p.ensures
