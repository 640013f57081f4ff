-- `print` meets its contract: its parts, one after the other. Assumes nothing.
use mathlib.Core.Path.{ap}
use Prim.Native.Nat.{ℕ}
use lib.ListN.{take}
use Rattle.lines.proofs.Laws.{room-end, whole-line}
use Rattle.lines.proofs.print.Goals as goal

pub put-requires : goal.put-requires
put-requires c =
    let b = c.args.given.now in
    room-end c.args.a b _ c.args.n (ap (λ (z : ℕ). take z b) c.min.ensures) c.requires c.decimal-i.ensures c.put-j.ensures c.decimal-k.ensures
    c.hexes-l.ensures

pub returns : goal.returns
returns c =
    let b = c.args.given.now in
    whole-line c.args.a b _ c.args.n (ap (λ (z : ℕ). take z b) c.min.ensures) c.requires c.decimal-i.ensures c.put-j.ensures c.decimal-k.ensures
    c.hexes-l.ensures c.put.ensures
