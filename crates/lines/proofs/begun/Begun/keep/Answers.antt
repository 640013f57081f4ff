-- `keep` meets its contract: what there is room for of the part is copied behind what is kept. Assumes nothing.
use mathlib.Core.Path.{◌≡◌, refl}
use Prim.Native.Nat.{◌-◌}
use Rattle.std.specs.Prelude.{min}
use lib.ListN.{length}
use lib.Seq.{length-take-le}
use native.Mathlib.Omega.{arith}
use borrow.Author.Rules.{rules}
use Rattle.lines.proofs.Laws.{part-kept, part-written}
use Rattle.lines.proofs.begun.Begun.keep.Goals as goal

pub returns : goal.returns
returns c =
    let all : length c.args.self.now.bytes ≡ 513 = search rules in
    let k : c.min-more.result ≡ min (length c.args.part.now) (513 - c.args.self.now.n) = omega (arith, c.min-more.ensures) in
    part-kept _ _ c.args.part.now _ all k refl
    (rw c.copy_from_slice.ensures.after (part-written _ _ _ c.min-more.result _ (omega arith) (length-take-le _ _ (omega arith)) (omega arith)))
