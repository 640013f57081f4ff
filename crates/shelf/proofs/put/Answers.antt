-- `shelf::put` meets its contract: the length is written, then the bytes, then zeros up to the next place. Assumes nothing.
use mathlib.Core.Path.{refl}
use native.Mathlib.Omega.{arith}
use borrow.Author.Rules.{rules}
use Rattle.shelf.proofs.Copies.{written}
use Rattle.shelf.proofs.put.Goals as goal

pub returns : goal.returns
returns c =
    let a = c.args in
    record { lengths = refl; stored = rw c.copy.ensures (written a.bytes.now a.k a.x.now (omega arith) (omega arith) (search rules)) }
