-- `rules::mediates` meets its contract: the sets at hand have the members of those that are meant. Assumes nothing.
use Rattle.std.proofs.Common.{arith}
use Rattle.logic.specs.Iff.{iff-trans}
use Rattle.rules.proofs.Row.{odd_part, same-mediates}
use Rattle.rules.proofs.mediates.Goals as goal

pub set_at-e-requires : goal.set_at-e-requires
set_at-e-requires c =
    let at = c.file_place in
    record {
      place = omega (arith, at.ensures);
      in_order = odd_part c.requires.file at.result (omega (arith, at.ensures)) (omega (arith, at.ensures));
    }

pub set_at-g-requires : goal.set_at-g-requires
set_at-g-requires c =
    let at = c.file_place-2 in
    record {
      place = omega (arith, at.ensures);
      in_order = odd_part c.requires.file at.result (omega (arith, at.ensures)) (omega (arith, at.ensures));
    }

pub returns : goal.returns
returns c =
    let e = rw c.file_place.ensures at c.set_at-e.ensures in
    let g = rw c.file_place-2.ensures at c.set_at-g.ensures in
    iff-trans c.sets_fit.ensures (same-mediates c.set_at-m1.ensures c.set_at-m2.ensures e g)
