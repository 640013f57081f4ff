-- `rules::covers` meets its contract: the sets at hand have the members of those that are meant, and E and G are tested one after the other. Assumes nothing.
use Rattle.logic.specs.Iff.{iff-trans, not-then-false, no_iff}
use Rattle.rules.proofs.Row.{same-altered}
use Rattle.rules.proofs.covers.Goals as goal

pub returns-then-not-alters_within : goal.returns-then-not-alters_within
returns-then-not-alters_within c =
    let old = rw c.file_place.ensures at c.set_at-old_e.ensures in
    let test = iff-trans c.alters_within.ensures (same-altered old c.set_of-new_e.ensures c.set_at-b.ensures) in
    no_iff (λ w. not-then-false test c.if-not-alters_within.true w.of-e)

pub returns : goal.returns
returns c =
    let b = c.set_at-b.ensures in
    let old-e = rw c.file_place.ensures at c.set_at-old_e.ensures in
    let first = iff-trans c.alters_within.ensures (same-altered old-e c.set_of-new_e.ensures b) in
    let old-g = rw c.file_place-2.ensures at c.set_at-old_g.ensures in
    let second = iff-trans c.alters_within-2.ensures (same-altered old-g c.set_of-new_g.ensures b) in
    iff-trans second ((λ w. record { of-e = first.0 c.if-not-alters_within.false; of-g = w }), λ w. w.of-g)
