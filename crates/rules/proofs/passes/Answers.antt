-- `rules::passes` meets its contract: the sets at hand have the members of those that are meant, and the four tests are the four facts. Assumes nothing.
use Rattle.logic.specs.Iff.{iff-trans, not-then-false, no_iff}
use Rattle.securon.specs.Laws.{same-part, same-apart}
use Rattle.expression.specs.Laws.{same-t1, same-t2}
use Rattle.rules.proofs.passes.Goals as goal

pub returns-then-not-meets_t1 : goal.returns-then-not-meets_t1
returns-then-not-meets_t1 c =
    let plus = rw c.role_place.ensures at c.set_at-plus.ensures in
    let test = rw (c.stored-t1.ensures, c.file_place.ensures) at c.meets_t1.ensures in
    no_iff (λ w. not-then-false test c.if-not-meets_t1.true ((same-t1 _ _ _ plus _).1 w.meets-t1))

pub returns-then-not-part : goal.returns-then-not-part
returns-then-not-part c =
    let plus = rw c.role_place.ensures at c.set_at-plus.ensures in
    let e = rw c.file_place-2.ensures at c.set_at-e.ensures in
    no_iff (λ w. not-then-false c.part.ensures c.if-not-part.true ((same-part e plus).1 w.has-e))

pub returns-then-meets_t2 : goal.returns-then-meets_t2
returns-then-meets_t2 c =
    let minus = rw c.role_place-2.ensures at c.set_at-minus.ensures in
    let test = rw (c.stored-t2.ensures, c.file_place-3.ensures) at c.meets_t2.ensures in
    no_iff (λ w. w.not-t2 ((same-t2 _ _ _ minus _).0 (test.0 c.if-meets_t2.true)))

pub returns : goal.returns
returns c =
    let plus = rw c.role_place.ensures at c.set_at-plus.ensures in
    let t1 = rw (c.stored-t1.ensures, c.file_place.ensures) at c.meets_t1.ensures in
    let e = rw c.file_place-2.ensures at c.set_at-e.ensures in
    let minus = rw c.role_place-2.ensures at c.set_at-minus.ensures in
    let t2 = rw (c.stored-t2.ensures, c.file_place-3.ensures) at c.meets_t2.ensures in
    let g = rw c.file_place-4.ensures at c.set_at-g.ensures in
    let unmet = not-then-false t2 c.if-meets_t2.false in
    iff-trans c.apart.ensures (iff-trans (same-apart minus g) (
      (λ w. record {
        meets-t1 = (same-t1 _ _ _ plus _).0 (t1.0 c.if-not-meets_t1.false);
        has-e = (same-part e plus).0 (c.part.ensures.0 c.if-not-part.false);
        not-t2 = λ m. unmet ((same-t2 _ _ _ minus _).1 m);
        apart-g = w;
      }),
      λ w. w.apart-g,
    ))
