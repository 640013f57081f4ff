-- `image::read_part` meets its contract: an expression that is read is stored, and a refusal stores nothing. Assumes nothing.
use mathlib.Core.Path.{ap}
use native.Mathlib.Omega.{arith}
use lib.ListN.{length}
use Rattle.std.proofs.lemmas.Result.{err_from_is_err_and}
use Rattle.image.proofs.Shelf.{part-led, part-refused, part-found, part-stored}
use Rattle.image.proofs.read_part.Goals as goal

pub returns-in_err-lead : goal.returns-in_err-lead
returns-in_err-lead c =
    let p = err_from_is_err_and c.from_residual.result c.from_residual.ensures.1 in
    rw (p.1, p.2) (part-led _ _ _ _ c.in_err-lead.ensures c.args.k)

pub read_stated-requires : goal.read_stated-requires
read_stated-requires c = c.in_ok-lead.ensures.in_range.2

pub returns-in_err-end : goal.returns-in_err-end
returns-in_err-end c =
    let p = err_from_is_err_and c.from_residual-in_err-end.result c.from_residual-in_err-end.ensures.1 in
    rw (p.1, p.2) (part-refused _ _ _ _ c.in_ok-lead.ensures _ c.in_err-end.ensures c.args.k)

pub slice_bounds-put-count : goal.slice_bounds-put-count
slice_bounds-put-count c = let f = part-found _ _ _ _ c.in_ok-lead.ensures _ c.in_ok-end.ensures in f.start

pub slice_bounds-put-start : goal.slice_bounds-put-start
slice_bounds-put-start c = let f = part-found _ _ _ _ c.in_ok-lead.ensures _ c.in_ok-end.ensures in omega (arith, f.start, f.within)

pub slice_bounds-put-end : goal.slice_bounds-put-end
slice_bounds-put-end c = let f = part-found _ _ _ _ c.in_ok-lead.ensures _ c.in_ok-end.ensures in omega (arith, f.start, f.within)

pub put-requires : goal.put-requires
put-requires c =
    let f = part-found _ _ _ _ c.in_ok-lead.ensures _ c.in_ok-end.ensures in
    let h = c.requires in
    (h.0, omega (arith, ap length f.is, f.long, c.in_ok-lead.ensures.in_range.1), h.1)

pub returns : goal.returns
returns c = part-stored _ _ _ _ c.in_ok-lead.ensures _ _ c.in_ok-end.ensures c.put.ensures
