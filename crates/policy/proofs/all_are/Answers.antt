-- `policy::all_are` meets its contract: the flag says of every role or file passed that it is fine or zero. Assumes nothing.
use mathlib.Core.Path.{◌≡◌, sym, ◌∙◌}
use native.Mathlib.Omega.{arith}
use lib.ListN.{get_or}
use Rattle.std.proofs.lemmas.List.{get_or_default}
use Rattle.logic.specs.Every.{flag-and}
use Rattle.policy.proofs.all_are.Goals as goal

pub loop-i-preserved : goal.loop-i-preserved
loop-i-preserved g c =
    let rows = c.args.rows.now in
    let row = c.index-rows-i.result in
    let here : get_or rows c.loop-i.i g.R.Row.shelves.off ≡ row = get_or_default rows c.loop-i.i _ row (omega arith) ∙ sym c.index-rows-i.is in
    flag-and c.loop-i.invariant (rw here c.is_used_or_zero-ok.ensures)
