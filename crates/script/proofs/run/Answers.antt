-- `script::run` meets its contract: each way out prints its part of what the input prints. Assumes nothing.
use Rattle.script.specs.Inner.{RecordsAre}
use mathlib.Core.Path.{subst}
use Rattle.script.proofs.Whole.{only-cut, image-short, image-whole}
use Rattle.script.proofs.run.Goals as goal

pub returns-in_default : goal.returns-in_default
returns-in_default c = only-cut _ _ _ _ c.in_default.ensures c.put.ensures

pub returns-in-Some-records : goal.returns-in-Some-records
returns-in-Some-records c =
    let f = c.in-Some.ensures in
    let all = subst (RecordsAre c.args.input.now) c.in-Some-records.is f.3 in
    image-whole _ f.0 f.2 c.fresh.ensures c.load-loaded.ensures c.put_line.ensures all.0 all.1 c.play_all.ensures

pub returns-in_default-records : goal.returns-in_default-records
returns-in_default-records c =
    let f = c.in-Some.ensures in
    image-short _ f.0 f.2 c.fresh.ensures c.load-loaded.ensures c.put_line.ensures (subst (RecordsAre c.args.input.now) c.in_default-records.is f.3)
