-- `print_record` meets its contract: nothing is altered, and a grant gives out what it names. Assumes nothing.
use Rattle.door.specs.Calls.{print-came}
use Rattle.door.proofs.print_record.Goals as goal

pub returns : goal.returns
returns c =
    let p = c.print_seen-answer.ensures in
    λ b slot file v. print-came b _ _ _ _ (p.of_each slot file b.state v) p.leaves _ (c.given.ensures.grant, c.given.ensures.refusal)
