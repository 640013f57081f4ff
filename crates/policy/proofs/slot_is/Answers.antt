-- `policy::slot_is` meets its contract: the slot's number is compared with the count. Assumes nothing.
use Rattle.logic.specs.Iff.{iff-trans, most-iff}
use Rattle.policy.proofs.Slots.{slot-within}
use Rattle.policy.proofs.slot_is.Goals as goal

pub returns : goal.returns
returns c = rw c.from.ensures (iff-trans (most-iff c.args.slot c.args.count) (slot-within c.args.count c.args.slot))
