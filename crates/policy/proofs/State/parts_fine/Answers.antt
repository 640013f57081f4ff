-- `State::parts_fine` meets its contract: the tests of the counts, the roles, the files and the slots, together. Assumes nothing.
use Rattle.policy.proofs.Test.{tested}
use Rattle.policy.proofs.State.parts_fine.Goals as goal

pub returns : goal.returns
returns c = tested c.args.self.now _ _ c.all_are-roles.ensures c.all_are-files.ensures c.slots_are.ensures
