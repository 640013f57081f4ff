-- A role is read: a shelf of zeros is read into. Assumes nothing.
use Rattle.std.proofs.Common.{rules}
use Rattle.policy.specs.State.{role_places}
use Rattle.image.proofs.Shelf.{stocked-none, role-read}
use Rattle.image.proofs.RoleRow.read.Goals as goal

pub read_shelf-requires : goal.read_shelf-requires
read_shelf-requires c = stocked-none role_places

pub returns-in_err-next : goal.returns-in_err-next
returns-in_err-next c =
    search (rules, c.in_err-next.ensures.0)

pub returns : goal.returns
returns c = role-read _ _ _ _ c.in_ok-next.ensures
