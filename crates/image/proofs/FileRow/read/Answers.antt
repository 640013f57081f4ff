-- A file is read: a shelf of zeros is read into. Assumes nothing.
use Rattle.std.proofs.Common.{rules}
use Rattle.policy.specs.State.{file_places}
use Rattle.image.proofs.Shelf.{stocked-none, file-read}
use Rattle.image.proofs.FileRow.read.Goals as goal

pub read_shelf-requires : goal.read_shelf-requires
read_shelf-requires c = stocked-none file_places

pub returns-in_err-next : goal.returns-in_err-next
returns-in_err-next c =
    search (rules, c.in_err-next.ensures.0)

pub returns : goal.returns
returns c = file-read _ _ _ _ c.in_ok-next.ensures
