-- `print` meets its contract: the state is examined, and the rest is said of what was seen. Assumes nothing.
use Rattle.print.proofs.print.Goals as goal

pub print_seen-requires : goal.print_seen-requires
print_seen-requires c =
    (_, (_, (_, c.examine-seen.ensures)))

pub returns : goal.returns
returns c =
    record { decides = c.print_seen.ensures.of_each _ _ _ c.examine-seen.ensures; leaves = c.print_seen.ensures.leaves }
