-- `policy::rest_zero` meets its contract: the root's parent and those from n up are tested. Assumes nothing.
use mathlib.Core.Path.{◌≡◌}
use lib.ListN.{length}
use borrow.Author.Rules.{rules}
use Rattle.securon.specs.Sets.{set_room}
use Rattle.policy.proofs.Trees.{tree-rest}
use Rattle.policy.proofs.rest_zero.Goals as goal

pub returns : goal.returns
returns c =
    let t = c.args.tree.now in
    let long : length t.parent ≡ set_room = search rules in
    tree-rest t long c.requires _ c.all_zero.ensures
