-- `securon::SecuronSet::with` meets its contract: one mark put on adds that one member. Assumes nothing.
use mathlib.Core.Path.{◌≡◌}
use native.Mathlib.Omega.{arith}
use borrow.Author.Rules.{rules}
use lib.ListN.{length}
use Rattle.securon.specs.Sets.{set_room}
use Rattle.securon.specs.Laws.{one-marked}
use Rattle.securon.proofs.SecuronSet.with.Goals as goal

pub returns : goal.returns
returns c =
    let a = c.args in
    let g : length c.args.self.has ≡ set_room = search rules in
    one-marked a.self.has a.s.0 (omega arith)
