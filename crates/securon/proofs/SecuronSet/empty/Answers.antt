-- `securon::SecuronSet::empty` meets its contract: every mark is off. Assumes nothing.
use Rattle.securon.specs.Sets.{set_room}
use Rattle.securon.specs.Laws.{none-marked}
use Rattle.securon.proofs.SecuronSet.empty.Goals as goal

pub returns : goal.returns
returns c = λ u. ((λ m. none-marked set_room u m), λ w. absurd w)
