-- `securon::SecuronSet::part` meets its contract: the flag says of every number that who is marked here is marked there. Assumes nothing.
use Rattle.std.proofs.Common.{rules, ◌≡◌, refl, true, false, ◌↔◌, Bool, length}
use Rattle.std.specs.Prelude.{◌||◌, not}
use Rattle.std.proofs.lemmas.Bool.{false≢true}
use Rattle.std.proofs.lemmas.Iterator.{YieldsList-from_zip, YieldsList-from_slice}
use Rattle.securon.proofs.Pairs.{folded}
use Rattle.securon.proofs.SecuronSet.part.Goals as goal

covers : (x y : Bool) → ((not x || y) ≡ true) ↔ (x ≡ true → y ≡ true)
covers true y = ((λ e _. e), λ h. h refl)
covers false y = ((λ _ e. absurd (false≢true e)), λ _. refl)

pub returns : goal.returns
returns c =
    let a = c.args in
    let long : length a.self.has ≡ length a.whole.has = search rules in
    let here = YieldsList-from_slice a.self.has (search rules) in
    let there = YieldsList-from_slice a.whole.has (search rules) in
    let pairs = YieldsList-from_zip {s = c.zip-pairs.result} here there in
    folded _ _ covers (λ y e. absurd (false≢true e)) a.self.has a.whole.has long pairs c.fold.ensures.ran (λ ok x next f j. search rules)
