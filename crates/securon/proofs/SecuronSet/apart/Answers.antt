-- `securon::SecuronSet::apart` meets its contract: the flag says of every number that it is not marked in both. Assumes nothing.
use Rattle.std.proofs.Common.{rules, ◌≡◌, refl, true, false, ◌↔◌, Bool, length}
use Rattle.std.specs.Prelude.{◌&&◌, not}
use Rattle.std.proofs.lemmas.Bool.{false≢true}
use Rattle.std.proofs.lemmas.Iterator.{YieldsList-from_zip, YieldsList-from_slice}
use Rattle.securon.proofs.Pairs.{folded}
use Rattle.securon.proofs.SecuronSet.apart.Goals as goal

separate : (x y : Bool) → (not (x && y) ≡ true) ↔ (x ≡ true → y ≡ true → ⊥)
separate true true = ((λ e _ _. false≢true e), λ h. absurd (h refl refl))
separate true false = ((λ _ _ f. false≢true f), λ _. refl)
separate false y = ((λ _ e _. false≢true e), λ _. refl)

pub returns : goal.returns
returns c =
    let a = c.args in
    let long : length a.self.has ≡ length a.other.has = search rules in
    let here = YieldsList-from_slice a.self.has (search rules) in
    let there = YieldsList-from_slice a.other.has (search rules) in
    let pairs = YieldsList-from_zip {s = c.zip-pairs.result} here there in
    folded _ _ separate (λ y e _. false≢true e) a.self.has a.other.has long pairs c.fold.ensures.ran (λ ok x next f j. search rules)
