-- `order::both_in_order` meets its contract: a refusal of the first stands, else the second decides. Assumes nothing.
use mathlib.Core.Path.{◌≡◌, refl}
use mathlib.Core.List.{[], ◌∷◌}
use Rattle.logic.specs.Iff.{not-then-false}
use Rattle.order.specs.Conditions.{second, in_order}
use Rattle.answer.specs.Lists.{granted-all, refused-first, then-second}
use Rattle.order.proofs.both_in_order.Goals as goal

pub returns-then-not-granted : goal.returns-then-not-granted
returns-then-not-granted c =
    let a = c.args in
    let f = c.first_fault-first in
    let first = in_order a.kind a.g.now.tree 0 a.x.now ∷ [] in
    let other = in_order a.kind a.g.now.tree second a.y.now ∷ [] in
    refused-first (λ k. k ≡ 0) f.result first other f.ensures (not-then-false c.granted.ensures c.if-not-granted.true)

pub returns : goal.returns
returns c =
    let a = c.args in
    let first = in_order a.kind a.g.now.tree 0 a.x.now ∷ [] in
    let other = in_order a.kind a.g.now.tree second a.y.now ∷ [] in
    let f = c.first_fault-first in
    let granted = c.granted.ensures.0 c.if-not-granted.false in
    let holds = granted-all (λ k. k ≡ 0) f.result first refl f.ensures granted in
    then-second (λ k. k ≡ 0) c.first_fault.result first other holds c.first_fault.ensures
