-- `expression::meets_t1` meets its contract: length 0 is judged first. Assumes nothing.
use mathlib.Core.Path.{◌≡◌, ap}
use mathlib.Core.Logic.{inr, ⊎_elim}
use borrow.Author.Rules.{rules}
use lib.ListN.{length}
use Rattle.logic.specs.Iff.{iff-trans}
use Rattle.expression.specs.declared.Kind.TheVariants.{Protection}
use Rattle.expression.proofs.Fronts.{right-front, tests-bytes}
use Rattle.expression.proofs.meets_t1.Goals as goal

pub meets_front-requires : goal.meets_front-requires
meets_front-requires c =
    let some : length c.args.b.now ≡ 0 → ⊥ = search rules in
    right-front Protection some c.requires

pub returns-else-is_empty : goal.returns-else-is_empty
returns-else-is_empty c =
    let some : length c.args.b.now ≡ 0 → ⊥ = search rules in
    iff-trans (tests-bytes Protection some c.requires _ _ _ _ c.meets_front.ensures) (inr, ⊎_elim (λ e. absurd (some (ap length e))) (λ w. w))
