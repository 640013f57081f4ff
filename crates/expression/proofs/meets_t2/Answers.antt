-- `expression::meets_t2` meets its contract: length 0 is judged first. Assumes nothing.
use mathlib.Core.Path.{◌≡◌, sym, ◌∙◌}
use borrow.Author.Rules.{rules}
use lib.ListN.{length}
use Rattle.logic.specs.Iff.{no_iff}
use Rattle.expression.specs.declared.Kind.TheVariants.{Protection}
use Rattle.expression.specs.Scan.{nil-of, bytes-some}
use Rattle.expression.proofs.Fronts.{right-front, tests-bytes}
use Rattle.expression.proofs.meets_t2.Goals as goal

pub meets_front-requires : goal.meets_front-requires
meets_front-requires c =
    let some : length c.args.b.now ≡ 0 → ⊥ = search rules in
    right-front Protection some c.requires

pub returns-then-not-is_empty : goal.returns-then-not-is_empty
returns-then-not-is_empty c =
    let some : length c.args.b.now ≡ 0 → ⊥ = search rules in
    tests-bytes Protection some c.requires _ _ _ _ c.meets_front.ensures

pub returns-else-not-is_empty : goal.returns-else-not-is_empty
returns-else-not-is_empty c =
    let none : length c.args.b.now ≡ 0 = search rules in
    rw c.if-not-is_empty.false (no_iff (λ w. bytes-some w.0 (sym w.1 ∙ nil-of _ none)))
