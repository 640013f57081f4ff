-- `State::grown` meets its contract: where the tree is fine and so are all other parts, the state is well formed, and only there. Assumes nothing.
use mathlib.Core.Path.{ap, ◌∙◌}
use Rattle.std.specs.Option.{is_some}
use Rattle.logic.specs.Iff.{yes_iff, no_iff, not-then-false}
use Rattle.policy.proofs.Test.{whole, all-parts}
use Rattle.policy.proofs.State.grown.Goals as goal

pub returns-then-parts_fine : goal.returns-then-parts_fine
returns-then-parts_fine c =
    let t = c.examine_tree.ensures in
    let is = t.is c.in_ok-grown.grown c.in_ok-grown.was in
    let parts = rw (c.size.ensures.n, c.size.ensures.depth) at (c.parts_fine.ensures.0 c.if-parts_fine.true) in
    record {
      says = yes_iff (whole c.args.self.now is (t.says.0 (ap is_some c.in_ok-grown.was)) parts);
      is = λ g e. t.is g (c.in_ok-grown.was ∙ e);
    }

pub returns : goal.returns
returns c =
    let t = c.examine_tree.ensures in
    let is = t.is c.in_ok-grown.grown c.in_ok-grown.was in
    let parts = rw (c.size.ensures.n, c.size.ensures.depth) at (not-then-false c.parts_fine.ensures c.if-parts_fine.false) in
    record { says = no_iff (λ w. parts (all-parts c.args.self.now is w)); is = λ g e. absurd cc }
