-- `tree::Tree::levels` meets its contract: the levels of the securons passed stand in the array, and the largest is kept. Assumes nothing.
use mathlib.Core.Path.{◌≡◌}
use mathlib.Core.Logic.{◌⊎◌}
use Prim.Native.Nat.{◌≤◌}
use borrow.Author.Rules.{rules}
use native.Mathlib.Omega.{arith}
use Rattle.tree.proofs.Rising.{rising-root, rising-more, risen}
use Rattle.tree.proofs.Tree.levels.Goals as goal

pub loop-u-init : goal.loop-u-init
loop-u-init c = (omega arith, omega (arith, c.requires.count), rising-root _)

pub bounds-self-u : goal.bounds-self-u
bounds-self-u c = omega (arith, c.requires.count)

pub bounds-of-up : goal.bounds-of-up
bounds-of-up c =
    let p = c.requires in
    omega (arith, p.smaller _ c.loop-u.invariant.0 c.loop-u-test.true, p.count)

pub next-level-requires : goal.next-level-requires
next-level-requires c =
    let p = c.requires in
    let l = c.loop-u.invariant in
    let less = p.smaller _ l.0 c.loop-u-test.true in
    omega (arith, p.count, l.2.low _ less)

pub bounds-of-u : goal.bounds-of-u
bounds-of-u c = omega (arith, c.requires.count)

pub overflow_step-u : goal.overflow_step-u
overflow_step-u c = omega (arith, c.requires.count)

pub loop-u-preserved : goal.loop-u-preserved
loop-u-preserved c =
    let p = c.requires in
    let l = c.loop-u in
    let less = p.smaller _ l.invariant.0 c.loop-u-test.true in
    let next = c.next-level in
    let more = rising-more l.invariant.2 next.result c.max-depth.result.0 next.ensures l.invariant.0 (omega (arith, p.count)) less in
    let max = c.max-depth.result in
    let largest : (l.depth.0 ≤ max.0) × (next.result.0 ≤ max.0) × ((max.0 ≡ next.result.0) ⊎ (max.0 ≡ l.depth.0)) = search rules in
    (omega arith, omega arith, more largest.0 largest.1 largest.2)

pub returns : goal.returns
returns c =
    let e : c.loop-u.u ≡ c.args.self.n = omega arith in
    risen c.args.self _ (rw e at c.loop-u.invariant.2)
