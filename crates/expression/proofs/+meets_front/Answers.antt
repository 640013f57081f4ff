-- `expression::meets_front` meets its contract: a term is tested, and an operator joins the answers on its operands.
-- The measure is the number of the remaining bytes. Assumes nothing.
use mathlib.Core.Path.{◌≡◌, sym, subst}
use mathlib.Core.List.{◌++◌}
use Prim.Native.Nat.{ℕ, ◌+◌}
use native.Mathlib.Omega.{arith}
use Rattle.expression.specs.Scan.{from, from-length}
use Rattle.expression.specs.Bytes.{bytes}
use Rattle.expression.specs.Fronts.{Front}
use Rattle.expression.proofs.Fronts.{front-some, front-term, front-operator, tests-term, tests-operator}
use Rattle.expression.proofs.+meets_front.Goals as goal

pub bounds-rest-0 : goal.bounds-rest-0
bounds-rest-0 t c = front-some c.requires

pub meets_term-requires : goal.meets_term-requires
meets_term-requires t c = front-term c.requires c.if-code-lt-AND.true

pub returns-then-code-lt-AND : goal.returns-then-code-lt-AND
returns-then-code-lt-AND t c = tests-term _ _ _ _ _ c.if-code-lt-AND.true c.meets_term.ensures c.width.ensures

pub slice_bounds-meets_front-count : goal.slice_bounds-meets_front-count
slice_bounds-meets_front-count t c = front-some c.requires

pub slice_bounds-meets_front-start : goal.slice_bounds-meets_front-start
slice_bounds-meets_front-start t c = front-some c.requires

pub meets_front-left-requires : goal.meets_front-left-requires
meets_front-left-requires t c =
    let o = front-operator c.requires (omega arith) in
    (omega (arith, from-length c.args.rest.now 1, front-some c.requires), o.left)

pub overflow_add-mid : goal.overflow_add-mid
overflow_add-mid t c =
    let o = front-operator c.requires (omega arith) in
    let q = (c.meets_front-left.ensures o.a _ o.left_is).0 in
    omega (arith, o.long, c.well_formed)

pub slice_bounds-meets_front-count-2 : goal.slice_bounds-meets_front-count-2
slice_bounds-meets_front-count-2 t c =
    let o = front-operator c.requires (omega arith) in
    let q = (c.meets_front-left.ensures o.a _ o.left_is).0 in
    omega (arith, o.long)

pub slice_bounds-meets_front-start-2 : goal.slice_bounds-meets_front-start-2
slice_bounds-meets_front-start-2 t c =
    let o = front-operator c.requires (omega arith) in
    let q = (c.meets_front-left.ensures o.a _ o.left_is).0 in
    omega (arith, o.long)

pub meets_front-right-requires : goal.meets_front-right-requires
meets_front-right-requires t c =
    let o = front-operator c.requires (omega arith) in
    let left = c.meets_front-left in
    let q = (left.ensures o.a _ o.left_is).0 in
    let right = subst (λ (k : ℕ). Front c.args.g.now.tree.n (from c.args.rest.now (1 + k))) (sym q) o.right in
    (omega (arith, from-length c.args.rest.now (1 + left.result.used), front-some c.requires), right)

pub overflow_add-result : goal.overflow_add-result
overflow_add-result t c =
    let o = front-operator c.requires (omega arith) in
    let q = (c.meets_front-left.ensures o.a _ o.left_is).0 in
    let at_right = subst (λ (k : ℕ). from c.args.rest.now (1 + k) ≡ bytes o.b ++ o.tail) (sym q) o.right_is in
    let r = (c.meets_front-right.ensures o.b _ at_right).0 in
    omega (arith, o.long, c.well_formed)

pub returns : goal.returns
returns t c = tests-operator _ _ _ _ _ _ _ c.meets_front-left.ensures c.meets_front-right.ensures _ (omega arith) c.joined.ensures
