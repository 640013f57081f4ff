-- `print_front` meets its contract: a term is printed, and an operator stands between the prints of its operands. Assumes nothing.
use Prim.Native.Nat.{◌+◌}
use native.Mathlib.Omega.{arith}
use Rattle.expression.specs.Scan.{from-length}
use Rattle.print.proofs.Fronts.{some-ahead, term-ahead, prints-term, open-room, two_bytes, left-ahead, left-within, sign-room}
use Rattle.print.proofs.Fronts.{right-ahead, right-within, close-room, prints-operator}
use Rattle.print.proofs.+print_front.Goals as goal

pub bounds-rest-0 : goal.bounds-rest-0
bounds-rest-0 t c = some-ahead c.requires

pub print_term-requires : goal.print_term-requires
print_term-requires t c = term-ahead c.requires c.if-code-lt-AND.true

pub returns-then-code-lt-AND : goal.returns-then-code-lt-AND
returns-then-code-lt-AND t c = prints-term c.requires c.if-code-lt-AND.true c.print_term.ensures

pub bracket-from-requires : goal.bracket-from-requires
bracket-from-requires t c = open-room c.requires c.if-code-lt-AND.false

pub bounds-rest-1 : goal.bounds-rest-1
bounds-rest-1 t c = two_bytes c.requires c.if-code-lt-AND.false

pub slice_bounds-print_front-count : goal.slice_bounds-print_front-count
slice_bounds-print_front-count t c = omega (arith, two_bytes c.requires c.if-code-lt-AND.false)

pub slice_bounds-print_front-start : goal.slice_bounds-print_front-start
slice_bounds-print_front-start t c = omega (arith, two_bytes c.requires c.if-code-lt-AND.false)

pub print_front-left-requires : goal.print_front-left-requires
print_front-left-requires t c = (
  omega (arith, from-length c.args.rest.now 1, some-ahead c.requires),
  left-ahead c.requires c.if-code-lt-AND.false c.bracket-from.ensures c.needs_pair-left_pair.ensures,
)

pub overflow_add-mid : goal.overflow_add-mid
overflow_add-mid t c =
    omega (
      arith,
      left-within c.requires c.if-code-lt-AND.false c.bracket-from.ensures c.needs_pair-left_pair.ensures c.print_front-left.ensures,
    )

pub put-joined-requires : goal.put-joined-requires
put-joined-requires t c =
    sign-room c.requires c.if-code-lt-AND.false c.bracket-from.ensures c.needs_pair-left_pair.ensures c.print_front-left.ensures

pub bounds-rest-mid : goal.bounds-rest-mid
bounds-rest-mid t c =
    left-within c.requires c.if-code-lt-AND.false c.bracket-from.ensures c.needs_pair-left_pair.ensures c.print_front-left.ensures

pub slice_bounds-print_front-count-2 : goal.slice_bounds-print_front-count-2
slice_bounds-print_front-count-2 t c =
    omega (
      arith,
      left-within c.requires c.if-code-lt-AND.false c.bracket-from.ensures c.needs_pair-left_pair.ensures c.print_front-left.ensures,
    )

pub slice_bounds-print_front-start-2 : goal.slice_bounds-print_front-start-2
slice_bounds-print_front-start-2 t c =
    omega (
      arith,
      left-within c.requires c.if-code-lt-AND.false c.bracket-from.ensures c.needs_pair-left_pair.ensures c.print_front-left.ensures,
    )

pub print_front-right-requires : goal.print_front-right-requires
print_front-right-requires t c = (
  omega (arith, from-length c.args.rest.now (1 + c.print_front-left.result.used), some-ahead c.requires),
  right-ahead c.requires c.if-code-lt-AND.false c.bracket-from.ensures c.needs_pair-left_pair.ensures c.print_front-left.ensures
      c.put-joined.ensures c.needs_pair-right_pair.ensures,
)

pub bracket-to-requires : goal.bracket-to-requires
bracket-to-requires t c =
    close-room c.requires c.if-code-lt-AND.false c.bracket-from.ensures c.needs_pair-left_pair.ensures c.print_front-left.ensures
    c.put-joined.ensures c.needs_pair-right_pair.ensures c.print_front-right.ensures

pub overflow_add-result : goal.overflow_add-result
overflow_add-result t c =
    omega (
      arith,
      right-within c.requires c.if-code-lt-AND.false c.bracket-from.ensures c.needs_pair-left_pair.ensures c.print_front-left.ensures
          c.put-joined.ensures c.needs_pair-right_pair.ensures c.print_front-right.ensures,
    )

pub returns : goal.returns
returns t c =
    prints-operator c.requires c.if-code-lt-AND.false c.bracket-from.ensures c.needs_pair-left_pair.ensures c.print_front-left.ensures
    c.put-joined.ensures c.needs_pair-right_pair.ensures c.print_front-right.ensures c.sign.ensures c.bracket-to.ensures
