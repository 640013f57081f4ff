-- `print_term` meets its contract: a term is told by its first byte. Assumes nothing.
use native.Mathlib.Omega.{arith}
use Rattle.print.specs.Print.{printed}
use Rattle.print.proofs.Fronts.{term-some, term-long, one-room, range-room, prints-one, prints-range}
use Rattle.print.proofs.print_term.Goals as goal

pub bounds-rest-1 : goal.bounds-rest-1
bounds-rest-1 c =
    term-some c.requires

pub bounds-rest-0 : goal.bounds-rest-0
bounds-rest-0 c =
    omega (arith, term-some c.requires)

pub decimal-requires : goal.decimal-requires
decimal-requires c =
    unfold printed in one-room c.requires c.if-rest-eq-ONE.true

pub returns-then-rest-eq-ONE : goal.returns-then-rest-eq-ONE
returns-then-rest-eq-ONE c =
    prints-one c.if-rest-eq-ONE.true (unfold printed in c.decimal.ensures)

pub bounds-rest-2 : goal.bounds-rest-2
bounds-rest-2 c =
    omega (arith, term-long c.requires c.if-rest-eq-ONE.false)

pub bounds-rest-3 : goal.bounds-rest-3
bounds-rest-3 c =
    term-long c.requires c.if-rest-eq-ONE.false

pub print_range-requires : goal.print_range-requires
print_range-requires c =
    unfold printed in range-room c.requires c.if-rest-eq-ONE.false

pub returns : goal.returns
returns c =
    prints-range c.if-rest-eq-ONE.false (unfold printed in c.print_range.ensures)
