-- `machine::effect_seen` meets its contract: the code says which request it is. Assumes nothing.
use native.Mathlib.Omega.{arith}
use borrow.Author.Tests.{ne_eqb}
use Rattle.machine.proofs.effect_seen.Goals as goal

pub returns-in-1 : goal.returns-in-1
returns-in-1 c = λ s x. rw c.in-1.is (c.begin_seen.ensures _ s x)

pub returns-in-2 : goal.returns-in-2
returns-in-2 c = λ s x. rw c.in-2.is (c.end_seen.ensures _ s x)

pub returns-in-4 : goal.returns-in-4
returns-in-4 c = λ s x. rw c.in-4.is (c.change_seen.ensures s x)

pub returns-in_default : goal.returns-in_default
returns-in_default c = λ s x.
    let code = c.args.code in
    let not-load = ne_eqb code 0 (λ e. omega arith) in
    let not-begin = ne_eqb code 1 (λ e. omega arith) in
    let not_end = ne_eqb code 2 (λ e. omega arith) in
    let not-ask = ne_eqb code 3 (λ e. omega arith) in
    let not-change = ne_eqb code 4 (λ e. omega arith) in
    rw (not-load, not-begin, not_end, not-ask, not-change) (c.bypass_seen.ensures s x)
