-- `digits` meets its contract: after a 0, after a digit with none after it, and after two digits the number is whole. Assumes nothing.
use Rattle.text.proofs.Levels.{one-zero, one-digit-alone, two-digits}
use Rattle.text.proofs.reader.Reader.digits.Goals as goal

pub returns-then-first-eq0-clause-counts : goal.returns-then-first-eq0-clause-counts
returns-then-first-eq0-clause-counts c =
    let p = c.in_ok-first.ensures.passes in one-zero _ _ p.0 _ p.1 c.if-first-eq0.true

pub returns-in-Ok-clause-counts : goal.returns-in-Ok-clause-counts
returns-in-Ok-clause-counts c =
    let p = c.in_ok-first.ensures.passes in
    let q = c.in-Ok.ensures.passes in
    two-digits _ _ p.0 _ p.1 p.2 c.if-first-eq0.false _ q.0 _ q.1

pub returns-in-Err-clause-counts : goal.returns-in-Err-clause-counts
returns-in-Err-clause-counts c =
    let p = c.in_ok-first.ensures.passes in one-digit-alone _ _ p.0 _ p.1 _ _ c.in-Err.ensures.stops
