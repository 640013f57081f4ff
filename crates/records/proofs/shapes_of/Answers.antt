-- `records::shapes_of` meets its contract: each arm is a line of the table. Assumes nothing.
use native.Mathlib.Omega.{arith}
use Rattle.records.specs.Records.{code-01, code-02, code-03, code-04, code-05, code-06, code-10}
use Rattle.records.specs.Places.{unlisted}
use Rattle.records.proofs.shapes_of.Goals as goal

pub returns-in-1 : goal.returns-in-1
returns-in-1 c = rw c.in-1.is (code-01, omega arith)

pub returns-in-2 : goal.returns-in-2
returns-in-2 c = rw c.in-2.is (code-02, omega arith)

pub returns-in-3 : goal.returns-in-3
returns-in-3 c = rw c.in-3.is (code-03, omega arith)

pub returns-in-4 : goal.returns-in-4
returns-in-4 c = rw c.in-4.is (code-04, omega arith)

pub returns-in-5 : goal.returns-in-5
returns-in-5 c = rw c.in-5.is (code-05, omega arith)

pub returns-in-6 : goal.returns-in-6
returns-in-6 c = rw c.in-6.is (code-06, omega arith)

pub returns-in-16 : goal.returns-in-16
returns-in-16 c = rw c.in-16.is (code-10, omega arith)

pub returns-in_default : goal.returns-in_default
returns-in_default c =
    unlisted c.args.code (omega arith) (omega arith) (omega arith) (omega arith) (omega arith) (omega arith) (omega arith)
