-- `digit` meets its contract: a digit's byte is one of 48 to 57. Assumes nothing.
use native.Mathlib.Omega.{arith}
use mathlib.Core.Path.{◌≡◌, ap, ◌∙◌}
use Prim.Native.Nat.{ℕ, ◌-◌}
use Rattle.text.specs.Classes.{value}
use Rattle.text.specs.Reader.{next_byte}
use Rattle.text.proofs.Laws.{the-digit}
use Rattle.text.proofs.reader.Reader.digit.Goals as goal

pub overflow_sub-result : goal.overflow_sub-result
overflow_sub-result c = let p = c.in_ok-b.ensures.passes in omega (arith, p.1, (the-digit _ _ p.0.stood).0)

pub returns-clause-passes : goal.returns-clause-passes
returns-clause-passes c =
    let p = c.in_ok-b.ensures.passes in
    let d = the-digit _ _ p.0.stood in
    let e : c.in_ok-b.b - 48 ≡ value (next_byte c.args.self.now) = ap (λ (z : ℕ). z - 48) p.1 ∙ d.1 in
    (p.0, e, omega (arith, d.2))
