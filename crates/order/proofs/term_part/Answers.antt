-- `order::term_part` meets its contract: 01 and 02 begin a term, and nothing else does. Assumes nothing.
use Rattle.std.proofs.Common.{arith, ◌≡◌, get_or}
use Rattle.expression.specs.Scan.{rest-other}
use Rattle.order.proofs.Terms.{code-stuck}
use Rattle.order.proofs.term_part.Goals as goal

pub returns-in-1 : goal.returns-in-1
returns-in-1 c = λ kind none. c.one_part.ensures kind

pub returns-in-2 : goal.returns-in-2
returns-in-2 c = λ kind none. c.range_part.ensures kind

pub returns-in_default : goal.returns-in_default
returns-in_default c =
    let a = c.args in
    let n = a.size.n in
    let d = a.size.depth.0 in
    let not-one : get_or a.rest.now 0 0 ≡ 1 → ⊥ = omega arith in
    let not-range : get_or a.rest.now 0 0 ≡ 2 → ⊥ = omega arith in
    λ kind none. code-stuck kind n d a.size.some a.rest.now c.requires (λ k r. rest-other kind n d k _ r not-one not-range none.0 none.1)
