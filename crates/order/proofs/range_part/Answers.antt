-- `order::range_part` meets its contract: each operand byte in turn is not there, or can't stand, or the term is whole. Assumes nothing.
use Rattle.std.proofs.Common.{rules, arith, ◌≡◌, Err}
use Rattle.order.proofs.Terms.{head-wrong, securon-stuck, from-stuck, to-stuck, range-whole}
use Rattle.order.proofs.range_part.Goals as goal

pub returns-in_err-securon_at : goal.returns-in_err-securon_at
returns-in_err-securon_at c =
    let a = c.args in
    let p = c.requires in
    let w = c.in_err-securon_at.ensures in
    let e : c.from_residual.result ≡ Err c.in_err-securon_at.field-0.0 = search rules in
    λ kind. head-wrong kind a.size.n a.size.depth.0 e w.0 (securon-stuck kind _ _ a.size.some _ p.0 p.1 w.1)

pub returns-in_err-i : goal.returns-in_err-i
returns-in_err-i c =
    let a = c.args in
    let p = c.requires in
    let s = c.in_ok-securon_at.ensures in
    let w = c.in_err-i.ensures in
    let e : c.from_residual-in_err-i.result ≡ Err c.in_err-i.field-0.0 = search rules in
    λ kind. head-wrong kind a.size.n a.size.depth.0 e w.0 (from-stuck kind _ _ a.size.some _ s.0 p.1 (omega (arith, s.1, s.2)) (λ h l. w.1 h (omega arith) l))

pub returns-in_err-level_at : goal.returns-in_err-level_at
returns-in_err-level_at c =
    let a = c.args in
    let p = c.requires in
    let s = c.in_ok-securon_at.ensures in
    let i = c.in_ok-i.ensures in
    let w = c.in_err-level_at.ensures in
    let e : c.from_residual-in_err-level_at.result ≡ Err c.in_err-level_at.field-0.0 = search rules in
    λ kind. head-wrong kind a.size.n a.size.depth.0 e w.0
    (to-stuck kind _ _ a.size.some _ i.0 p.1 (omega (arith, s.1, s.2)) (omega (arith, i.1, i.3)) (λ h l m. w.1 h (omega (arith, i.1, l)) m))

pub returns : goal.returns
returns c =
    let a = c.args in
    let s = c.in_ok-securon_at.ensures in
    let i = c.in_ok-i.ensures in
    let j = c.in_ok-level_at.ensures in
    λ kind. record {
      within = j.0;
      some = omega arith;
      full = range-whole kind a.size.n a.size.depth.0 a.rest.now j.0 c.requires.1
          (omega (arith, s.1, s.2)) (omega (arith, i.1, i.3)) (omega (arith, i.1, j.1, j.2))
          (omega (arith, j.1, j.3));
    }
