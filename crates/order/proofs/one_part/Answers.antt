-- `order::one_part` meets its contract: the securon is not there, or not below n, or the term is whole. Assumes nothing.
use Rattle.std.proofs.Common.{rules, arith, ◌≡◌, Err}
use Rattle.order.proofs.Terms.{head-wrong, one-stuck, one-whole}
use Rattle.order.proofs.one_part.Goals as goal

pub returns-in_err-securon_at : goal.returns-in_err-securon_at
returns-in_err-securon_at c =
    let a = c.args in
    let p = c.requires in
    let w = c.in_err-securon_at.ensures in
    let e : c.from_residual.result ≡ Err c.in_err-securon_at.field-0.0 = search rules in
    λ kind. head-wrong kind a.size.n a.size.depth.0 e w.0 (one-stuck kind _ _ a.size.some _ p.0 p.1 w.1)

pub returns : goal.returns
returns c =
    let a = c.args in
    let s = c.in_ok-securon_at.ensures in
    λ kind. record {
      within = s.0;
      some = omega arith;
      full = one-whole kind a.size.n a.size.depth.0 a.rest.now s.0 c.requires.1 (omega (arith, s.1, s.2));
    }
