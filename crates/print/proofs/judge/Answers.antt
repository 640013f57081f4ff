-- `judge` meets its contract: where the check finds the expression wrong, that is the condition that fails. Assumes nothing.
use Rattle.std.specs.Prelude.{refl}
use Rattle.std.proofs.Common.{sym, inl, inr, arith}
use Rattle.expression.specs.declared.Kind.TheVariants.{Protection}
use Rattle.expression.specs.Judge.{WrongOver}
use Rattle.expression.specs.One.{in-order-not-wrong-over}
use Rattle.print.proofs.judge.Goals as goal

pub returns-in-Err : goal.returns-in-Err
returns-in-Err c = λ slot file s v.
    let x = c.args.x.now in
    let has = v.grown-is _ c.in-Some.is in
    let k = c.in-Err.field-0.0 in
    let wrong : WrongOver Protection s.tree x k = (_, has.1.depth, rw (c.size.ensures.n, c.size.ensures.depth, has.0) at c.in-Err.ensures) in
    inr (
      v.says.0 (rw c.in-Some.is refl),
      inl (
        (λ o. in-order-not-wrong-over Protection s.tree x k o wrong),
        sym c.at.ensures.number,
        (k, wrong, omega (arith, c.at.ensures.place, c.in-Err.k-is)),
      ),
    )
