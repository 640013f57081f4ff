-- `order::in_order` meets its contract: the check finds a fault exactly if the expression is not in order. Assumes nothing.
use Rattle.std.specs.Prelude.{◌≡◌, true, ◌↔◌, List, ℕ, Result, Ok, Err}
use Rattle.std.specs.Result.{is_ok}
use Rattle.logic.specs.Iff.{yes_iff, no_iff}
use Rattle.expression.specs.declared.Kind.{Kind}
use Rattle.expression.specs.Bytes.{InOrder}
use Rattle.expression.specs.One.{in-order-not-wrong}
use Rattle.order.specs.declared.Wrong.{Wrong}
use Rattle.order.specs.Order.{Checks}
use Rattle.order.proofs.in_order.Goals as goal

fine-says : (kind : Kind) (n d : ℕ) (bs : List ℕ) (r : Result (Unit {0}) Wrong) → Checks kind n d bs r → (is_ok r ≡ true) ↔ InOrder kind n d bs
fine-says kind n d bs (Ok u) p = yes_iff p
fine-says kind n d bs (Err w) p = no_iff (λ o. in-order-not-wrong kind n d bs w.0 o p)

pub returns : goal.returns
returns c = rw c.is_ok.ensures.value (fine-says _ _ _ _ _ c.check.ensures)
