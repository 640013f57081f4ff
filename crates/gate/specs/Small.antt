-- A request's number has at most two digits; its place has one, and three where it names an expression's. (Of change and bypass that stands in
-- proofs/Altering.) Assumes nothing.
use Rattle.std.specs.Prelude.{◌≡◌, refl, List, ◌++◌, ℕ, suc, ◌<◌}
use Rattle.std.proofs.Common.{arith}
use Rattle.answer.specs.declared.Answer.{Answer}
use Rattle.answer.specs.Answers.{Condition, DecidesAt}
use Rattle.answer.specs.Lists.{PlacesUnder, Under, answer-under}
use Rattle.expression.specs.declared.Kind.{Kind}
use Rattle.order.specs.Conditions.{second, expression_conditions}
use Rattle.order.specs.Laws.{added-place}
use Rattle.policy.specs.declared.State.{State}
use Rattle.gate.specs.Requests.{begin_conditions, end_conditions, ask_conditions, store_conditions}

-- a number of two digits, and a place below m
abbrev pub Small : ℕ → Answer → Type 0
Small m a = Under 100 m a

-- a place that is not named has one digit
pub unnamed : {m : ℕ} (k : ℕ) → k ≡ 0 → k < suc m
unnamed k e = omega arith

module _ (s : State) (slot file mode : ℕ) (kind : Kind) (x y : List ℕ) where
  pub store-places : (more : List Condition) → PlacesUnder 1000 more → PlacesUnder 1000 (store_conditions kind s slot file mode x y ++ more)
  store-places more p =
      let both : PlacesUnder 1000 (expression_conditions kind s.tree x y ++ more) =
      (added-place 0 (omega arith) kind s.tree x, (added-place second (omega arith) kind s.tree y, p)) in
      (unnamed, (unnamed, (unnamed, (unnamed, (unnamed, (unnamed, both))))))

module _ (s : State) (slot : ℕ) where
  pub begin-small : (role : ℕ) (a : Answer) → DecidesAt (begin_conditions s slot role) 0 a → Small 10 a
  begin-small role a = answer-under {a = a} 100 10 (begin_conditions s slot role) (omega arith) unnamed refl (unnamed, (unnamed, (unnamed, (unnamed, tt))))

  pub end-small : (a : Answer) → DecidesAt (end_conditions s slot) 0 a → Small 10 a
  end-small a = answer-under {a = a} 100 10 (end_conditions s slot) (omega arith) unnamed refl (unnamed, (unnamed, (unnamed, tt)))

  module _ (file mode : ℕ) where
    pub ask-small : (a : Answer) → DecidesAt (ask_conditions s slot file mode) 0 a → Small 10 a
    ask-small a =
        answer-under {a = a} 100 10 (ask_conditions s slot file mode) (omega arith) unnamed refl
        (unnamed, (unnamed, (unnamed, (unnamed, (unnamed, (unnamed, (unnamed, tt)))))))
