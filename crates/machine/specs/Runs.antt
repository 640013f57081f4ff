-- Requests one after another, over any state, any request and any step. Definitions only.
use Rattle.std.specs.Prelude.{◌≡◌, List, [], ◌∷◌}
use Rattle.answer.specs.declared.Answer.{Answer}
use Rattle.answer.specs.Answers.{Granted}

-- what requests of Q do to states of S: in s the request q gives the answer a and leaves t
abbrev pub Stepping : Type 0 → Type 0 → Type 1
Stepping S Q = S → Q → Answer → S → Type 0

-- a request that was made: the state that it met, what it was, and its answer
pub record Event (S Q : Type 0) : Type 0 where
  pub before : S
  pub request : Q
  pub answer : Answer

-- from s these requests, with these answers, lead to t: each meets the state that the one before it left
pub data Run {S Q : Type 0} (step : Stepping S Q) : S → List (Event S Q) → S → Type 0 where
  none : {s : S} → Run step s [] s
  next : {m t : S} {e : Event S Q} {es : List (Event S Q)} → step e.before e.request e.answer m → Run step m es t
      → Run step e.before (e ∷ es) t

-- e is the request q, granted
pub record Grants {S Q : Type 0} (e : Event S Q) (q : Q) : Type 0 where
  pub was : e.request ≡ q
  pub granted : Granted e.answer
