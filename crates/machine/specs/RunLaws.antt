-- A run can be cut at any of its requests, and runs can be joined. Assumes nothing.
use Rattle.std.specs.Prelude.{List, [], ◌∷◌, ◌++◌}
use Rattle.machine.specs.Runs.{Stepping, Event, Run, none, next}

-- what came before a request of a run, its step, and what comes after it
pub record CutAt {S Q : Type 0} (step : Stepping S Q) (s : S) (xs : List (Event S Q)) (e : Event S Q) (ys : List (Event S Q)) (t : S) : Type 0 where
  pub first : Run step s xs e.before
  pub after : S
  pub steps : step e.before e.request e.answer after
  pub onward : Run step after ys t

module _ {S Q : Type 0} {step : Stepping S Q} where
  pub cut_at : {s t : S} (xs : List (Event S Q)) (e : Event S Q) (ys : List (Event S Q)) → Run step s (xs ++ (e ∷ ys)) t → CutAt step s xs e ys t
  cut_at [] e ys (next {m = m} st r) = record { first = none; after = m; steps = st; onward = r }
  cut_at {t = t} (_ ∷ xs) e ys (next {m = m} st r) =
      let w = cut_at {s = m} xs e ys r in record { first = next st w.first; after = w.after; steps = w.steps; onward = w.onward }

  pub run-joined : {s m t : S} {xs ys : List (Event S Q)} → Run step s xs m → Run step m ys t → Run step s (xs ++ ys) t
  run-joined none r = r
  run-joined (next st q) r = next st (run-joined q r)
