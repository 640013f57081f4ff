-- The starred table holds: the cases on meanings by the decision of `expression`, those on Read and Write by naming the securon that decides. Assumes nothing.
use Rattle.std.specs.Prelude.{refl, List, [], ◌∷◌, ◌++◌, map, ℕ}
use Rattle.std.proofs.Common.{sym, subst, inl, inr, arith}
use Rattle.securon.specs.Sets.{empty}
use Rattle.expression.specs.Expression.{one, Expr, term, ◌AND◌, privilege_set}
use Rattle.expression.specs.Bytes.{SET}
use Rattle.expression.specs.Scan.{bytes-some}
use Rattle.expression.specs.Unique.{one-expression}
use Rattle.expression.specs.Starred.{park, Case, cases}
use Rattle.expression.specs.Starred as expression-starred
use Rattle.expression.proofs.StarredLaws.{starred}
use Rattle.rules.specs.Rules.{PassesRow}
use Rattle.rules.specs.Laws.{write-fits}
use Rattle.claims.specs.Starred.{Starred, meaning, asked, asks, table, AllMean, one_three, one_alone}

join : (xs ys : List Starred) → AllMean xs → AllMean ys → AllMean (xs ++ ys)
join [] ys p q = q
join (x ∷ xs) ys p q = (p.0, join xs ys p.1 q)

meant : (cs : List Case) → expression-starred.AllMean cs → AllMean (map meaning cs)
meant [] p = tt
meant (c ∷ cs) p = (p.0, meant cs p.1)

-- the row of a Read whose E is what V+ holds, and the empty row
same_row : (x : List ℕ) → PassesRow park (SET park x) empty [] x [] []
same_row x = record { meets-t1 = inl refl; has-e = λ u m. m; not-t2 = λ (e, q, m). bytes-some e (sym q); apart-g = λ u v m. v }

-- 3 is in {1,3} and not in {1}
three-in : SET park one_three 3
three-in = (term (one 1) AND term (one 3), refl, inr refl)

three-not : SET park one_alone 3 → ⊥
three-not (e, q, m) = let x = subst (λ (f : Expr). privilege_set park f 3) (one-expression e (term (one 1)) (sym q)) m in omega arith

asks-mean : AllMean (map asked asks)
asks-mean = (
  record { passes = same_row one_three; fits = λ m. three-not (m.e-in-m1 (inl refl) 3 three-in) },
  (
    record { passes = same_row []; fits = (write-fits refl).0 ((λ u x. x), λ u x. x) },
    (record { passes = same_row []; fits = λ m. three-not (m.m1-in-e refl 3 three-in) }, tt),
  ),
)

-- the table holds
pub every-starred-case-holds : AllMean table
every-starred-case-holds = join (map meaning cases) (map asked asks) (meant cases starred) asks-mean
