-- The starred cases of 01, "Examples by hand", that speak of SET, T1, E, T2 and G: one table, in the meanings themselves. Definitions only.
use Rattle.std.specs.Prelude.{Bool, true, false, ◌||◌, List, [], ◌∷◌, ℕ, eqb}
use Rattle.securon.specs.Sets.{◌⊆◌, ◌≐◌, Apart, Marks, on}
use Rattle.tree.specs.declared.Tree.{Tree}
use Rattle.expression.specs.Expression.{one, range, Expr, term, ◌AND◌, ◌OR◌}
use Rattle.expression.specs.Bytes.{bytes, SET, MeetsT1, MeetsT2}

-- Tree: n = 8, parents of 1 to 7: 0 0 1 1 2 2 0
abbrev pub park : Tree
park = record { n = 8; parent = 0 ∷ 0 ∷ 0 ∷ 1 ∷ 1 ∷ 2 ∷ 2 ∷ 0 ∷ [] }

-- the set with these members
abbrev pub these : List ℕ → Marks
these [] u = false
these (x ∷ xs) u = eqb u x || these xs u

-- what a case says
pub data Case : Type 0 where
  -- SET of the expression is exactly these
  is_set : Expr → List ℕ → Case
  -- V+ meets the expression as T1, or not; nobody does
  t1 : List ℕ → Expr → Bool → Case
  t1-nobody : Expr → Case
  -- V+ has the expression as E, or not; everybody has
  e-has : List ℕ → Expr → Bool → Case
  e-everybody : Expr → Case
  -- the expression bars V- as T2, or not
  t2-bars : List ℕ → Expr → Bool → Case
  -- the expression bars V- as G, or not
  g-bars : List ℕ → Expr → Bool → Case

-- yes or no
abbrev pub Says : Bool → Type 0 → Type 0
Says true P = P
Says false P = P → ⊥

-- what that means
abbrev pub Means : Case → Type 0
Means (is_set e l) = SET park (bytes e) ≐ on (these l)
Means (t1 l e b) = Says b (MeetsT1 park (on (these l)) (bytes e))
Means (t1-nobody e) = (H : Marks) → MeetsT1 park (on H) (bytes e) → ⊥
Means (e-has l e b) = Says b (SET park (bytes e) ⊆ on (these l))
Means (e-everybody e) = (H : Marks) → SET park (bytes e) ⊆ on H
Means (t2-bars l e b) = Says b (MeetsT2 park (on (these l)) (bytes e))
Means (g-bars l e b) = Says b (Apart (on (these l)) (SET park (bytes e)) → ⊥)

-- the table, in the paper's order
abbrev pub cases : List Case
cases =
    is_set (term (range 1 1 2)) (1 ∷ 3 ∷ 4 ∷ [])
    ∷ is_set (term (range 3 0 2)) (0 ∷ 1 ∷ 3 ∷ [])
    ∷ is_set (term (range 7 2 2)) []
    ∷ t1-nobody (term (range 7 2 2))
    ∷ e-everybody (term (range 7 2 2))
    ∷ t1 (3 ∷ 5 ∷ []) (term (one 1) OR (term (one 3) AND term (one 5))) true
    ∷ t1 (3 ∷ []) (term (one 1) OR (term (one 3) AND term (one 5))) false
    ∷ t1 (1 ∷ []) (term (one 1) OR (term (one 3) AND term (one 5))) true
    ∷ t1 (4 ∷ []) (term (range 1 1 2)) true
    ∷ e-has (1 ∷ 3 ∷ 4 ∷ []) (term (range 1 1 2)) true
    ∷ e-has (3 ∷ 4 ∷ []) (term (range 1 1 2)) false
    ∷ e-has (1 ∷ 4 ∷ []) (term (range 1 1 2)) false
    ∷ e-has (1 ∷ 3 ∷ []) (term (range 1 1 2)) false
    ∷ t2-bars (5 ∷ []) (term (one 5) AND term (one 6)) false
    ∷ g-bars (5 ∷ []) (term (one 5) AND term (one 6)) true
    ∷ []

-- every case of a list means what it says
abbrev pub AllMean : List Case → Type 0
AllMean [] = Unit {0}
AllMean (c ∷ cs) = Means c × AllMean cs
