-- The starred cases of 01, "Examples by hand", whole: one table, in the meanings themselves. Those on SET, T1, E, T2 and G come from `expression`; those
-- on Read and Write are here. Definitions only.
use Rattle.std.specs.Prelude.{Bool, true, false, List, [], ◌∷◌, ◌++◌, map, ℕ}
use Rattle.securon.specs.Sets.{empty}
use Rattle.expression.specs.Expression.{one, term, ◌AND◌}
use Rattle.expression.specs.Bytes.{bytes, SET}
use Rattle.expression.specs.Starred.{park, Case, Says, Means, cases}
use Rattle.policy.specs.State.{read, write}
use Rattle.rules.specs.Rules.{PassesRow, MediatesRow}

-- a Read or a Write, all but these parts empty: V+, E of the row asked for, M1, and E of the file's Read row; whether it is granted or gets 15
pub record AskCase : Type 0 where
  pub mode : ℕ
  pub v-plus : List ℕ
  pub row-e : List ℕ
  pub m1 : List ℕ
  pub read-e : List ℕ
  pub granted : Bool

-- the row is passed; and the mediating sets fit, or not, which is 15
pub record AskMeans (c : AskCase) : Type 0 where
  pub passes : PassesRow park (SET park c.v-plus) empty [] c.row-e [] []
  pub fits : Says c.granted (MediatesRow c.mode (SET park c.m1) empty (SET park c.read-e) empty)

pub data Starred : Type 0 where
  meaning : Case → Starred
  asked : AskCase → Starred

abbrev pub StarredMeans : Starred → Type 0
StarredMeans (meaning c) = Means c
StarredMeans (asked c) = AskMeans c

-- {1,3} and {1}
abbrev pub one_three : List ℕ
one_three = bytes (term (one 1) AND term (one 3))

abbrev pub one_alone : List ℕ
one_alone = bytes (term (one 1))

-- Read row E = {1,3}, V+ = {1,3}, M1 = {1}, the rest empty: 15. M1 = {1,3}: Write (empty row) passes when the Read row's E is {1,3}, and gets 15 when it is {1}
abbrev pub asks : List AskCase
asks =
    record { mode = read; v-plus = one_three; row-e = one_three; m1 = one_alone; read-e = one_three; granted = false }
    ∷ record { mode = write; v-plus = []; row-e = []; m1 = one_three; read-e = one_three; granted = true }
    ∷ record { mode = write; v-plus = []; row-e = []; m1 = one_three; read-e = one_alone; granted = false }
    ∷ []

-- the table: every starred case, in the paper's order
abbrev pub table : List Starred
table = map meaning cases ++ map asked asks

abbrev pub AllMean : List Starred → Type 0
AllMean [] = Unit {0}
AllMean (c ∷ cs) = StarredMeans c × AllMean cs
