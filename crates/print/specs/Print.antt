-- An expression printed as our text, with parentheses only where the grouping needs them and no spaces (02, [1]). Definitions only.
use Rattle.std.specs.Prelude.{◌≡◌, Bool, true, false, ◌||◌, List, [], ◌∷◌, ◌++◌, ℕ, ◌+◌, ◌/◌, ◌%◌, ◌≤◌, ltb, length, drop}
use Rattle.answer.specs.Numbers.{ill_formed, buffer_short}
use Rattle.answer.specs.Answers.{Condition, must}
use Rattle.expression.specs.declared.Kind.TheVariants.{Protection}
use Rattle.expression.specs.Expression.{Expr, term, one, range, ◌AND◌, ◌OR◌}
use Rattle.expression.specs.Bytes.{bytes}
use Rattle.order.specs.Conditions.{in_order}
use Rattle.text.specs.Classes.{pick}
use Rattle.text.specs.Turn.{longest_text}
use Rattle.policy.specs.declared.State.{State}
use Rattle.policy.specs.WellFormed.{WellFormed}

-- the signs of our text: & | ( ) [ . ]
abbrev pub and_sign : ℕ
and_sign = 38

abbrev pub or_sign : ℕ
or_sign = 124

abbrev pub open_pair : ℕ
open_pair = 40

abbrev pub close_pair : ℕ
close_pair = 41

abbrev pub open_range : ℕ
open_range = 91

abbrev pub close_range : ℕ
close_range = 93

abbrev pub point : ℕ
point = 46

-- the sign of a digit
abbrev pub digit_sign : ℕ → ℕ
digit_sign d = 48 + d

-- a number below 1000 in decimal, with no leading zero
unfoldable pub decimal : ℕ → List ℕ
decimal n =
    pick (ltb n 10) (digit_sign n ∷ [])
    (pick (ltb n 100) (digit_sign (n / 10) ∷ digit_sign (n % 10) ∷ [])
    (digit_sign (n / 100) ∷ digit_sign (n / 10 % 10) ∷ digit_sign (n % 10) ∷ []))

-- parentheses round a text, where they are needed
abbrev pub paired : Bool → List ℕ → List ℕ
paired true s = open_pair ∷ (s ++ (close_pair ∷ []))
paired false s = s

abbrev pub is_and : Expr → Bool
is_and (term x) = false
is_and (a AND b) = true
is_and (a OR b) = false

abbrev pub is_or : Expr → Bool
is_or (term x) = false
is_or (a AND b) = false
is_or (a OR b) = true

-- a range: s[i..j]
abbrev pub range_text : ℕ → ℕ → ℕ → List ℕ
range_text s i j = decimal s ++ (open_range ∷ (decimal i ++ (point ∷ point ∷ (decimal j ++ (close_range ∷ [])))))

-- & binds tighter, and both group to the left: a pair stands where OR stands under AND, and where the right operand has the same operator
unfoldable pub printed : Expr → List ℕ
printed (term (one s)) = decimal s
printed (term (range s i j)) = range_text s i j
printed (a AND b) = paired (is_or a) (printed a) ++ (and_sign ∷ paired (is_or b || is_and b) (printed b))
printed (a OR b) = printed a ++ (or_sign ∷ paired (is_or b) (printed b))

-- the print of an expression's bytes; length 0 prints nothing
pub data PrintOf : List ℕ → List ℕ → Type 0 where
  of-nothing : PrintOf [] []
  of-expression : (e : Expr) → PrintOf (bytes e) (printed e)

-- print bytes x into an output of room bytes: 17, then 6 as in a request, judged as a protection, then 20 for a room under 512
abbrev pub print_conditions : State → List ℕ → ℕ → List Condition
print_conditions s x room = must (WellFormed s) ill_formed ∷ in_order Protection s.tree 0 x ∷ must (longest_text ≤ room) buffer_short ∷ []

-- 0: place is the printed length
abbrev pub print_grants : List ℕ → ℕ → Type 0
print_grants x k = (p : List ℕ) × PrintOf x p × (k ≡ length p)

-- a print fills the first bytes of the output; the rest keeps its content
abbrev pub print_makes : List ℕ → List ℕ → List ℕ → Type 0
print_makes x before after = (p : List ℕ) × PrintOf x p × (after ≡ p ++ drop (length p) before)
