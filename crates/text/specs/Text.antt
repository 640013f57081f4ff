-- Legal text and the bytes that it gives (01, "In text"). Definitions only.
use Rattle.std.specs.Prelude.{◌≡◌, List, [], ◌∷◌, ◌++◌, ℕ, ◌+◌, ◌*◌, ◌<◌}
use Rattle.expression.specs.Expression.{Expr, term, one, range, ◌AND◌, ◌OR◌}
use Rattle.expression.specs.Bytes.{bytes}
use Rattle.text.specs.Classes.{class_of, value, digit, space, amp, bar, lpar, rpar, lbra, rbra, dot}

-- numbers have one or two digits, with no leading zero but 0 itself: the number n is written u
pub data Number : ℕ → List ℕ → Type 0 where
  one-digit : {x : ℕ} → class_of x ≡ digit → Number (value x) (x ∷ [])
  two_digits : {x y : ℕ} → class_of x ≡ digit → 0 < value x → class_of y ≡ digit → Number (10 * value x + value y) (x ∷ y ∷ [])

-- a token: a number; a sign of one byte, by its class; or ..
pub data Token : Type 0 where
  number : ℕ → Token
  sign : ℕ → Token
  dots : Token

-- how a token is written
pub data Written : Token → List ℕ → Type 0 where
  as_number : {n : ℕ} {u : List ℕ} → Number n u → Written (number n) u
  as-sign : {x c : ℕ} → class_of x ≡ c → Written (sign c) (x ∷ [])
  as-dots : {x y : ℕ} → class_of x ≡ dot → class_of y ≡ dot → Written dots (x ∷ y ∷ [])

-- the tokens of a text, one after the other; spaces may stand between tokens
pub data Tokens : List Token → List ℕ → Type 0 where
  end : Tokens [] []
  spaced : {x : ℕ} {ts : List Token} {s : List ℕ} → class_of x ≡ space → Tokens ts s → Tokens ts (x ∷ s)
  next : {t : Token} {u : List ℕ} {ts : List Token} {s : List ℕ} → Written t u → Tokens ts s → Tokens (t ∷ ts) (u ++ s)

pub data Level : Type 0 where
  item ands ors : Level

-- items joined by &, those joined by |; & binds tighter; both group to the left.
-- An item is a number, number[number..number], or parentheses round a whole text again, which may not be blank there
pub data Parses : Level → List Token → Expr → Type 0 where
  single : {n : ℕ} → Parses item (number n ∷ []) (term (one n))
  between : {s i j : ℕ} → Parses item (number s ∷ sign lbra ∷ number i ∷ dots ∷ number j ∷ sign rbra ∷ []) (term (range s i j))
  bracket : {ts : List Token} {e : Expr} → Parses ors ts e → Parses item (sign lpar ∷ (ts ++ (sign rpar ∷ []))) e
  an_item : {ts : List Token} {e : Expr} → Parses item ts e → Parses ands ts e
  and : {ts us : List Token} {a b : Expr} → Parses ands ts a → Parses item us b → Parses ands (ts ++ (sign amp ∷ us)) (a AND b)
  an-and : {ts : List Token} {e : Expr} → Parses ands ts e → Parses ors ts e
  or : {ts us : List Token} {a b : Expr} → Parses ors ts a → Parses ands us b → Parses ors (ts ++ (sign bar ∷ us)) (a OR b)

-- the text s says the expression e
abbrev pub Says : List ℕ → Expr → Type 0
Says s e = (ts : List Token) × Tokens ts s × Parses ors ts e

-- s is a text of the bytes b; text of spaces only, or none, gives length 0
pub data TextOf : List ℕ → List ℕ → Type 0 where
  blank : {s : List ℕ} → Tokens [] s → TextOf s []
  whole : {s : List ℕ} {e : Expr} → Says s e → TextOf s (bytes e)

-- legal text, of any length and with any number of bytes
abbrev pub Legal : List ℕ → Type 0
Legal s = (b : List ℕ) × TextOf s b
