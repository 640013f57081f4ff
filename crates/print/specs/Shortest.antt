-- A print is the one shortest text that says its expression: any other is longer. Assumes nothing.
use Rattle.std.specs.Prelude.{◌≡◌, refl, Bool, true, false, ◌||◌, ◌&&◌, ◌⊎◌, ℕ, ◌+◌, ◌*◌, ◌/◌, ◌%◌, ◌<◌, ◌≤◌, leb, eqb, length, get_or}
use Rattle.std.proofs.Common.{sym, ap, ap₂, ◌∙◌, inl, inr, arith, lt-ltb, le-ltb, eqb-true, length-append}
use Rattle.std.proofs.Math.Path.{subst}
use mathlib.Core.List.{List, [], ◌∷◌, ◌++◌, append_assoc, append-nil}
use Rattle.expression.specs.Expression.{Expr, term, ◌AND◌, ◌OR◌}
use Rattle.text.specs.Classes.{pick, class_of, value, digit, amp, bar, lpar, rpar, lbra, rbra, dot}
use Rattle.text.specs.Text.{Number, one-digit, two_digits, Token, number, sign, dots, Written, as_number, as-sign, as-dots, Tokens, end, spaced, next}
use Rattle.text.specs.Text.{Level, item, ands, ors, Parses, single, between, bracket, an_item, and, an-and, or, Says}
use Rattle.text.specs.Numbers.{low, bounds}
use Rattle.print.specs.Print.{and_sign, or_sign, open_pair, close_pair, open_range, close_range, point}
use Rattle.print.specs.Print.{digit_sign, decimal, paired, is_and, is_or, range_text, printed}

-- s is w, or longer
abbrev OrLonger : List ℕ → List ℕ → Type 0
OrLonger w s = (length w < length s) ⊎ (s ≡ w)

less : {w s : List ℕ} → OrLonger w s → length w ≤ length s
less (inl h) = omega arith
less (inr e) = omega (arith, ap length e)

after : {v w s : List ℕ} → OrLonger v w → OrLonger w s → OrLonger v s
after (inl h) p = inl (omega (arith, less p))
after {s = s} (inr e) p = subst (λ (z : List ℕ). OrLonger z s) e p

joined : {v w s t : List ℕ} → OrLonger v s → OrLonger w t → OrLonger (v ++ w) (s ++ t)
joined {v} {w} {s} {t} (inl h) p = inl (omega (arith, less p, length-append v w, length-append s t))
joined {v} {w} {s} {t} (inr e) (inl h) = inl (omega (arith, ap length e, length-append v w, length-append s t))
joined {v} {w} {s} {t} (inr e) (inr f) = inr (ap₂ ◌++◌ e f)

-- ---- signs, by their class
-- which test of `class_of` is the first that says yes
abbrev tests : ℕ → List Bool
tests x =
    (leb 48 x && leb x 57) ∷ eqb x 32 ∷ eqb x and_sign ∷ eqb x or_sign ∷ eqb x open_pair ∷ eqb x close_pair ∷ eqb x open_range ∷ eqb x close_range ∷ eqb x point
    ∷ true ∷ []

first-yes : (a b c d e f g h i : Bool)
    → get_or (a ∷ b ∷ c ∷ d ∷ e ∷ f ∷ g ∷ h ∷ i ∷ true ∷ [])
    (pick a 0 (pick b 1 (pick c 2 (pick d 3 (pick e 4 (pick f 5 (pick g 6 (pick h 7 (pick i 8 9))))))))) false ≡ true
first-yes true b c d e f g h i = refl
first-yes false true c d e f g h i = refl
first-yes false false true d e f g h i = refl
first-yes false false false true e f g h i = refl
first-yes false false false false true f g h i = refl
first-yes false false false false false true g h i = refl
first-yes false false false false false false true h i = refl
first-yes false false false false false false false true i = refl
first-yes false false false false false false false false true = refl
first-yes false false false false false false false false false = refl

class-test : (x c : ℕ) → class_of x ≡ c → get_or (tests x) c false ≡ true
unfolding class_of
class-test x c e =
    subst (λ (k : ℕ). get_or (tests x) k false ≡ true) e
    (first-yes (leb 48 x && leb x 57) (eqb x 32) (eqb x and_sign) (eqb x or_sign) (eqb x open_pair) (eqb x close_pair) (eqb x open_range) (eqb x close_range)
    (eqb x point))

-- the sign k alone has the class c
abbrev Alone : ℕ → ℕ → Type 0
Alone c k = (x : ℕ) → class_of x ≡ c → x ≡ k

amp-alone : Alone amp and_sign
amp-alone x e = eqb-true x and_sign (class-test x amp e)

bar-alone : Alone bar or_sign
bar-alone x e = eqb-true x or_sign (class-test x bar e)

lpar-alone : Alone lpar open_pair
lpar-alone x e = eqb-true x open_pair (class-test x lpar e)

rpar-alone : Alone rpar close_pair
rpar-alone x e = eqb-true x close_pair (class-test x rpar e)

lbra-alone : Alone lbra open_range
lbra-alone x e = eqb-true x open_range (class-test x lbra e)

rbra-alone : Alone rbra close_range
rbra-alone x e = eqb-true x close_range (class-test x rbra e)

dot-alone : Alone dot point
dot-alone x e = eqb-true x point (class-test x dot e)

-- a number is written one way
digit-is : (x : ℕ) → class_of x ≡ digit → x ≡ digit_sign (value x)
unfolding value
digit-is x e = omega (arith, bounds x e)

pub number_is : {n : ℕ} {u : List ℕ} → Number n u → u ≡ decimal n
unfolding decimal
number_is (one-digit {x = x} h) = rw (lt-ltb (value x) 10 (low x h)) (ap (λ (k : ℕ). k ∷ []) (digit-is x h))
number_is (two_digits {x = x} {y = y} h k j) =
    let p = low x h in
    let q = low y j in
    let tens : (10 * value x + value y) / 10 ≡ value x = omega arith in
    let ones : (10 * value x + value y) % 10 ≡ value y = omega arith in
    rw (le-ltb (10 * value x + value y) 10 (omega arith), lt-ltb (10 * value x + value y) 100 (omega arith), tens, ones)
    (ap₂ (λ (a b : ℕ). a ∷ b ∷ []) (digit-is x h) (digit-is y j))

-- ---- tokens
-- every text of these tokens is w, or longer
abbrev Least : List Token → List ℕ → Type 0
Least ts w = (s : List ℕ) → Tokens ts s → OrLonger w s

abbrev LeastWord : Token → List ℕ → Type 0
LeastWord t w = (u : List ℕ) → Written t u → OrLonger w u

none-least : Least [] []
none-least s end = inr refl
none-least s (spaced h w) = inl (omega arith)

word_number : (n : ℕ) → LeastWord (number n) (decimal n)
word_number n u (as_number h) = inr (number_is h)

word-sign : (c k : ℕ) → Alone c k → LeastWord (sign c) (k ∷ [])
word-sign c k h u (as-sign {x = x} e) = inr (ap (λ (y : ℕ). y ∷ []) (h x e))

word-dots : LeastWord dots (point ∷ point ∷ [])
word-dots u (as-dots {x = x} {y = y} h k) = inr (ap₂ (λ (a b : ℕ). a ∷ b ∷ []) (dot-alone x h) (dot-alone y k))

first-least : {t : Token} {ts : List Token} {w v : List ℕ} → LeastWord t w → Least ts v → Least (t ∷ ts) (w ++ v)
first-least {w = w} {v = v} h k s (spaced {s = r} e x) = inl (omega (arith, less (first-least h k r x)))
first-least h k s (next {u = u} {s = r} e x) = joined (h u e) (k r x)

record Split (ts us : List Token) (s : List ℕ) : Type 0 where
  front : List ℕ
  back : List ℕ
  is : s ≡ front ++ back
  left : Tokens ts front
  right : Tokens us back

split : (ts us : List Token) {s : List ℕ} → Tokens (ts ++ us) s → Split ts us s
split [] us {s} w = record { front = []; back = s; is = refl; left = end; right = w }
split (t ∷ ts) us w = go (λ s v. split ts us {s = s} v) w
  where
    go : ((s : List ℕ) → Tokens (ts ++ us) s → Split ts us s) → {s : List ℕ} → Tokens (t ∷ (ts ++ us)) s → Split (t ∷ ts) us s
    go rec (spaced {x = x} h v) =
        let r = go rec v in
        record { front = x ∷ r.front; back = r.back; is = ap (λ (l : List ℕ). x ∷ l) r.is; left = spaced h r.left; right = r.right }
    go rec (next {u = u} {s = s} h v) =
        let r = rec s v in
        record {
          front = u ++ r.front;
          back = r.back;
          is = ap (λ (l : List ℕ). u ++ l) r.is ∙ sym (append_assoc u r.front r.back);
          left = next h r.left;
          right = r.right;
        }

then-least : (ts us : List Token) {w v : List ℕ} → Least ts w → Least us v → Least (ts ++ us) (w ++ v)
then-least ts us {w} {v} h k s x =
    let r = split ts us x in
    subst (OrLonger (w ++ v)) (sym r.is) (joined (h r.front r.left) (k r.back r.right))

-- ---- expressions
-- the print as it stands at a level: joined by | as it is, joined by & in a pair if it is OR, alone in a pair if it is an operator
abbrev at_level : Level → Expr → List ℕ
at_level ors e = printed e
at_level ands e = paired (is_or e) (printed e)
at_level item e = paired (is_or e || is_and e) (printed e)

pair-longer : (s : List ℕ) → OrLonger s (open_pair ∷ (s ++ (close_pair ∷ [])))
pair-longer s = inl (omega (arith, length-append s (close_pair ∷ [])))

or-level : (e : Expr) → OrLonger (at_level ors e) (at_level ands e)
or-level (term x) = inr refl
or-level (a AND b) = inr refl
or-level (a OR b) = pair-longer (printed (a OR b))

and-level : (e : Expr) → OrLonger (at_level ands e) (at_level item e)
and-level (term x) = inr refl
and-level (a AND b) = pair-longer (printed (a AND b))
and-level (a OR b) = inr refl

item-level : (e : Expr) → OrLonger (at_level item e) (open_pair ∷ (printed e ++ (close_pair ∷ [])))
item-level (term x) = pair-longer (printed (term x))
item-level (a AND b) = inr refl
item-level (a OR b) = inr refl

range-least : (s i j : ℕ) → Least (number s ∷ sign lbra ∷ number i ∷ dots ∷ number j ∷ sign rbra ∷ []) (range_text s i j)
range-least s i j =
    first-least (word_number s)
    (first-least (word-sign lbra open_range lbra-alone)
    (first-least (word_number i)
    (first-least word-dots
    (first-least (word_number j)
    (first-least (word-sign rbra close_range rbra-alone) none-least)))))

pair-least : (ts : List Token) (e : Expr) → Least ts (printed e) → Least (sign lpar ∷ (ts ++ (sign rpar ∷ []))) (open_pair ∷ (printed e ++ (close_pair ∷ [])))
pair-least ts e h =
    first-least (word-sign lpar open_pair lpar-alone)
    (then-least ts (sign rpar ∷ []) h (first-least (word-sign rpar close_pair rpar-alone) none-least))

and-least : (ts us : List Token) (a b : Expr) → Least ts (at_level ands a) → Least us (at_level item b) → Least (ts ++ (sign amp ∷ us)) (printed (a AND b))
unfolding printed
and-least ts us a b h k = then-least ts (sign amp ∷ us) h (first-least (word-sign amp and_sign amp-alone) k)

or-least : (ts us : List Token) (a b : Expr) → Least ts (at_level ors a) → Least us (at_level ands b) → Least (ts ++ (sign bar ∷ us)) (printed (a OR b))
unfolding printed
or-least ts us a b h k = then-least ts (sign bar ∷ us) h (first-least (word-sign bar or_sign bar-alone) k)

parse-least : {l : Level} {ts : List Token} {e : Expr} → Parses l ts e → Least ts (at_level l e)
parse-least (single {n = n}) s w =
    unfold printed in subst (λ (z : List ℕ). OrLonger z s) (append-nil (decimal n)) (first-least (word_number n) none-least s w)
parse-least (between {s = s} {i = i} {j = j}) t w = unfold printed in range-least s i j t w
parse-least (bracket {ts = ts} {e = e} r) s w = after (item-level e) (pair-least ts e (λ t v. parse-least r t v) s w)
parse-least (an_item {e = e} r) s w = after (and-level e) (parse-least r s w)
parse-least (an-and {e = e} r) s w = after (or-level e) (parse-least r s w)
parse-least (and {ts = ts} {us = us} {a = a} {b = b} r q) s w = and-least ts us a b (λ t v. parse-least r t v) (λ t v. parse-least q t v) s w
parse-least (or {ts = ts} {us = us} {a = a} {b = b} r q) s w = or-least ts us a b (λ t v. parse-least r t v) (λ t v. parse-least q t v) s w

-- whatever text says the expression: it is the print, or longer than it
pub print-shortest : (e : Expr) (s : List ℕ) → Says s e → (length (printed e) < length s) ⊎ (s ≡ printed e)
print-shortest e s (ts, w, r) = parse-least r s w
