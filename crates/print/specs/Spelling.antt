-- Reading a print gives the expression again. Assumes nothing.
use Rattle.std.specs.Prelude.{◌≡◌, refl, false, ◌||◌, List, [], ◌∷◌, ◌++◌, ℕ, ◌+◌, ◌*◌, ◌/◌, ◌%◌, ◌<◌}
use Rattle.std.proofs.Common.{sym, subst, append_assoc, append-nil, arith, lt-ltb, le-ltb, le-leb}
use Rattle.std.proofs.Math.Decide.{dec_lt}
use Rattle.expression.specs.Expression.{Expr, term, one, range, ◌AND◌, ◌OR◌}
use Rattle.text.specs.Classes.{class_of, value, digit, amp, bar, lpar, rpar, lbra, rbra}
use Rattle.text.specs.Text.{Number, one-digit, two_digits, Token, number, sign, dots, as_number, as-sign, as-dots, Tokens, end, spaced, next}
use Rattle.text.specs.Text.{Level, item, ands, ors, Parses, single, between, bracket, an_item, and, an-and, or, Says}
use Rattle.print.specs.Print.{and_sign, or_sign, open_pair, close_pair, open_range, close_range, point}
use Rattle.print.specs.Print.{digit_sign, decimal, paired, is_and, is_or, range_text, printed}

-- ---- numbers
is_digit : (d : ℕ) → d < 10 → class_of (digit_sign d) ≡ digit
unfolding class_of
is_digit d h = rw (le-leb 48 (digit_sign d) (omega arith), le-leb (digit_sign d) 57 (omega arith)) refl

counts : (d : ℕ) → value (digit_sign d) ≡ d
unfolding value
counts d = omega arith

decimal-number : (n : ℕ) → n < 100 → Number n (decimal n)
unfolding decimal
decimal-number n h = go (dec_lt n 10)
  where
    go : Dec (n < 10) → Number n (decimal n)
    go (yes a) = rw (lt-ltb n 10 a) (subst (λ (m : ℕ). Number m (digit_sign n ∷ [])) (counts n) (one-digit (is_digit n a)))
    go (no a) =
        let x = counts (n / 10) in
        let y = counts (n % 10) in
        let e : 10 * value (digit_sign (n / 10)) + value (digit_sign (n % 10)) ≡ n = omega arith in
        rw (le-ltb n 10 (omega arith), lt-ltb n 100 h)
        (subst (λ (m : ℕ). Number m (digit_sign (n / 10) ∷ digit_sign (n % 10) ∷ [])) e
        (two_digits (is_digit (n / 10) (omega arith)) (omega arith) (is_digit (n % 10) (omega arith))))

-- ---- tokens one after the other
tokens-then : {ts us : List Token} {s t : List ℕ} → Tokens ts s → Tokens us t → Tokens (ts ++ us) (s ++ t)
tokens-then end w = w
tokens-then (spaced h v) w = spaced h (tokens-then v w)
tokens-then {us = us} {t = t} (next {t = k} {u = u} {ts = ts} {s = s} h v) w =
    subst (Tokens (k ∷ (ts ++ us))) (sym (append_assoc u s t)) (next h (tokens-then v w))

number-first : (n : ℕ) → n < 100 → {ts : List Token} {s : List ℕ} → Tokens ts s → Tokens (number n ∷ ts) (decimal n ++ s)
number-first n h w = next (as_number (decimal-number n h)) w

sign-first : (x c : ℕ) {ts : List Token} {s : List ℕ} → class_of x ≡ c → Tokens ts s → Tokens (sign c ∷ ts) (x ∷ s)
sign-first x c h w = next (as-sign h) w

dots-first : {ts : List Token} {s : List ℕ} → Tokens ts s → Tokens (dots ∷ ts) (point ∷ point ∷ s)
dots-first w = next (as-dots {x = point} {y = point} (unfold class_of in refl) (unfold class_of in refl)) w

-- ---- a text that says e at a level
record Spelt (l : Level) (e : Expr) (s : List ℕ) : Type 0 where
  tokens : List Token
  laid : Tokens tokens s
  parsed : Parses l tokens e

to-ands : {e : Expr} {s : List ℕ} → Spelt item e s → Spelt ands e s
to-ands w = record { tokens = w.tokens; laid = w.laid; parsed = an_item w.parsed }

to-ors : {e : Expr} {s : List ℕ} → Spelt ands e s → Spelt ors e s
to-ors w = record { tokens = w.tokens; laid = w.laid; parsed = an-and w.parsed }

in_pair : {e : Expr} {s : List ℕ} → Spelt ors e s → Spelt item e (open_pair ∷ (s ++ (close_pair ∷ [])))
in_pair w = record {
  tokens = sign lpar ∷ (w.tokens ++ (sign rpar ∷ []));
  laid = sign-first open_pair lpar (unfold class_of in refl) (tokens-then w.laid (sign-first close_pair rpar (unfold class_of in refl) end));
  parsed = bracket w.parsed;
}

by_and : {a b : Expr} {s t : List ℕ} → Spelt ands a s → Spelt item b t → Spelt ands (a AND b) (s ++ (and_sign ∷ t))
by_and v w = record {
  tokens = v.tokens ++ (sign amp ∷ w.tokens);
  laid = tokens-then v.laid (sign-first and_sign amp (unfold class_of in refl) w.laid);
  parsed = and v.parsed w.parsed;
}

by-or : {a b : Expr} {s t : List ℕ} → Spelt ors a s → Spelt ands b t → Spelt ors (a OR b) (s ++ (or_sign ∷ t))
by-or v w = record {
  tokens = v.tokens ++ (sign bar ∷ w.tokens);
  laid = tokens-then v.laid (sign-first or_sign bar (unfold class_of in refl) w.laid);
  parsed = or v.parsed w.parsed;
}

-- every number of the expression can stand in a text
abbrev pub Writable : Expr → Type 0
Writable (term (one s)) = s < 100
Writable (term (range s i j)) = (s < 100) × (i < 100) × (j < 100)
Writable (a AND b) = Writable a × Writable b
Writable (a OR b) = Writable a × Writable b

-- what each level makes of a print
record AtEach (e : Expr) : Type 0 where
  as-ors : Spelt ors e (printed e)
  as-ands : Spelt ands e (paired (is_or e) (printed e))
  as-item : Spelt item e (paired (is_or e || is_and e) (printed e))

term-each : (e : Expr) → is_or e ≡ false → is_and e ≡ false → Spelt item e (printed e) → AtEach e
term-each e p q w = record { as-ors = to-ors (to-ands w); as-ands = rw p (to-ands w); as-item = rw (p, q) w }

and-each : {a b : Expr} → AtEach a → AtEach b → AtEach (a AND b)
unfolding printed
and-each v w =
    let x = by_and v.as-ands w.as-item in
    record { as-ors = to-ors x; as-ands = x; as-item = in_pair (to-ors x) }

or-each : {a b : Expr} → AtEach a → AtEach b → AtEach (a OR b)
unfolding printed
or-each v w =
    let x = by-or v.as-ors w.as-ands in
    record { as-ors = x; as-ands = to-ands (in_pair x); as-item = in_pair x }

one-spelt : (s : ℕ) → s < 100 → Spelt item (term (one s)) (decimal s)
one-spelt s h = record {
  tokens = number s ∷ [];
  laid = subst (Tokens (number s ∷ [])) (append-nil (decimal s)) (number-first s h end);
  parsed = single;
}

range-spelt : (s i j : ℕ) → (s < 100) × (i < 100) × (j < 100) → Spelt item (term (range s i j)) (range_text s i j)
range-spelt s i j (h, k, l) =
    let last = number-first j l (sign-first close_range rbra (unfold class_of in refl) end) in
    let middle = number-first i k (dots-first last) in
    record {
      tokens = number s ∷ sign lbra ∷ number i ∷ dots ∷ number j ∷ sign rbra ∷ [];
      laid = number-first s h (sign-first open_range lbra (unfold class_of in refl) middle);
      parsed = between;
    }

spelt : (e : Expr) → Writable e → AtEach e
spelt (term (one s)) h = term-each (term (one s)) refl refl (unfold printed in one-spelt s h)
spelt (term (range s i j)) h = term-each (term (range s i j)) refl refl (unfold printed in range-spelt s i j h)
spelt (a AND b) (h, k) = and-each (spelt a h) (spelt b k)
spelt (a OR b) (h, k) = or-each (spelt a h) (spelt b k)

-- the print of an expression says it
pub print-says : (e : Expr) → Writable e → Says (printed e) e
print-says e h = let w = (spelt e h).as-ors in (w.tokens, w.laid, w.parsed)
