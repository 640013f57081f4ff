-- How long a print can be: for 48 bytes never over 145, and 117 where all numbers are below 100. Assumes nothing.
use Rattle.std.specs.Prelude.{◌≡◌, refl, Bool, true, false, ◌||◌, List, [], ◌∷◌, ◌++◌, ◌⊎◌, ℕ, zero, suc, ◌+◌, ◌*◌, ◌/◌, ◌%◌, ◌<◌, ◌≤◌, ltb, length}
use Rattle.std.proofs.lemmas.Bool.{false≢true}
use Rattle.std.proofs.Common.{inl, inr, arith, lt-ltb, length-append}
use Rattle.std.proofs.Math.Decide.{dec_lt}
use Rattle.expression.specs.declared.Kind.TheVariants.{Protection}
use Rattle.expression.specs.Expression.{Expr, term, one, range, ◌AND◌, ◌OR◌}
use Rattle.expression.specs.Bytes.{bytes, longest, Fits}
use Rattle.text.specs.Classes.{pick}
use Rattle.print.specs.Print.{digit_sign, and_sign, or_sign, open_range, close_range, point, decimal, paired, is_and, is_or, range_text, printed}

-- every number of the expression has at most so many digits
abbrev pub Digits : ℕ → Expr → Type 0
Digits d (term (one s)) = length (decimal s) ≤ d
Digits d (term (range s i j)) = (length (decimal s) ≤ d) × (length (decimal i) ≤ d) × (length (decimal j) ≤ d)
Digits d (a AND b) = Digits d a × Digits d b
Digits d (a OR b) = Digits d a × Digits d b

-- how many single securons and how many ranges it has
abbrev singles : Expr → ℕ
singles (term (one s)) = 1
singles (term (range s i j)) = 0
singles (a AND b) = singles a + singles b
singles (a OR b) = singles a + singles b

abbrev ranges : Expr → ℕ
ranges (term (one s)) = 0
ranges (term (range s i j)) = 1
ranges (a AND b) = ranges a + ranges b
ranges (a OR b) = ranges a + ranges b

bytes_count : (e : Expr) → length (bytes e) + 1 ≡ 3 * singles e + 5 * ranges e
bytes_count (term (one s)) = refl
bytes_count (term (range s i j)) = refl
bytes_count (a AND b) = let p = bytes_count a in let q = bytes_count b in omega (arith, length-append (bytes a) (bytes b))
bytes_count (a OR b) = let p = bytes_count a in let q = bytes_count b in omega (arith, length-append (bytes a) (bytes b))

paired-most : (b : Bool) (s : List ℕ) → length (paired b s) ≤ 2 + length s
paired-most true s = omega (arith, length-append s (41 ∷ []))
paired-most false s = omega arith

range-most : (d s i j : ℕ) → Digits d (term (range s i j)) → length (range_text s i j) ≤ 3 * d + 4
range-most d s i j (p, q, r) =
    let k = decimal j ++ (close_range ∷ []) in
    let l = decimal i ++ (point ∷ point ∷ k) in
    omega (arith, length-append (decimal s) (open_range ∷ l), length-append (decimal i) (point ∷ point ∷ k), length-append (decimal j) (close_range ∷ []))

-- the most that a print can have, and three more: each operator but the outermost stands in a pair
abbrev most : ℕ → Expr → ℕ
most d (term (one s)) = 3 + d
most d (term (range s i j)) = 7 + 3 * d
most d (a AND b) = most d a + most d b
most d (a OR b) = most d a + most d b

-- in a pair, where it is an operator
abbrev paired_text : Expr → List ℕ
paired_text e = paired (is_or e || is_and e) (printed e)

bare-less : (b : Bool) (e : Expr) → (b ≡ true → (is_or e || is_and e) ≡ true) → length (paired b (printed e)) ≤ length (paired_text e)
bare-less false (term x) h = omega arith
bare-less false (a AND b) h = omega (arith, length-append (printed (a AND b)) (41 ∷ []))
bare-less false (a OR b) h = omega (arith, length-append (printed (a OR b)) (41 ∷ []))
bare-less true e h = rw (h refl) (omega arith)

or-joined : (e : Expr) → is_or e ≡ true → (is_or e || is_and e) ≡ true
or-joined e h = rw h refl

joined-most : (d : ℕ) (a b : Expr) → length (paired_text a) + 3 ≤ most d a → length (paired_text b) + 3 ≤ most d b
    → (length (printed (a AND b)) + 5 ≤ most d (a AND b)) × (length (printed (a OR b)) + 5 ≤ most d (a OR b))
unfolding printed
joined-most d a b p q = (
  omega (
    arith,
    length-append (paired (is_or a) (printed a)) (and_sign ∷ paired_text b),
    bare-less (is_or a) a (or-joined a),
  ),
  omega (
    arith,
    length-append (printed a) (or_sign ∷ paired (is_or b) (printed b)),
    bare-less false a (λ e. absurd (false≢true e)),
    bare-less (is_or b) b (or-joined b),
  ),
)

in_pair : (d : ℕ) (e : Expr) → Digits d e → length (paired_text e) + 3 ≤ most d e
in_pair d (term (one s)) h = unfold printed in omega (arith, h)
in_pair d (term (range s i j)) h = unfold printed in omega (arith, range-most d s i j h)
in_pair d (a AND b) h = omega (arith, (joined-most d a b (in_pair d a h.0) (in_pair d b h.1)).0, paired-most true (printed (a AND b)))
in_pair d (a OR b) h = omega (arith, (joined-most d a b (in_pair d a h.0) (in_pair d b h.1)).1, paired-most true (printed (a OR b)))

-- a term has 3 d + 4 at the most; an operator five less than `most`
print-most : (d : ℕ) (e : Expr) → Digits d e → 1 ≤ d → (length (printed e) ≤ 3 * d + 4) ⊎ (length (printed e) + 5 ≤ most d e)
print-most d (term (one s)) h k = inl (unfold printed in omega (arith, h))
print-most d (term (range s i j)) h k = inl (unfold printed in range-most d s i j h)
print-most d (a AND b) h k = inr (joined-most d a b (in_pair d a h.0) (in_pair d b h.1)).0
print-most d (a OR b) h k = inr (joined-most d a b (in_pair d a h.0) (in_pair d b h.1)).1

most-two : (e : Expr) → most 2 e ≡ 5 * singles e + 13 * ranges e
most-two (term (one s)) = refl
most-two (term (range s i j)) = refl
most-two (a AND b) = let p = most-two a in let q = most-two b in omega arith
most-two (a OR b) = let p = most-two a in let q = most-two b in omega arith

most-three : (e : Expr) → most 3 e ≡ 6 * singles e + 16 * ranges e
most-three (term (one s)) = refl
most-three (term (range s i j)) = refl
most-three (a AND b) = let p = most-three a in let q = most-three b in omega arith
most-three (a OR b) = let p = most-three a in let q = most-three b in omega arith

-- of 48 bytes: nine ranges and a single securon say the most
pub two-digits-most : (e : Expr) → Digits 2 e → length (bytes e) ≤ longest → length (printed e) ≤ 117
two-digits-most e h l = go (print-most 2 e h (omega arith)) (dec_lt (ranges e) 9)
  where
    go : (length (printed e) ≤ 3 * 2 + 4) ⊎ (length (printed e) + 5 ≤ most 2 e) → Dec (ranges e < 9) → length (printed e) ≤ 117
    go (inl p) k = omega (arith, p)
    go (inr p) (yes k) = omega (arith, p, most-two e, bytes_count e, l, k)
    go (inr p) (no k) =
        let few : ranges e ≤ 9 = omega (arith, bytes_count e, l) in
        let fewer : singles e ≤ 1 = omega (arith, bytes_count e, l) in
        omega (arith, p, most-two e)

decimal-three-most : (n : ℕ) → length (decimal n) ≤ 3
unfolding decimal
decimal-three-most n = go (ltb n 10) (ltb n 100)
  where
    go : (p q : Bool) → length (pick p (digit_sign n ∷ []) (pick q (digit_sign (n / 10) ∷ digit_sign (n % 10) ∷ [])
        (digit_sign (n / 100) ∷ digit_sign (n / 10 % 10) ∷ digit_sign (n % 10) ∷ []))) ≤ 3
    go true q = omega arith
    go false true = omega arith
    go false false = omega arith

three-digits : (e : Expr) → Digits 3 e
three-digits (term (one s)) = decimal-three-most s
three-digits (term (range s i j)) = (decimal-three-most s, decimal-three-most i, decimal-three-most j)
three-digits (a AND b) = (three-digits a, three-digits b)
three-digits (a OR b) = (three-digits a, three-digits b)

-- whatever its numbers are
pub print-fits : (e : Expr) → length (bytes e) ≤ longest → length (printed e) ≤ 145
print-fits e l = go (print-most 3 e (three-digits e) (omega arith)) (dec_lt (ranges e) 9)
  where
    go : (length (printed e) ≤ 3 * 3 + 4) ⊎ (length (printed e) + 5 ≤ most 3 e) → Dec (ranges e < 9) → length (printed e) ≤ 145
    go (inl p) k = omega (arith, p)
    go (inr p) (yes k) = omega (arith, p, most-three e, bytes_count e, l, k)
    go (inr p) (no k) =
        let few : ranges e ≤ 9 = omega (arith, bytes_count e, l) in
        let fewer : singles e ≤ 1 = omega (arith, bytes_count e, l) in
        omega (arith, p, most-three e)

-- a number below 100 has at most two digits
pub below-hundred : (n : ℕ) → n < 100 → length (decimal n) ≤ 2
unfolding decimal
below-hundred n h = rw (lt-ltb n 100 h) (go (ltb n 10))
  where
    go : (p : Bool) → length (pick p (digit_sign n ∷ []) (digit_sign (n / 10) ∷ digit_sign (n % 10) ∷ [])) ≤ 2
    go true = omega arith
    go false = omega arith

-- ---- and there is one that has so many
-- 63[10..63]&(63[10..63]&( .. &63)..): nine ranges
abbrev nested : ℕ → Expr
nested zero = term (one 63)
nested (suc k) = term (range 63 10 63) AND nested k

nested-fits : (k : ℕ) → Fits Protection 64 63 (nested k)
nested-fits zero = omega arith
nested-fits (suc k) = ((omega arith, omega arith, omega arith), nested-fits k)

pub longest_expr : Expr
longest_expr = nested 9

pub longest-print : (length (bytes longest_expr) ≡ 47) × (length (printed longest_expr) ≡ 117)
unfolding longest_expr printed decimal
longest-print = (refl, refl)

pub longest-fits : Fits Protection 64 63 longest_expr
unfolding longest_expr
longest-fits = nested-fits 9
