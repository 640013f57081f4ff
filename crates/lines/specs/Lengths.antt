-- How long a line is, by how many digits its number and its place have. Assumes nothing.
use Rattle.std.specs.Prelude.{◌≡◌, refl, List, [], ◌∷◌, ℕ, zero, suc, ◌+◌, ◌-◌, ◌/◌, ◌%◌, ◌^◌, ◌<◌, ◌≤◌, length}
use Rattle.std.proofs.Common.{ap, ◌∙◌, pow-suc, arith, lit<, length-append}
use Rattle.std.proofs.Math.Nat.{pow-le-pow_right}
use Rattle.std.proofs.Math.Decide.{dec_lt}
use Rattle.io.specs.Digits.{hex_digit_ascii, last_digits}
use Rattle.answer.specs.declared.Answer.{Answer}
use Rattle.lines.specs.Lines.{Decimal, Line}

digits-length : (k n : ℕ) → length (last_digits 10 k n) ≡ k
digits-length zero n = refl
digits-length (suc k) n = omega (arith, length-append (last_digits 10 k (n / 10)) (hex_digit_ascii (n % 10) ∷ []), digits-length k (n / 10))

-- what is below a power of ten has no more digits than the power says
decimal-length : {n : ℕ} {d : List ℕ} (m : ℕ) → n < 10 ^ suc m → Decimal n d → length d ≤ suc m
decimal-length {n} {d} m h (k, f, e) = go (dec_lt (suc m) k)
  where
    go : Dec (suc m < k) → length d ≤ suc m
    go (yes l) =
        let a : suc m ≤ k - 1 = omega arith in
        let p : 10 ^ suc m ≤ 10 ^ (k - 1) = pow-le-pow_right (lit< tt) a in
        let q : 10 ^ (k - 1) ≤ n = f.2 (omega arith) in
        absurd (omega arith)
    go (no l) = omega (arith, ap length e ∙ digits-length k n)

-- a number and a place, a space and a line end
pub line-length : {a : Answer} {l : List ℕ} (i j : ℕ) → a.number < 10 ^ suc i → a.place < 10 ^ suc j → Line a [] l → length l ≤ i + j + 4
line-length i j p q x =
    let n = decimal-length i p x.is_number in
    let k = decimal-length j q x.is-place in
    omega (arith, simp length-append at (ap length x.is))

-- a number n has at most n + 1 digits
pub under-power : (n : ℕ) → n < 10 ^ suc n
under-power zero = lit< tt
under-power (suc n) = omega (arith, under-power n, pow-suc 10 (suc n))
