-- The laws of a number: all that the other laws know of its rule. Assumes nothing.
use Rattle.std.specs.Prelude.{◌≡◌, refl, Bool, true, false, ◌&&◌, List, [], ◌∷◌, ◌++◌, ℕ, ◌+◌, ◌*◌, ◌<◌, ◌≤◌, leb, ltb, eqb}
use Rattle.std.proofs.lemmas.Bool.{false≢true}
use Rattle.std.proofs.Common.{arith, lit<, lt-ltb, leb-true, ltb-true, eqb-true}
use Rattle.text.specs.Classes.{class_of, value, pick, digit, space, amp, bar, lpar, rpar, lbra, rbra, dot, other}
use Rattle.text.specs.Text.{Number, one-digit, two_digits}
use Rattle.text.specs.Scan.{below, grows, Built, starts, more}

pub both : (a b : Bool) → (a && b) ≡ true → (a ≡ true) × (b ≡ true)
both true b e = (refl, e)
both false b e = absurd (false≢true e)

-- a digit is one of 48 to 57, so it counts 0 to 9
pub bounds : (x : ℕ) → class_of x ≡ digit → (48 ≤ x) × (x ≤ 57)
unfolding class_of
bounds x e =
    let w = both (leb 48 x) (leb x 57) (go (leb 48 x && leb x 57) _
    (pos (eqb x 32) space _ (lit< tt)
    (pos (eqb x 38) amp _ (lit< tt)
    (pos (eqb x 124) bar _ (lit< tt)
    (pos (eqb x 40) lpar _ (lit< tt)
    (pos (eqb x 41) rpar _ (lit< tt)
    (pos (eqb x 91) lbra _ (lit< tt)
    (pos (eqb x 93) rbra _ (lit< tt)
    (pos (eqb x 46) dot other (lit< tt) (lit< tt))))))))) e) in
    (leb-true _ _ w.0, leb-true _ _ w.1)
  where
    -- no other class is 0
    pos : (b : Bool) (m n : ℕ) → 0 < m → 0 < n → 0 < pick b m n
    pos true m n h k = h
    pos false m n h k = k

    go : (b : Bool) (n : ℕ) → 0 < n → pick b digit n ≡ digit → b ≡ true
    go true n h e = refl
    go false n h e = absurd (omega arith)

pub low : (x : ℕ) → class_of x ≡ digit → value x < 10
unfolding value
low x e = let b = bounds x e in omega arith

-- every number is built digit by digit
pub built : {n : ℕ} {u : List ℕ} → Number n u → Built n u
built (one-digit {x = x} h) = starts x h
built (two_digits {x = x} {y = y} h k j) =
    let p = low x h in
    let q = low y j in
    more (starts x h) y (rw (j, lt-ltb 0 (value x) k, lt-ltb (10 * value x + value y) below (omega arith)))

-- and a digit that may stand after a number makes a number with it
pub longer : {n : ℕ} {u : List ℕ} → Number n u → (x : ℕ) → grows n (class_of x) (value x) ≡ true → Number (10 * n + value x) (u ++ (x ∷ []))
longer {n = n} m x e =
    let w = both (eqb (class_of x) digit) (ltb 0 n && ltb (10 * n + value x) below) e in
    let v = both (ltb 0 n) (ltb (10 * n + value x) below) w.1 in
    go m (eqb-true _ _ w.0) (ltb-true _ _ v.0) (ltb-true _ _ v.1)
  where
    go : {n : ℕ} {u : List ℕ} → Number n u → class_of x ≡ digit → 0 < n → 10 * n + value x < below → Number (10 * n + value x) (u ++ (x ∷ []))
    go (one-digit h) d z k = two_digits h z d
    go (two_digits h p j) d z k = absurd (omega arith)
