-- An answer has one line, and a part of the input leaves one line behind. Assumes nothing.
use Rattle.std.specs.Prelude.{◌≡◌, refl, Option, Some, None, ℕ, ◌+◌, ◌-◌, ◌^◌, ◌<◌, ◌≤◌, min, length, take, drop}
use Rattle.std.proofs.Common.{sym, ap, ap₂, ◌∙◌, subst, arith, lit<, length-append, length-drop, take-append-drop, take_all, length-take-le}
use mathlib.Core.List.{List, [], ◌∷◌, ◌++◌, append_cancel_left, tail-eq_of_cons-eq}
use Rattle.std.proofs.Math.Nat.{pow-le-pow_right}
use Rattle.std.proofs.Math.Decide.{dec_lt}
use Rattle.std.proofs.Math.Seq.{take-append-add}
use Rattle.io.specs.Digits.{last_digits, IsDigitCount}
use Rattle.answer.specs.declared.Answer.{Answer}
use Rattle.lines.specs.declared.begun.Begun.{Begun}
use Rattle.lines.specs.Lines.{Decimal, hexes, Line, Fills, Held, Unended, Collected}

-- ---- what is printed
no-fewer : (n j k : ℕ) → IsDigitCount 10 1 n j → IsDigitCount 10 1 n k → j < k → ⊥
no-fewer n j k f g h =
    let i : j ≤ k - 1 = omega arith in
    let a : 10 ^ j ≤ 10 ^ (k - 1) = pow-le-pow_right (lit< tt) i in
    let b : 10 ^ (k - 1) ≤ n = g.2 (omega (arith, f.0)) in
    omega (arith, f.1)

one-decimal : {n : ℕ} {c d : List ℕ} → Decimal n c → Decimal n d → c ≡ d
one-decimal {n} (j, f, p) (k, g, q) = p ∙ ap (λ (z : ℕ). last_digits 10 z n) (go (dec_lt j k) (dec_lt k j)) ∙ sym q
  where
    go : Dec (j < k) → Dec (k < j) → j ≡ k
    go (yes h) b = absurd (no-fewer n j k f g h)
    go (no a) (yes h) = absurd (no-fewer n k j g f h)
    go (no a) (no b) = omega arith

-- an answer with its bytes has one line
pub one_line : {a : Answer} {bytes l m : List ℕ} → Line a bytes l → Line a bytes m → l ≡ m
one_line {bytes = bytes} x y =
    let n : x.number ≡ y.number = one-decimal x.is_number y.is_number in
    let p : x.place ≡ y.place = one-decimal x.is-place y.is-place in
    x.is ∙ ap₂ (λ (u v : List ℕ). u ++ (32 ∷ (v ++ (hexes bytes ++ (10 ∷ []))))) n p ∙ sym y.is

-- and fills an output in one way
pub one-filling : {a : Answer} {bytes before x y : List ℕ} {r s : ℕ} → Fills a bytes before x r → Fills a bytes before y s → (r ≡ s) × (x ≡ y)
one-filling {before = before} f g =
    let l : f.line ≡ g.line = one_line f.is-line g.is-line in
    let n = f.count ∙ ap length l ∙ sym g.count in
    (n, f.filled ∙ ap₂ (λ (u : List ℕ) (k : ℕ). u ++ drop k before) l n ∙ sym g.filled)

-- ---- what is collected
pub unended-append : (u v : List ℕ) → Unended u → Unended v → Unended (u ++ v)
unended-append [] v h k = k
unended-append (x ∷ u) v h k = (h.0, unended-append u v h.1 k)

pub has_end : (p u : List ℕ) → Unended (p ++ (10 ∷ u)) → ⊥
has_end [] u h = h.0 refl
has_end (x ∷ p) u h = has_end p u h.1

pub same-part : (p q u v : List ℕ) → Unended p → Unended q → p ++ (10 ∷ u) ≡ q ++ (10 ∷ v) → p ≡ q
same-part [] [] u v h k e = refl
same-part [] (y ∷ q) u v h k e = let z : y ≡ 10 = cc in absurd (k.0 z)
same-part (x ∷ p) [] u v h k e = let z : x ≡ 10 = cc in absurd (h.0 z)
same-part (x ∷ p) (y ∷ q) u v h k e =
    let a : x ≡ y = cc in
    let b : p ++ (10 ∷ u) ≡ q ++ (10 ∷ v) = cc in
    ap₂ (λ (z : ℕ) (t : List ℕ). z ∷ t) a (same-part p q u v h.1 k.1 b)

pub same_rest : (p q u v : List ℕ) → Unended p → Unended q → p ++ (10 ∷ u) ≡ q ++ (10 ∷ v) → u ≡ v
same_rest p q u v h k e =
    let s : p ++ (10 ∷ u) ≡ p ++ (10 ∷ v) = e ∙ ap (λ (z : List ℕ). z ++ (10 ∷ v)) (sym (same-part p q u v h k e)) in
    tail-eq_of_cons-eq (append_cancel_left p (10 ∷ u) (10 ∷ v) s)

-- what was collected is the front of the input
module _ {input : List ℕ} {before x : Begun} where
  pub ended-next : {p : ℕ} (c : Collected input before (Some p) x) → p ≡ length c.part + 1
  ended-next {p} c = omega (arith, ap length c.ends.1 ∙ length-append c.part (10 ∷ drop p input), length-drop p input, c.ends.0)

  pub ended-front : {p : ℕ} (c : Collected input before (Some p) x) → take p input ≡ c.part ++ (10 ∷ [])
  ended-front {p} c = ap₂ take (ended-next c) c.ends.1 ∙ take-append-add c.part (10 ∷ drop p input) 1

  pub unfinished-front : (c : Collected input before None x) → take (length input) input ≡ c.part
  unfinished-front c = take_all (length input) input (omega arith) ∙ c.ends

  -- some of it: a line that has ended has its line end
  pub collects-some : {p : ℕ} → Collected input before (Some p) x → 0 < p
  collects-some c = omega (arith, ended-next c)

-- no line: none of it is kept
pub none-held : (kept : List ℕ) → Held 0 kept []
none-held kept = record { count = refl; is = refl }

-- a line that is kept whole
pub whole-held : (n : ℕ) (kept : List ℕ) → n ≤ 513 → length kept ≡ 513 → Held n kept (take n kept)
whole-held n kept few long =
    let e = length-take-le n kept (omega arith) in
    record { count = omega arith; is = sym (take_all 513 (take n kept) (omega arith)) }

-- so no more is kept than may be
pub few-held : {n : ℕ} {kept w : List ℕ} → Held n kept w → n ≤ 513
few-held h = omega (arith, h.count)

module _ {input : List ℕ} {before x y : Begun} where
  -- the part and the place after its line end are those of the input
  one-part : {r s : Option ℕ} (c : Collected input before r x) (d : Collected input before s y) → (c.part ≡ d.part) × (r ≡ s)
  one-part {r = Some p} {s = Some q} c d =
      let e : c.part ≡ d.part = same-part c.part d.part (drop p input) (drop q input) c.unended d.unended (sym c.ends.1 ∙ d.ends.1) in
      (e, ap Some (ended-next c ∙ ap (λ (z : List ℕ). length z + 1) e ∙ sym (ended-next d)))
  one-part {r = Some p} {s = None} c d = absurd (has_end c.part (drop p input) (subst Unended (sym d.ends ∙ c.ends.1) d.unended))
  one-part {r = None} {s = Some q} c d = absurd (has_end d.part (drop q input) (subst Unended (sym c.ends ∙ d.ends.1) c.unended))
  one-part {r = None} {s = None} c d = (sym c.ends ∙ d.ends, refl)

-- so are the bytes that are kept
all_held : (input : List ℕ) (before : Begun) → length before.bytes ≡ 513 → {r : Option ℕ} {x : Begun} (c : Collected input before r x)
    → Held x.n x.bytes (take before.n before.bytes ++ c.part)
all_held input before long c = c.held (take before.n before.bytes) (whole-held before.n before.bytes before.within long)

pub one-collected : (input : List ℕ) (before : Begun) → length before.bytes ≡ 513 → {r s : Option ℕ} {x y : Begun}
    → Collected input before r x → Collected input before s y → (r ≡ s) × (x.n ≡ y.n) × (x.bytes ≡ y.bytes)
one-collected input before long {x = x} {y} c d =
    let w = one-part c d in
    let h = all_held input before long c in
    let g = all_held input before long d in
    let k : x.n ≡ y.n = h.count ∙ ap (λ (z : List ℕ). min 513 (length (take before.n before.bytes ++ z))) w.0 ∙ sym g.count in
    let m : take x.n x.bytes ≡ take y.n y.bytes = h.is ∙ ap (λ (z : List ℕ). take 513 (take before.n before.bytes ++ z)) w.0 ∙ sym g.is in (
      w.1,
      k,
      sym (take-append-drop x.n x.bytes) ∙ ap₂ ◌++◌ m (c.rest ∙ ap (λ (z : ℕ). drop z before.bytes) k ∙ sym d.rest) ∙ take-append-drop y.n y.bytes,
    )
