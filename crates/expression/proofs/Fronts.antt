-- What stands at the front of some bytes, by its first byte. Assumes nothing.
use mathlib.Core.Path.{◌≡◌, sym, ap, ◌∙◌, subst}
use mathlib.Core.Bool.{Bool, true, ◌&&◌, ◌||◌}
use mathlib.Core.List.{List, [], ◌∷◌, ◌++◌, append_assoc, append-nil}
use mathlib.Core.Logic.{⊎_elim, ◌↔◌}
use Prim.Native.Nat.{ℕ, suc, ◌+◌, ◌<◌, ◌≤◌}
use native.Mathlib.Omega.{arith}
use lib.ListN.{length, get_or, drop, length-append}
use lib.Seq.{drop-append_seam, drop-drop}
use Rattle.securon.specs.Sets.{Set}
use Rattle.logic.specs.Iff.{and-iff, or-iff, iff-trans, iff-sym}
use Rattle.tree.specs.declared.Tree.{Tree}
use Rattle.expression.specs.Expression.{Term, one, range, Expr, term, ◌AND◌, ◌OR◌, Meets}
use Rattle.expression.specs.declared.Kind.{Kind}
use Rattle.expression.specs.Bytes.{bytes, Fits, Right, MeetsBytes}
use Rattle.expression.specs.Laws.{meets-term, meets-AND, meets-OR}
use Rattle.expression.specs.Fronts.{Front, TermFront, Tests, TestsTerm}
use Rattle.expression.specs.Scan.{from, from-drop}

-- the byte at k of a list that is known
byte : {bs l : List ℕ} (k : ℕ) → bs ≡ l → get_or bs k 0 ≡ get_or l k 0
byte k e = ap (λ (x : List ℕ). get_or x k 0) e

-- a term that is told by its first byte
pub is_one : {bs : List ℕ} (x : Term) (tail : List ℕ) → bs ≡ bytes (term x) ++ tail → get_or bs 0 0 ≡ 1 → x ≡ one (get_or bs 1 0)
is_one (one s) tail e c = ap one (sym (byte 1 e))
is_one (range s i j) tail e c = absurd (omega (arith, byte 0 e))

pub is-range : {bs : List ℕ} (x : Term) (tail : List ℕ) → bs ≡ bytes (term x) ++ tail → (get_or bs 0 0 ≡ 1 → ⊥)
    → x ≡ range (get_or bs 1 0) (get_or bs 2 0) (get_or bs 3 0)
is-range (one s) tail e c = absurd (c (byte 0 e))
is-range (range s i j) tail e c = let p = byte 1 e in let q = byte 2 e in let r = byte 3 e in cc

module _ {n : ℕ} {bs : List ℕ} (f : TermFront n bs) where
  pub term-named : (1 < length bs) × (get_or bs 1 0 < n)
  term-named = go f.term_is f.fits f.is
    where
      go : (x : Term) → Fits f.kind n f.depth (term x) → bs ≡ bytes (term x) ++ f.tail → (1 < length bs) × (get_or bs 1 0 < n)
      go (one s) h e = (omega (arith, ap length e), omega (arith, byte 1 e))
      go (range s i j) h e = (omega (arith, ap length e), omega (arith, byte 1 e, h.0))

  pub term-long : (get_or bs 0 0 ≡ 1 → ⊥) → 3 < length bs
  term-long c = go f.term_is f.is
    where
      go : (x : Term) → bs ≡ bytes (term x) ++ f.tail → 3 < length bs
      go (one s) e = absurd (c (byte 0 e))
      go (range s i j) e = omega (arith, ap length e)

pub front-some : {n : ℕ} {bs : List ℕ} → Front n bs → 0 < length bs
front-some {n} {bs} f = go f.expr f.is
  where
    go : (e : Expr) → bs ≡ bytes e ++ f.tail → 0 < length bs
    go (term (one s)) q = omega (arith, ap length q)
    go (term (range s i j)) q = omega (arith, ap length q)
    go (a AND b) q = omega (arith, ap length q)
    go (a OR b) q = omega (arith, ap length q)

-- a first byte below 3 begins a term
pub front-term : {n : ℕ} {bs : List ℕ} → Front n bs → get_or bs 0 0 < 3 → TermFront n bs
front-term {n} {bs} f c = go f.expr f.fits f.is
  where
    go : (e : Expr) → Fits f.kind n f.depth e → bs ≡ bytes e ++ f.tail → TermFront n bs
    go (term x) h q = record { kind = f.kind; depth = f.depth; term_is = x; tail = f.tail; fits = h; is = q }
    go (a AND b) h q = absurd (omega (arith, byte 0 q))
    go (a OR b) h q = absurd (omega (arith, byte 0 q))

-- any other is an operator, followed by its two operands, whole
pub record Operator (n : ℕ) (bs : List ℕ) : Type 0 where
  pub a : Expr
  pub b : Expr
  pub tail : List ℕ
  pub left : Front n (from bs 1)
  pub right : Front n (from bs (1 + length (bytes a)))
  pub left_is : from bs 1 ≡ bytes a ++ (bytes b ++ tail)
  pub right_is : from bs (1 + length (bytes a)) ≡ bytes b ++ tail
  pub long : 1 + length (bytes a) + length (bytes b) ≤ length bs

operands : {bs : List ℕ} (x : ℕ) (p q tail : List ℕ) → bs ≡ (x ∷ (p ++ q)) ++ tail → (from bs 1 ≡ p ++ (q ++ tail)) × (from bs (1 + length p) ≡ q ++ tail)
operands {bs} x p q tail e =
    let one_on : drop 1 bs ≡ p ++ (q ++ tail) = ap (λ (l : List ℕ). drop 1 l) e ∙ append_assoc p q tail in
    let more-on = sym (drop-drop (length p) 1 bs) ∙ ap (λ (l : List ℕ). drop (length p) l) one_on ∙ drop-append_seam p (q ++ tail) in
    (from-drop bs 1 ∙ one_on, from-drop bs (1 + length p) ∙ more-on)

pub front-operator : {n : ℕ} {bs : List ℕ} → Front n bs → 3 ≤ get_or bs 0 0 → Operator n bs
front-operator {n} {bs} f c = go f.expr f.fits f.is
  where
    made : (x : ℕ) (a b : Expr) → Fits f.kind n f.depth a → Fits f.kind n f.depth b → bs ≡ (x ∷ (bytes a ++ bytes b)) ++ f.tail → Operator n bs
    made x a b g h q =
        let o = operands x (bytes a) (bytes b) f.tail q in
        record {
          a = a;
          b = b;
          tail = f.tail;
          left = record { kind = f.kind; depth = f.depth; expr = a; tail = bytes b ++ f.tail; fits = g; is = o.0 };
          right = record { kind = f.kind; depth = f.depth; expr = b; tail = f.tail; fits = h; is = o.1 };
          left_is = o.0;
          right_is = o.1;
          long = omega (arith, ap length q, length-append (bytes a ++ bytes b) f.tail, length-append (bytes a) (bytes b));
        }

    go : (e : Expr) → Fits f.kind n f.depth e → bs ≡ bytes e ++ f.tail → Operator n bs
    go (term (one s)) h q = absurd (omega (arith, byte 0 q))
    go (term (range s i j)) h q = absurd (omega (arith, byte 0 q))
    go (a AND b) h q = made 3 a b h.0 h.1 q
    go (a OR b) h q = made 4 a b h.1 h.2 q

-- a test, by what stands at the front
module _ (t : Tree) (H : Set) (bs : List ℕ) where
  pub tests-term : (met : Bool) (used : ℕ) → get_or bs 0 0 < 3 → TestsTerm t H bs met
      → (get_or bs 0 0 ≡ 1 → used ≡ 2) × ((get_or bs 0 0 ≡ 1 → ⊥) → used ≡ 4) → Tests t H bs met used
  tests-term met used c h w (term (one s)) tail q = (w.0 (byte 0 q), iff-trans (h (one s) tail q) (iff-sym (meets-term t H (one s))))
  tests-term met used c h w (term (range s i j)) tail q =
      (w.1 (λ e. omega (arith, byte 0 q)), iff-trans (h (range s i j) tail q) (iff-sym (meets-term t H (range s i j))))
  tests-term met used c h w (a AND b) tail q = absurd (omega (arith, byte 0 q))
  tests-term met used c h w (a OR b) tail q = absurd (omega (arith, byte 0 q))

  module _ (x y : Bool) (m z : ℕ) (left : Tests t H (from bs 1) x m) (right : Tests t H (from bs (1 + m)) y z) where
    both : (c : ℕ) (a b : Expr) (tail : List ℕ) → bs ≡ (c ∷ (bytes a ++ bytes b)) ++ tail
        → (1 + m + z ≡ suc (length (bytes a ++ bytes b))) × ((x ≡ true) ↔ Meets t H a) × ((y ≡ true) ↔ Meets t H b)
    both c a b tail q =
        let o = operands c (bytes a) (bytes b) tail q in
        let l = left a (bytes b ++ tail) o.0 in
        let r = right b tail (subst (λ (k : ℕ). from bs (1 + k) ≡ bytes b ++ tail) (sym l.0) o.1) in
        (omega (arith, l.0, r.0, length-append (bytes a) (bytes b)), l.1, r.1)

    -- what the operator makes of its operands' answers
    pub tests-operator : (met : Bool) → 3 ≤ get_or bs 0 0 → (get_or bs 0 0 ≡ 3 → met ≡ (x && y)) × ((get_or bs 0 0 ≡ 3 → ⊥) → met ≡ (x || y))
        → Tests t H bs met (1 + m + z)
    tests-operator met c w (term (one s)) tail q = absurd (omega (arith, byte 0 q))
    tests-operator met c w (term (range s i j)) tail q = absurd (omega (arith, byte 0 q))
    tests-operator met c w (a AND b) tail q =
        let o = both 3 a b tail q in
        (o.0, rw (w.0 (byte 0 q)) (iff-trans (and-iff x y o.1 o.2) (iff-sym (meets-AND t H a b))))
    tests-operator met c w (a OR b) tail q =
        let o = both 4 a b tail q in
        (o.0, rw (w.1 (λ e. omega (arith, byte 0 q))) (iff-trans (or-iff x y o.1 o.2) (iff-sym (meets-OR t H a b))))

-- bytes that are right, and not none, are one expression, with nothing after it
module _ (kind : Kind) {n d : ℕ} {bs : List ℕ} (some : length bs ≡ 0 → ⊥) (ok : Right kind n d bs) where
  pub right-front : Front n bs
  right-front = ⊎_elim
      (λ e. absurd (some (ap length e)))
      (λ w. record { kind = kind; depth = d; expr = w.0; tail = []; fits = w.1; is = w.2 ∙ sym (append-nil (bytes w.0)) })
      ok

  pub tests-bytes : (t : Tree) (H : Set) (met : Bool) (used : ℕ) → Tests t H bs met used → (met ≡ true) ↔ MeetsBytes t H bs
  tests-bytes t H met used h = (
    (λ m. ⊎_elim (λ e. absurd (some (ap length e))) (λ w. (w.0, w.2, (h w.0 [] (w.2 ∙ sym (append-nil (bytes w.0)))).1.0 m)) ok),
    (λ w. (h w.0 [] (w.1 ∙ sym (append-nil (bytes w.0)))).1.1 w.2),
  )
