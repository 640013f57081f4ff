-- What stands at the front of some bytes, and how its print is made of those of its parts. Assumes nothing.
use mathlib.Core.Path.{◌≡◌, refl, sym, ap, ◌∙◌, subst}
use mathlib.Core.Bool.{Bool, true, false, ◌&&◌, ◌||◌, false≢true}
use mathlib.Core.List.{List, [], ◌∷◌, ◌++◌, append_assoc, append-nil}
use Prim.Native.Nat.{ℕ, ◌+◌, ◌<◌, ◌≤◌}
use native.Mathlib.Omega.{arith}
use lib.Dec.{eqb}
use borrow.Author.Tests.{ne_eqb}
use lib.ListN.{length, get_or, drop, length-append}
use lib.Seq.{drop-append_seam, drop-drop, get_or-drop}
use Rattle.writing.specs.Writing.{WrittenAt, RoomFor}
use Rattle.writing.specs.Laws.{then-written}
use Rattle.expression.specs.Expression.{Term, one, range, Expr, term, ◌AND◌, ◌OR◌}
use Rattle.expression.specs.Bytes.{bytes}
use Rattle.expression.specs.Scan.{from, from-drop}
use Rattle.print.specs.declared.Printing.{Printing}
use Rattle.print.specs.Print.{open_pair, close_pair, paired, is_and, is_or, printed}
use Rattle.print.specs.Writing.{bracketed, needs_pair, sign_of, TermAhead, PrintsTerm, Ahead, PrintsFront}

-- the byte at k of a list that is known
byte : {bs l : List ℕ} (k : ℕ) → bs ≡ l → get_or bs k 0 ≡ get_or l k 0
byte k e = ap (λ (x : List ℕ). get_or x k 0) e

-- ---- terms
-- a term that is told by its first byte
is_one : {bs : List ℕ} (x : Term) (tail : List ℕ) → bs ≡ bytes (term x) ++ tail → get_or bs 0 0 ≡ 1 → x ≡ one (get_or bs 1 0)
is_one (one s) tail e c = ap one (sym (byte 1 e))
is_one (range s i j) tail e c = absurd (omega (arith, byte 0 e))

is-range : {bs : List ℕ} (x : Term) (tail : List ℕ) → bs ≡ bytes (term x) ++ tail → (get_or bs 0 0 ≡ 1 → ⊥)
    → x ≡ range (get_or bs 1 0) (get_or bs 2 0) (get_or bs 3 0)
is-range (one s) tail e c = absurd (c (byte 0 e))
is-range (range s i j) tail e c = let p = byte 1 e in let q = byte 2 e in let r = byte 3 e in cc

module _ {bs out : List ℕ} {at : ℕ} (w : TermAhead bs out at) where
  pub term-some : 1 < length bs
  term-some = go w.term_is w.is
    where
      go : (x : Term) → bs ≡ bytes (term x) ++ w.tail → 1 < length bs
      go (one s) e = omega (arith, ap length e)
      go (range s i j) e = omega (arith, ap length e)

  pub term-long : (get_or bs 0 0 ≡ 1 → ⊥) → 3 < length bs
  term-long c = go w.term_is w.is
    where
      go : (x : Term) → bs ≡ bytes (term x) ++ w.tail → 3 < length bs
      go (one s) e = absurd (c (byte 0 e))
      go (range s i j) e = omega (arith, ap length e)

  pub one-room : get_or bs 0 0 ≡ 1 → RoomFor out at (printed (term (one (get_or bs 1 0))))
  one-room c = subst (λ (x : Term). RoomFor out at (printed (term x))) (is_one w.term_is w.tail w.is c) w.room

  pub range-room : (get_or bs 0 0 ≡ 1 → ⊥) → RoomFor out at (printed (term (range (get_or bs 1 0) (get_or bs 2 0) (get_or bs 3 0))))
  range-room c = subst (λ (x : Term). RoomFor out at (printed (term x))) (is-range w.term_is w.tail w.is c) w.room

module _ {bs before after : List ℕ} {at to : ℕ} where
  pub prints-one : get_or bs 0 0 ≡ 1 → WrittenAt before at (printed (term (one (get_or bs 1 0)))) after to
      → PrintsTerm bs before at after (record { used = 2; to = to })
  prints-one c w x tail e =
      let is = sym (is_one x tail e c) in
      (ap (λ (y : Term). length (bytes (term y))) is, subst (λ (y : Term). WrittenAt before at (printed (term y)) after to) is w)

  pub prints-range : (get_or bs 0 0 ≡ 1 → ⊥) → WrittenAt before at (printed (term (range (get_or bs 1 0) (get_or bs 2 0) (get_or bs 3 0)))) after to
      → PrintsTerm bs before at after (record { used = 4; to = to })
  prints-range c w x tail e =
      let is = sym (is-range x tail e c) in
      (ap (λ (y : Term). length (bytes (term y))) is, subst (λ (y : Term). WrittenAt before at (printed (term y)) after to) is w)

-- ---- pairs
abbrev code_of : Expr → ℕ
code_of e = get_or (bytes e) 0 0

first_byte : {bs : List ℕ} (e : Expr) (tail : List ℕ) → bs ≡ bytes e ++ tail → get_or bs 0 0 ≡ code_of e
first_byte (term (one s)) tail q = byte 0 q
first_byte (term (range s i j)) tail q = byte 0 q
first_byte (a AND b) tail q = byte 0 q
first_byte (a OR b) tail q = byte 0 q

paired_is : (pair : Bool) (t : List ℕ) → paired pair t ≡ bracketed pair open_pair ++ (t ++ bracketed pair close_pair)
paired_is true t = refl
paired_is false t = sym (append-nil t)

paired-length : (pair : Bool) (t : List ℕ) → length (paired pair t) ≡ length (bracketed pair open_pair) + (length t + length (bracketed pair close_pair))
paired-length pair t =
    ap length (paired_is pair t) ∙ length-append (bracketed pair open_pair) (t ++ bracketed pair close_pair)
    ∙ ap (λ (k : ℕ). length (bracketed pair open_pair) + k) (length-append t (bracketed pair close_pair))

and_left : (a : Expr) → needs_pair 3 false (code_of a) ≡ is_or a
and_left (term (one s)) = refl
and_left (term (range s i j)) = refl
and_left (a AND b) = refl
and_left (a OR b) = refl

and_right : (b : Expr) → needs_pair 3 true (code_of b) ≡ (is_or b || is_and b)
and_right (term (one s)) = refl
and_right (term (range s i j)) = refl
and_right (a AND b) = refl
and_right (a OR b) = refl

or_left : (a : Expr) → needs_pair 4 false (code_of a) ≡ false
or_left (term (one s)) = refl
or_left (term (range s i j)) = refl
or_left (a AND b) = refl
or_left (a OR b) = refl

or_right : (b : Expr) → needs_pair 4 true (code_of b) ≡ is_or b
or_right (term (one s)) = refl
or_right (term (range s i j)) = refl
or_right (a AND b) = refl
or_right (a OR b) = refl

-- only operators get a pair
bare-code : (under : ℕ) (right : Bool) (code : ℕ) → 3 ≤ under → code < 3 → needs_pair under right code ≡ false
bare-code under right code h k = rw (ne_eqb code under (λ e. omega arith), ne_eqb code 4 (λ e. omega arith)) (no_both (eqb under 3))
  where
    no_both : (b : Bool) → (b && false) ≡ false
    no_both true = refl
    no_both false = refl

only-joined : (under : ℕ) (right : Bool) (e : Expr) → 3 ≤ under → needs_pair under right (code_of e) ≡ true → 3 ≤ code_of e
only-joined under right (a AND b) h p = omega arith
only-joined under right (a OR b) h p = omega arith
only-joined under right (term (one s)) h p = absurd (false≢true (sym (bare-code under right 1 (omega arith) (omega arith)) ∙ p))
only-joined under right (term (range s i j)) h p = absurd (false≢true (sym (bare-code under right 2 (omega arith) (omega arith)) ∙ p))

-- ---- operators
-- the text of two operands and their operator
abbrev joined_text : ℕ → Expr → Expr → List ℕ
joined_text code a b = paired (needs_pair code false (code_of a)) (printed a) ++ (sign_of code ∷ paired (needs_pair code true (code_of b)) (printed b))

joined_length : (code : ℕ) (a b : Expr) → length (joined_text code a b)
    ≡ length (paired (needs_pair code false (code_of a)) (printed a)) + (1 + length (paired (needs_pair code true (code_of b)) (printed b)))
joined_length code a b =
    let r = paired (needs_pair code true (code_of b)) (printed b) in
    length-append (paired (needs_pair code false (code_of a)) (printed a)) (sign_of code ∷ r) ∙ omega arith

print-and : (a b : Expr) → printed (a AND b) ≡ joined_text 3 a b
unfolding printed
print-and a b = rw (and_left a, and_right b) refl

print-or : (a b : Expr) → printed (a OR b) ≡ joined_text 4 a b
unfolding printed
print-or a b = rw (or_left a, or_right b) refl

-- an operator stands at the front, followed by its two operands, whole, and there is room for its print
pub record Operator (bs : List ℕ) (pair : Bool) (out : List ℕ) (at : ℕ) : Type 0 where
  pub a : Expr
  pub b : Expr
  pub tail : List ℕ
  pub left_is : from bs 1 ≡ bytes a ++ (bytes b ++ tail)
  pub right_is : from bs (1 + length (bytes a)) ≡ bytes b ++ tail
  pub long : 1 + length (bytes a) + length (bytes b) ≤ length bs
  pub room : at + length (paired pair (joined_text (get_or bs 0 0) a b)) ≤ length out

operands : {bs : List ℕ} (x : ℕ) (p q tail : List ℕ) → bs ≡ (x ∷ (p ++ q)) ++ tail → (from bs 1 ≡ p ++ (q ++ tail)) × (from bs (1 + length p) ≡ q ++ tail)
operands {bs} x p q tail e =
    let one_on : drop 1 bs ≡ p ++ (q ++ tail) = ap (λ (l : List ℕ). drop 1 l) e ∙ append_assoc p q tail in
    let more-on = sym (drop-drop (length p) 1 bs) ∙ ap (λ (l : List ℕ). drop (length p) l) one_on ∙ drop-append_seam p (q ++ tail) in
    (from-drop bs 1 ∙ one_on, from-drop bs (1 + length p) ∙ more-on)

-- the byte where the bytes from k on begin
from_first : (bs : List ℕ) (k : ℕ) → get_or (from bs k) 0 0 ≡ get_or bs k 0
from_first bs k = byte 0 (from-drop bs k) ∙ get_or-drop k bs 0 0 ∙ ap (λ (n : ℕ). get_or bs n 0) (omega arith)

pub some-ahead : {bs out : List ℕ} {pair : Bool} {at : ℕ} → Ahead bs pair out at → 0 < length bs
some-ahead {bs} w = go w.expr w.is
  where
    go : (e : Expr) → bs ≡ bytes e ++ w.tail → 0 < length bs
    go (term (one s)) q = omega (arith, ap length q)
    go (term (range s i j)) q = omega (arith, ap length q)
    go (a AND b) q = omega (arith, ap length q)
    go (a OR b) q = omega (arith, ap length q)

-- a first byte below 3 begins a term, which gets no pair
pub no-pair : {bs out : List ℕ} {pair : Bool} {at : ℕ} → Ahead bs pair out at → get_or bs 0 0 < 3 → pair ≡ false
no-pair {pair = false} w c = refl
no-pair {pair = true} w c = absurd (omega (arith, c, w.joined refl))

pub term-ahead : {bs out : List ℕ} {pair : Bool} {at : ℕ} → Ahead bs pair out at → get_or bs 0 0 < 3 → TermAhead bs out at
term-ahead {bs} {out} {pair} {at} w c = go w.expr w.is (subst (λ (p : Bool). RoomFor out at (paired p (printed w.expr))) (no-pair w c) w.room)
  where
    go : (e : Expr) → bs ≡ bytes e ++ w.tail → RoomFor out at (printed e) → TermAhead bs out at
    go (term x) q h = record { term_is = x; tail = w.tail; is = q; room = h }
    go (a AND b) q h = absurd (omega (arith, byte 0 q))
    go (a OR b) q h = absurd (omega (arith, byte 0 q))

pub prints-term : {bs before after : List ℕ} {pair : Bool} {at : ℕ} {r : Printing} → Ahead bs pair before at → get_or bs 0 0 < 3
    → PrintsTerm bs before at after r → PrintsFront bs pair before at after r
prints-term {bs} {before} {after} {pair} {at} {r} w c h (term x) tail q =
    let o = h x tail q in
    (o.0, subst (λ (p : Bool). WrittenAt before at (paired p (printed (term x))) after r.to) (sym (no-pair w c)) o.1)
prints-term w c h (a AND b) tail q = absurd (omega (arith, byte 0 q))
prints-term w c h (a OR b) tail q = absurd (omega (arith, byte 0 q))

-- any other byte is an operator
pub operator-ahead : {bs out : List ℕ} {pair : Bool} {at : ℕ} → Ahead bs pair out at → 3 ≤ get_or bs 0 0 → Operator bs pair out at
operator-ahead {bs} {out} {pair} {at} w c = go w.expr w.is w.room
  where
    made : (x : ℕ) (a b : Expr) → bs ≡ (x ∷ (bytes a ++ bytes b)) ++ w.tail → RoomFor out at (paired pair (joined_text x a b)) → Operator bs pair out at
    made x a b q h =
        let o = operands x (bytes a) (bytes b) w.tail q in
        record {
          a = a;
          b = b;
          tail = w.tail;
          left_is = o.0;
          right_is = o.1;
          long = omega (arith, ap length q, length-append (bytes a ++ bytes b) w.tail, length-append (bytes a) (bytes b));
          room = subst (λ (k : ℕ). RoomFor out at (paired pair (joined_text k a b))) (sym (byte 0 q)) h;
        }

    go : (e : Expr) → bs ≡ bytes e ++ w.tail → RoomFor out at (paired pair (printed e)) → Operator bs pair out at
    go (term (one s)) q h = absurd (omega (arith, byte 0 q))
    go (term (range s i j)) q h = absurd (omega (arith, byte 0 q))
    go (a AND b) q h = made 3 a b q (subst (λ (t : List ℕ). RoomFor out at (paired pair t)) (print-and a b) h)
    go (a OR b) q h = made 4 a b q (subst (λ (t : List ℕ). RoomFor out at (paired pair t)) (print-or a b) h)

-- ---- the print of an operator, part by part
module _ {bs : List ℕ} {pair : Bool} {before : List ℕ} {at : ℕ} (w : Ahead bs pair before at) (c : 3 ≤ get_or bs 0 0) where
  abbrev pub op : Operator bs pair before at
  op = operator-ahead w c

  abbrev left-text : List ℕ
  left-text = paired (needs_pair (get_or bs 0 0) false (code_of op.a)) (printed op.a)

  abbrev right-text : List ℕ
  right-text = paired (needs_pair (get_or bs 0 0) true (code_of op.b)) (printed op.b)

  -- how the room is shared out
  shared : at + (length (bracketed pair open_pair) + (length left-text + (1 + length right-text) + length (bracketed pair close_pair))) ≤ length before
  shared = omega (arith, op.room, paired-length pair (joined_text (get_or bs 0 0) op.a op.b), joined_length (get_or bs 0 0) op.a op.b)

  pub open-room : RoomFor before at (bracketed pair open_pair)
  open-room = omega (arith, shared)

  some_bytes : (e : Expr) → 0 < length (bytes e)
  some_bytes (term (one s)) = omega arith
  some_bytes (term (range s i j)) = omega arith
  some_bytes (a AND b) = omega arith
  some_bytes (a OR b) = omega arith

  pub two_bytes : 1 < length bs
  two_bytes = omega (arith, op.long, some_bytes op.a)

  left-code : get_or bs 1 0 ≡ code_of op.a
  left-code = sym (from_first bs 1) ∙ first_byte op.a _ op.left_is

  -- the opening sign was written, and it is known whether the left operand gets a pair
  module _ {m1 : List ℕ} {p : ℕ} (O : WrittenAt before at (bracketed pair open_pair) m1 p) {lp : Bool}
      (l : lp ≡ needs_pair (get_or bs 0 0) false (get_or bs 1 0)) where
    left-pair : lp ≡ needs_pair (get_or bs 0 0) false (code_of op.a)
    left-pair = l ∙ ap (λ (k : ℕ). needs_pair (get_or bs 0 0) false k) left-code

    left-written : paired lp (printed op.a) ≡ left-text
    left-written = ap (λ (b : Bool). paired b (printed op.a)) left-pair

    pub left-ahead : Ahead (from bs 1) lp m1 p
    left-ahead = record {
      expr = op.a;
      tail = _;
      is = op.left_is;
      joined = λ t. subst (λ (k : ℕ). 3 ≤ k) (sym (first_byte op.a _ op.left_is)) (only-joined (get_or bs 0 0) false op.a c (sym left-pair ∙ t));
      room = omega (arith, shared, O.next, O.long, ap length left-written);
    }

    -- so was the left operand
    module _ {m2 : List ℕ} {left : Printing} (L : PrintsFront (from bs 1) lp m1 p m2 left) where
      abbrev left-done : (left.used ≡ length (bytes op.a)) × WrittenAt m1 p (paired lp (printed op.a)) m2 left.to
      left-done = L op.a _ op.left_is

      pub left-within : 1 + left.used < length bs
      left-within = omega (arith, left-done.0, op.long, some_bytes op.b)

      pub sign-room : left.to < length m2
      sign-room = omega (arith, shared, O.next, O.long, ap length left-written, left-done.1.next, left-done.1.long)

      right-is-now : from bs (1 + left.used) ≡ bytes op.b ++ op.tail
      right-is-now = subst (λ (k : ℕ). from bs (1 + k) ≡ bytes op.b ++ op.tail) (sym left-done.0) op.right_is

      right-code : get_or bs (1 + left.used) 0 ≡ code_of op.b
      right-code = sym (from_first bs (1 + left.used)) ∙ first_byte op.b _ right-is-now

      -- so was the sign, and it is known whether the right operand gets a pair
      module _ {m3 : List ℕ} {q sg : ℕ} (S : WrittenAt m2 left.to (sg ∷ []) m3 q) {rp : Bool}
          (r : rp ≡ needs_pair (get_or bs 0 0) true (get_or bs (1 + left.used) 0)) where
        right-pair : rp ≡ needs_pair (get_or bs 0 0) true (code_of op.b)
        right-pair = r ∙ ap (λ (k : ℕ). needs_pair (get_or bs 0 0) true k) right-code

        right-written : paired rp (printed op.b) ≡ right-text
        right-written = ap (λ (b : Bool). paired b (printed op.b)) right-pair

        -- the room that is left for the right operand and the closing sign
        left_over : q + (length right-text + length (bracketed pair close_pair)) ≤ length m3
        left_over =
            omega (
              arith,
              shared,
              O.next,
              O.long,
              ap length left-written,
              left-done.1.next,
              left-done.1.long,
              S.next,
              S.long,
            )

        pub right-ahead : Ahead (from bs (1 + left.used)) rp m3 q
        right-ahead = record {
          expr = op.b;
          tail = _;
          is = right-is-now;
          joined = λ t. subst (λ (k : ℕ). 3 ≤ k) (sym (first_byte op.b _ right-is-now)) (only-joined (get_or bs 0 0) true op.b c (sym right-pair ∙ t));
          room = omega (arith, left_over, ap length right-written);
        }

        -- so was the right operand
        module _ {m4 : List ℕ} {right : Printing} (R : PrintsFront (from bs (1 + left.used)) rp m3 q m4 right) where
          abbrev right-done : (right.used ≡ length (bytes op.b)) × WrittenAt m3 q (paired rp (printed op.b)) m4 right.to
          right-done = R op.b _ right-is-now

          pub right-within : 1 + left.used + right.used ≤ length bs
          right-within = omega (arith, left-done.0, right-done.0, op.long)

          pub close-room : RoomFor m4 right.to (bracketed pair close_pair)
          close-room = omega (arith, left_over, ap length right-written, right-done.1.next, right-done.1.long)

          -- so was the closing sign: the whole is printed
          module _ {m5 : List ℕ} {to : ℕ} (s : sg ≡ sign_of (get_or bs 0 0)) (C : WrittenAt m4 right.to (bracketed pair close_pair) m5 to) where
            whole : (x : ℕ) (a b : Expr) (tail : List ℕ) → bs ≡ (x ∷ (bytes a ++ bytes b)) ++ tail
                → (1 + left.used + right.used ≡ 1 + length (bytes a ++ bytes b)) × WrittenAt before at (paired pair (joined_text x a b)) m5 to
            whole x a b tail e =
                let o = operands x (bytes a) (bytes b) tail e in
                let u = L a _ o.0 in
                let at_right = subst (λ (k : ℕ). from bs (1 + k) ≡ bytes b ++ tail) (sym u.0) o.1 in
                let v = R b tail at_right in
                let is_x = byte 0 e in
                let a-code = sym (from_first bs 1) ∙ first_byte a _ o.0 in
                let b-code = sym (from_first bs (1 + left.used)) ∙ first_byte b _ at_right in
                let a_pair : lp ≡ needs_pair x false (code_of a) = l ∙ ap (λ (k : ℕ). needs_pair (get_or bs 0 0) false k) a-code
                ∙ ap (λ (k : ℕ). needs_pair k false (code_of a)) is_x in
                let b-pair : rp ≡ needs_pair x true (code_of b) = r ∙ ap (λ (k : ℕ). needs_pair (get_or bs 0 0) true k) b-code
                ∙ ap (λ (k : ℕ). needs_pair k true (code_of b)) is_x in
                let lw = subst (λ (z : Bool). WrittenAt m1 p (paired z (printed a)) m2 left.to) a_pair u.1 in
                let rw' = subst (λ (z : Bool). WrittenAt m3 q (paired z (printed b)) m4 right.to) b-pair v.1 in
                let sw = subst (λ (k : ℕ). WrittenAt m2 left.to (k ∷ []) m3 q) (s ∙ ap sign_of is_x) S in
                let all = then-written O (then-written (then-written lw (then-written sw rw')) C) in (
                  omega (arith, u.0, v.0, length-append (bytes a) (bytes b)),
                  subst (λ (t : List ℕ). WrittenAt before at t m5 to) (sym (paired_is pair (joined_text x a b))) all,
                )

            pub prints-operator : PrintsFront bs pair before at m5 (record { used = 1 + left.used + right.used; to = to })
            prints-operator (term (one k)) tail e = absurd (omega (arith, byte 0 e))
            prints-operator (term (range k i j)) tail e = absurd (omega (arith, byte 0 e))
            prints-operator (a AND b) tail e =
                let o = whole 3 a b tail e in
                (omega (arith, o.0), subst (λ (t : List ℕ). WrittenAt before at (paired pair t) m5 to) (sym (print-and a b)) o.1)
            prints-operator (a OR b) tail e =
                let o = whole 4 a b tail e in
                (omega (arith, o.0), subst (λ (t : List ℕ). WrittenAt before at (paired pair t) m5 to) (sym (print-or a b)) o.1)
