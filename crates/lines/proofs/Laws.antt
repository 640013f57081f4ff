-- The laws of what is written, one part after the other, and of what is kept. Assumes nothing.
use mathlib.Core.Path.{◌≡◌, refl, sym, ap, ◌∙◌, subst}
use mathlib.Core.Bool.{false, false≢true}
use mathlib.Core.List.{List, [], ◌∷◌, ◌++◌, append-nil}
use Prim.Native.Nat.{ℕ, zero, suc, ◌+◌, ◌-◌, ◌*◌, ◌/◌, ◌%◌, ◌^◌, ◌<◌, ◌≤◌, min}
use native.Mathlib.Nat.{pow-le-pow_right}
use lib.Dec.{lit<, lit≤}
use native.Mathlib.Decide.{dec_lt}
use native.Mathlib.Numerals.{add-one}
use native.Mathlib.Omega.{arith}
use lib.ListN.{length, take, drop, get_or, length-append, length-drop, take-append-drop}
use lib.Seq.{take-suc, take_all, take-append-le, take-append-add, split_at, length-take-le}
use Rattle.std.proofs.Common.{eqb, eq-eqb, eqb-true, Some, None, position}
use Rattle.std.specs.List.{position_or_len}
use Rattle.std.proofs.lemmas.Grind.{common_steps}
use Rattle.std.proofs.lemmas.List.{take_min}
use Rattle.std.proofs.lemmas.List.Quantifiers.{position-Some}
use Rattle.std.proofs.lemmas.List.Sums.{fails_before_first}
use Rattle.std.proofs.lemmas.Slice.{take-put_mid, drop-put_mid}
use borrow.Rule.Slice.PartMut.{put_mid, same_len_mid}
use Rattle.io.specs.Digits.{hex_digit_ascii, IsDigitCount}
use Rattle.answer.specs.declared.Answer.{Answer}
use Rattle.writing.specs.Writing.{WrittenAt}
use Rattle.writing.specs.Laws.{then-written}
use Rattle.lines.specs.declared.begun.Begun.{Begun}
use Rattle.lines.specs.Lines.{hexes, Fills, Held, Unended, Collected}
use Rattle.lines.specs.Writing.{DecimalAt, Keeps}

-- ---- what is written
-- a part of an output that is written over
pub part-written : (d w : List ℕ) (at k j : ℕ) → j ≡ k → length w ≡ k → at + k ≤ length d → WrittenAt d at w (put_mid at j d w) (at + k)
part-written d w at k j e l h = record {
  next = omega arith;
  is = take-put_mid at j d w (at + k) (omega arith) (omega arith);
  rest = drop-put_mid at j d w (at + k) (omega arith) (omega arith) (omega arith);
  long = same_len_mid at j d w (omega (arith, length-take-le j (drop at d) (omega (arith, length-drop at d))));
}

hexes-append : (u v : List ℕ) → hexes (u ++ v) ≡ hexes u ++ hexes v
hexes-append [] v = refl
hexes-append (x ∷ u) v = ap (λ (z : List ℕ). 32 ∷ hex_digit_ascii (x / 16) ∷ hex_digit_ascii (x % 16) ∷ z) (hexes-append u v)

pub hexes-long : (u : List ℕ) → length (hexes u) ≡ 3 * length u
hexes-long [] = refl
hexes-long (x ∷ u) = let h = hexes-long u in omega arith

-- one byte more of a list, by a loop that writes the hex of each
pub hexes-more : (a : List ℕ) (i : ℕ) → i < length a → {d m e : List ℕ} {at p r : ℕ} → WrittenAt d at (hexes (take i a)) m p
    → WrittenAt m p (hexes (get_or a i 0 ∷ [])) e r → WrittenAt d at (hexes (take (i + 1) a)) e r
hexes-more a i h {d = d} {e = e} {at = at} {r = r} f g =
    subst (λ (z : List ℕ). WrittenAt d at z e r)
    (sym (ap (λ (n : ℕ). hexes (take n a)) (add-one i) ∙ ap hexes (take-suc a i 0 h) ∙ hexes-append (take i a) (get_or a i 0 ∷ [])))
    (then-written f g)

-- how far it is written
pub hexed-to : (a : List ℕ) (i : ℕ) → i ≤ length a → {d m : List ℕ} {at p : ℕ} → WrittenAt d at (hexes (take i a)) m p → p ≡ at + 3 * i
hexed-to a i h {at = at} f = f.next ∙ ap (λ (z : ℕ). at + z) (hexes-long (take i a) ∙ ap (λ (z : ℕ). 3 * z) (length-take-le i a h))

-- ---- what is kept of a line
module _ (n k : ℕ) (bytes part w : List ℕ) (much : k ≡ min (length part) (513 - n)) (h : Held n bytes w) where
  seam : take 513 w ++ take k part ≡ take 513 (w ++ part)
  seam = go (dec_lt 513 (length w))
    where
      go : Dec (513 < length w) → take 513 w ++ take k part ≡ take 513 (w ++ part)
      go (yes l) =
          let none : k ≡ 0 = omega (arith, h.count) in
          ap (λ (z : ℕ). take 513 w ++ take z part) none ∙ append-nil (take 513 w) ∙ sym (take-append-le 513 w part (omega arith))
      go (no l) =
          let some : k ≡ min (513 - n) (length part) = omega arith in
          let all : length w + (513 - n) ≡ 513 = omega (arith, h.count) in
          ap (λ (z : List ℕ). z ++ take k part) (take_all 513 w (omega arith))
          ∙ ap (λ (z : List ℕ). w ++ z) (ap (λ (z : ℕ). take z part) some ∙ take_min (513 - n) part)
          ∙ sym (take-append-add w part (513 - n)) ∙ ap (λ (z : ℕ). take z (w ++ part)) all

  more-held : (after : List ℕ) → take (n + k) after ≡ take n bytes ++ take k part → Held (n + k) after (w ++ part)
  more-held after e = record {
    count = omega (arith, h.count, length-append w part);
    is = e ∙ ap (λ (z : List ℕ). z ++ take k part) h.is ∙ seam;
  }

-- a part is copied behind what is kept, as much of it as there is room for
pub part-kept : (before after : Begun) (part : List ℕ) (k : ℕ) → length before.bytes ≡ 513 → k ≡ min (length part) (513 - before.n)
    → after.n ≡ before.n + k → WrittenAt before.bytes before.n (take k part) after.bytes after.n → Keeps before part after
part-kept before after part k long much on f = record {
  held = λ w h.
      subst (λ (z : ℕ). Held z after.bytes (w ++ part)) (sym on)
      (more-held before.n k before.bytes part w much h after.bytes (ap (λ (z : ℕ). take z after.bytes) (sym on) ∙ f.is));
  rest = f.rest;
}

-- before the first line end there is none
unended-to : (xs : List ℕ) (i : ℕ) → ((k : ℕ) → k < i → eqb (get_or xs k 0) 10 ≡ false) → Unended (take i xs)
unended-to xs zero f = tt
unended-to [] (suc i) f = tt
unended-to (x ∷ xs) (suc i) f = (λ e. false≢true (sym (f 0 (omega arith)) ∙ eq-eqb x 10 e), unended-to xs i (λ k h. f (suc k) (omega arith)))

module _ (input : List ℕ) (before after : Begun) where
  pub collected-to : (i : ℕ) → position (λ (x : ℕ). eqb x 10) input ≡ Some i → Keeps before (take i input) after → Collected input before (Some (i + 1)) after
  collected-to i e f =
      let (h, at, none) = position-Some (λ (x : ℕ). eqb x 10) input i 0 e in
      record {
        part = take i input;
        unended = unended-to input i none;
        ends = (
          omega arith,
          split_at input i 0 h ∙ ap (λ (z : ℕ). take i input ++ (z ∷ drop (suc i) input)) (eqb-true _ 10 at)
              ∙ ap (λ (z : ℕ). take i input ++ (10 ∷ drop z input)) (sym (add-one i)),
        );
        held = f.held;
        rest = f.rest;
      }

  pub collected-all : position (λ (x : ℕ). eqb x 10) input ≡ None → Keeps before input after → Collected input before None after
  collected-all e f =
      let none : length input ≤ position_or_len (λ (x : ℕ). eqb x 10) input = grind (arith, common_steps) in
      let u = unended-to input (length input) (λ k h. fails_before_first (λ (x : ℕ). eqb x 10) input k 0 (omega arith)) in
      record { part = input; unended = subst Unended (take_all (length input) input (omega arith)) u; ends = refl; held = f.held; rest = f.rest }

-- ---- a whole line
module _ (a : Answer) (b s : List ℕ) (n : ℕ) (is_s : s ≡ take (min n (length b)) b) {d m1 m2 m3 : List ℕ} {i j k : ℕ} (room : 42 + 3 * length b ≤ length d)
    (D1 : DecimalAt d 0 a.number m1 i) (P : WrittenAt m1 i (32 ∷ []) m2 j) (D2 : DecimalAt m2 j a.place m3 k) where
  shown : length s ≤ length b
  shown = omega (arith, ap length is_s, length-take-le (min n (length b)) b (omega arith))

  pub room-hexes : k + 3 * length s ≤ length m3
  room-hexes = omega (arith, shown, D1.written.next, D1.written.long, D1.short, P.next, P.long, D2.written.next, D2.written.long, D2.short)

  module _ {m4 : List ℕ} {l : ℕ} (H : WrittenAt m3 k (hexes s) m4 l) where
    pub room-end : l < length m4
    room-end =
        omega (
          arith,
          shown,
          hexes-long s,
          D1.written.next,
          D1.written.long,
          D1.short,
          P.next,
          P.long,
          D2.written.next,
          D2.written.long,
          D2.short,
          H.next,
          H.long,
        )

    pub whole-line : {m5 : List ℕ} {r : ℕ} → WrittenAt m4 l (10 ∷ []) m5 r → Fills a (take n b) d m5 r
    whole-line {m5} {r} Q =
        let w = then-written D1.written (then-written P (then-written D2.written (then-written H Q))) in
        let h : r ≤ length m5 = omega (arith, room-end, Q.next, Q.long) in
        record {
          line = take r m5;
          is-line = record {
            number = D1.d;
            place = D2.d;
            is_number = D1.decimal;
            is-place = D2.decimal;
            is = w.is ∙ ap (λ (z : List ℕ). D1.d ++ (32 ∷ (D2.d ++ (hexes z ++ (10 ∷ []))))) (is_s ∙ take_min n b);
          };
          count = sym (length-take-le r m5 h);
          fits = h;
          filled = sym (take-append-drop r m5) ∙ ap (λ (z : List ℕ). take r m5 ++ z) w.rest;
        }

-- a number below 2 ^ 64 has at most 20 digits
pub few-digits : (n k : ℕ) → n < 2 ^ 64 → IsDigitCount 10 1 n k → k ≤ 20
few-digits n k h f = go (dec_lt 20 k)
  where
    go : Dec (20 < k) → k ≤ 20
    go (yes q) =
        let a : 10 ^ 20 ≤ 10 ^ (k - 1) = (let i : 20 ≤ k - 1 = omega arith in pow-le-pow_right (lit< tt) i) in
        let b : 10 ^ (k - 1) ≤ n = f.2 (omega arith) in
        let c : 2 ^ 64 ≤ 10 ^ 20 = lit≤ tt in
        absurd (omega arith)
    go (no q) = omega arith
