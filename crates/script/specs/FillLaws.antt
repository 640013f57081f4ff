-- An output that is filled byte after byte holds what was written, as far as it fits. Assumes nothing.
use Rattle.std.specs.Prelude.{◌≡◌, refl, List, [], ◌++◌, ℕ, ◌+◌, ◌-◌, ◌<◌, ◌≤◌, length, take, drop}
use Rattle.std.proofs.Common.{sym, ap, ap₂, ◌∙◌, subst, append-nil, append_assoc, arith}
use Rattle.std.proofs.Common.{length-append, length-take, length-drop, drop_of_length-le, drop-drop, take_all, take_at}
use Rattle.std.proofs.Math.Decide.{dec_le}
use Rattle.std.proofs.Math.Seq.{take-append_seam, take-append-add, drop-append-add}
use Rattle.std.proofs.lemmas.List.{take-append-le}
use Rattle.answer.specs.declared.Answer.{Answer}
use Rattle.lines.specs.Lines.{Fills}
use Rattle.script.specs.Script.{over, Filled}
use Rattle.script.specs.Windows.{line_room}
use Rattle.script.specs.Inner.{Puts, PutsLine}

-- ---- some bytes
length_over : (w before : List ℕ) → length (over w before) ≡ length before
length_over w before = simp (length-append, length-take, length-drop) (omega arith)

-- what fits stands whole, and what has no room is not there
pub over-fits : (w before : List ℕ) → length w ≤ length before → over w before ≡ w ++ drop (length w) before
over-fits w before h = ap (λ (l : List ℕ). l ++ drop (length w) before) (take_all (length before) w h)

over-full : (w before : List ℕ) → length before ≤ length w → over w before ≡ take (length before) w
over-full w before h = ap (λ (l : List ℕ). take (length before) w ++ l) (drop_of_length-le before h) ∙ append-nil (take (length before) w)

-- where there is no room left, nothing is written, and the count stays
pub puts-past : (w before : List ℕ) (n : ℕ) → length before < n → Puts w before n before n
puts-past w before n h first held f =
    let long = ap length f.is ∙ length_over held first in
    go long (dec_le (length held) (length first))
  where
    go : length before ≡ length first → Dec (length held ≤ length first) → Filled (held ++ w) first before n
    go long (yes a) = absurd (omega (arith, f.fits a))
    go long (no a) =
        let m : n ≡ length first + 1 = f.full (omega arith) in
        let o = length-append held w in
        let same = take-append-le (length first) held w (omega arith) in
        record {
          is = f.is ∙ over-full held first (omega arith) ∙ sym same ∙ sym (over-full (held ++ w) first (omega arith));
          fits = λ b. omega arith;
          full = λ b. omega arith;
        }

module _ (w before : List ℕ) (n : ℕ) (h : n ≤ length before) where
  -- what is held stands at the front, and after it what was there
  module _ (first held : List ℕ) (f : Filled held first before n) where
    long : length before ≡ length first
    long = ap length f.is ∙ length_over held first

    held-fits : length held ≤ length first
    held-fits = go (dec_le (length held) (length first))
      where
        go : Dec (length held ≤ length first) → length held ≤ length first
        go (yes a) = a
        go (no a) = absurd (omega (arith, long, f.full (omega arith)))

    count : n ≡ length held
    count = f.fits held-fits

    before-is : before ≡ held ++ drop (length held) first
    before-is = f.is ∙ over-fits held first held-fits

    front : take n before ≡ held
    front = ap₂ take count before-is ∙ take-append_seam held (drop (length held) first)

    past : (k : ℕ) → drop (n + k) before ≡ drop (length held + k) first
    past k =
        let e : n + k ≡ length held + k = omega (arith, count) in
        ap₂ drop e before-is ∙ drop-append-add held (drop (length held) first) k ∙ drop-drop k (length held) first

  -- where all of it fits, it stands whole
  pub puts-all : length w ≤ length before - n → Puts w before n (take n before ++ (w ++ drop (n + length w) before)) (n + length w)
  puts-all room first held f =
      let c = count first held f in
      let l = long first held f in
      let o = length-append held w in
      let e : length held + length w ≡ length (held ++ w) = omega arith in
      record {
        is =
            ap₂ (λ (x y : List ℕ). x ++ (w ++ y)) (front first held f) (past first held f (length w)) ∙ sym (append_assoc held w _)
            ∙ ap (λ (k : ℕ). (held ++ w) ++ drop k first) e ∙ sym (over-fits (held ++ w) first (omega arith));
        fits = λ _. omega arith;
        full = λ b. omega arith;
      }

  -- and else its front up to the end
  pub puts-front : length before - n < length w
      → Puts w before n (take n before ++ (take (length before - n) w ++ drop (n + (length before - n)) before)) (length before + 1)
  puts-front room first held f =
      let c = count first held f in
      let l = long first held f in
      let o = length-append held w in
      let k : length first ≡ length held + (length before - n) = omega arith in
      let none = drop_of_length-le before {i = n + (length before - n)} (omega arith) in
      record {
        is =
            ap₂ (λ (x y : List ℕ). x ++ (take (length before - n) w ++ y)) (front first held f) none
            ∙ ap (λ (x : List ℕ). held ++ x) (append-nil (take (length before - n) w))
            ∙ sym (take-append-add held w (length before - n)) ∙ ap (λ (j : ℕ). take j (held ++ w)) (sym k)
            ∙ sym (over-full (held ++ w) first (omega arith));
        fits = λ b. omega arith;
        full = λ _. omega arith;
      }

-- ---- one after another
pub puts_none : (before : List ℕ) (n : ℕ) → Puts [] before n before n
puts_none before n first held f = rw append-nil f

pub puts-both : (u w before between after : List ℕ) (n k r : ℕ) → Puts u before n between k → Puts w between k after r → Puts (u ++ w) before n after r
puts-both u w before between after n k r p q first held f =
    subst (λ (l : List ℕ). Filled l first after r) (append_assoc held u w) (q first (held ++ u) (p first held f))

-- an output holds nothing at first
pub filled_none : (first : List ℕ) → Filled [] first first 0
filled_none first = record { is = sym (over-fits [] first (omega arith)); fits = λ _. refl; full = λ h. absurd (omega arith) }

-- what fits was all written
pub all-written : {w first before : List ℕ} {k : ℕ} → Filled w first before k → k ≤ length first → (k ≡ length w) × (before ≡ w ++ drop k first)
all-written {w} {first} {before} {k} f h = go (dec_le (length w) (length first))
  where
    go : Dec (length w ≤ length first) → (k ≡ length w) × (before ≡ w ++ drop k first)
    go (yes a) = (f.fits a, f.is ∙ over-fits w first a ∙ ap (λ (i : ℕ). w ++ drop i first) (sym (f.fits a)))
    go (no a) = absurd (omega (arith, f.full (omega arith)))

-- and what has room fits
pub still-fits : (w v : List ℕ) {first before after : List ℕ} {k r : ℕ} → Filled w first before k → k ≤ length first → length v ≤ length first - k
    → Filled (w ++ v) first after r → r ≤ length first
still-fits w v f h room f₂ =
    let l = length-append w v in
    let c = (all-written f h).0 in
    omega (arith, f₂.fits (omega arith))

-- the line of an answer, printed apart
pub puts-line : (a : Answer) (apart printed before after : List ℕ) (long n r : ℕ) → Fills a [] apart printed long → length printed ≤ line_room
    → Puts (take long printed) before n after r → PutsLine a before n after r
puts-line a apart printed before after long n r f few p =
    let e = ap (take long) f.filled ∙ take_at f.line (drop long apart) long (sym f.count) in
    (f.line, f.is-line, subst (λ (l : List ℕ). Puts l before n after r) e p, omega (arith, f.count, f.fits))
