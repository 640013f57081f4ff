-- What holds between two records of a window: what was printed is written, and the box came so far. Assumes nothing.
use mathlib.Core.Path.{◌≡◌, refl, sym, ap, ap₂, ◌∙◌, subst}
use mathlib.Core.Bool.{Bool, true, false, not, true≢false, false≢true}
use mathlib.Core.List.{List, [], ◌++◌, append-nil, append_assoc}
use mathlib.Core.Logic.{◌⊎◌, inl, inr}
use Prim.Native.Nat.{ℕ, ◌+◌, ◌-◌, ◌<◌, ◌≤◌}
use native.Mathlib.Omega.{arith}
use lib.Dec.{eqb}
use borrow.Author.Tests.{eqb-true, eqb-false}
use lib.ListN.{length, get_or, take, drop, length-append, length-drop, drop_of_length-le, take-append-drop}
use lib.Seq.{take_all, take_at, drop_at, drop-drop, get_or-drop}
use Rattle.fields.specs.Fronts.{nil-of}
use Rattle.std.proofs.Common.{Some, None}
use Rattle.answer.specs.declared.Answer.{Answer}
use Rattle.answer.specs.Answers.{packed}
use Rattle.lines.specs.Lines.{Fills}
use Rattle.records.specs.Records.{longest_in_table, Unrecorded}
use Rattle.records.specs.Laws.{AllBytes}
use Rattle.script.specs.Windows.{Waits}
use Rattle.door.specs.declared.BoxRecord.{BoxRecord}
use Rattle.door.specs.declared.Served.{Served}
use Rattle.door.specs.Box.{Call, IsBoxRecord, CallDoes, Serves}
use Rattle.door.specs.Inner.{answer_in, given_in, ServedIs}
use Rattle.parkbox.specs.Parking.{lent_room, NoBoxRecord, BoxPrints, input-over, record-broken}
use Rattle.parkbox.specs.Windows.{PrintsTo, still-there, line_lent, ParkedIs}
use Rattle.parkbox.specs.Inner.{Sized, last_line, LastTold}
use Rattle.parkbox.specs.Laws.{unrecorded}
use Rattle.parkbox.specs.WindowLaws.{box-record-onward, unrecorded-onward, one-record-on, prints-further, prints-out}

-- ---- one record
-- a call was made of the box by the record, with the room that is lent: the answer, and these bytes are given out
pub record RecordMade (b : BoxRecord) (rec : List ℕ) (a : Answer) (then : BoxRecord) (given : List ℕ) : Type 0 where
  pub call : Call
  pub is : IsBoxRecord rec call []
  pub does : CallDoes b.state call lent_room a then.state given

-- what stands at the front of the room is what was given out, whatever the room held
pub record_made : {b then : BoxRecord} {rec out out' : List ℕ} {r : Served} → length out ≡ lent_room → (c : Call) × IsBoxRecord rec c []
    → ServedIs b rec out r then out' → RecordMade b rec r.answer then (take r.given out')
record_made {b} {then} {rec} {out} {out'} {r} lent i w = go w.serves w.answers w.counted
  where
    go : (v : Serves b rec out (packed r.answer) then out') → r.answer ≡ answer_in v → r.given ≡ given_in v
        → RecordMade b rec r.answer then (take r.given out')
    go (inr v) a k = absurd (v.none i.0 i.1)
    go (inl v) a k =
        let m = v.makes in
        let front : take r.given out' ≡ m.given =
        ap (take r.given) m.fills ∙ take_at m.given (drop (length m.given) out) r.given (sym k) in
        let does = subst (λ (n : ℕ). CallDoes b.state v.call n m.answer then.state m.given) lent m.does in
        let told = subst (λ (g : List ℕ). CallDoes b.state v.call lent_room m.answer then.state g) (sym front) does in
        record {
          call = v.call;
          is = v.is;
          does = subst (λ (x : Answer). CallDoes b.state v.call lent_room x then.state (take r.given out')) (sym a) told;
        }

-- ---- a window on its way
pub record Underway (b : BoxRecord) (window first : List ℕ) (box : BoxRecord) (rest before : List ℕ) (n : ℕ) : Type 0 where
  pub passed : List ℕ
  pub parts : window ≡ passed ++ rest
  pub printed : List ℕ
  pub count : n ≡ length printed
  pub fits : n ≤ length first
  pub is : before ≡ printed ++ drop n first
  pub on : (later : List ℕ) → PrintsTo b (window ++ later) box (rest ++ later) printed

pub underway-first : (b : BoxRecord) (window first : List ℕ) → Underway b window first b window first 0
underway-first b window first = record {
  passed = [];
  parts = refl;
  printed = [];
  count = refl;
  fits = omega arith;
  is = refl;
  on = λ later. still-there;
}

one_used : {u v : ℕ} → Some u ≡ Some v → u ≡ v
one_used e = cc

-- whether bytes are left, as the code asks
pub some-left : (l : List ℕ) (e : Bool) → e ≡ eqb (length l) 0 → not e ≡ true → 0 < length l
some-left l true i h = absurd (false≢true h)
some-left l false i h = let ne = eqb-false (length l) 0 (sym i) in omega (arith, ne)

pub none-left : (l : List ℕ) (e : Bool) → e ≡ eqb (length l) 0 → not e ≡ false → length l ≡ 0
none-left l true i h = eqb-true (length l) 0 (sym i)
none-left l false i h = absurd (true≢false h)

module _ {b : BoxRecord} {window first : List ℕ} {box : BoxRecord} {rest before : List ℕ} {n : ℕ} (g : Underway b window first box rest before n) where
  pub long : length before ≡ length first
  long = omega (arith, ap length g.is, length-append g.printed (drop n first), length-drop n first, g.count, g.fits)

  pub window-length : length window ≡ length g.passed + length rest
  window-length = ap length g.parts ∙ length-append g.passed rest

  -- what is left of the output, as the code lends it
  abbrev pub room : List ℕ
  room = take (length before - n) (drop n before)

  room-is : room ≡ drop n first
  room-is =
      take_all (length before - n) (drop n before) (omega (arith, length-drop n before))
      ∙ ap (drop n) g.is ∙ drop_at g.printed (drop n first) n (sym g.count)

  pub room-length : length room ≡ length before - n
  room-length = ap length room-is ∙ length-drop n first ∙ ap (λ (k : ℕ). k - n) (sym long)

  -- the output when it is back
  abbrev pub back : List ℕ → List ℕ
  back w = take n before ++ (w ++ drop (length before - n) (drop n before))

  back_is : (w line : List ℕ) (k : ℕ) → w ≡ line ++ drop k room → back w ≡ (g.printed ++ line) ++ drop (n + k) first
  back_is w line k e =
      let none : drop (length before - n) (drop n before) ≡ [] =
      drop_of_length-le (drop n before) {i = length before - n} (omega (arith, length-drop n before)) in
      let front = ap (take n) g.is ∙ take_at g.printed (drop n first) n (sym g.count) in
      let filled = e ∙ ap (λ (l : List ℕ). line ++ drop k l) room-is ∙ ap (λ (l : List ℕ). line ++ l) (drop-drop k n first) in
      ap₂ (λ (u v : List ℕ). u ++ (w ++ v)) front none
      ∙ ap (λ (l : List ℕ). g.printed ++ l) (append-nil w ∙ filled)
      ∙ sym (append_assoc g.printed line (drop (n + k) first))

  -- one record more
  module _ {w given : List ℕ} {size k : ℕ} {a : Answer} {then : BoxRecord} (inside : Sized rest size) (made : RecordMade box (take size rest) a then given)
      (line : Fills a given room w k) (kept : length w ≡ length room) where
    -- what is left of the window then, as the code has it
    abbrev pub further : List ℕ
    further = take (length rest - size) (drop size rest)

    further-is : further ≡ drop size rest
    further-is = take_all (length rest - size) (drop size rest) (omega (arith, length-drop size rest))

    pub less : length further < length rest
    less = omega (arith, ap length further-is, length-drop size rest, inside.some, inside.within)

    whole : take size rest ++ further ≡ rest
    whole = ap (λ (l : List ℕ). take size rest ++ l) further-is ∙ take-append-drop size rest

    rest-on : (later : List ℕ) → IsBoxRecord (rest ++ later) made.call (further ++ later)
    rest-on later =
        subst (λ (l : List ℕ). IsBoxRecord (l ++ later) made.call (further ++ later)) whole
        (box-record-onward later (box-record-onward further made.is))

    pub served-on : Underway b window first then further (back w) (n + k)
    served-on = record {
      passed = g.passed ++ take size rest;
      parts = g.parts ∙ ap (λ (l : List ℕ). g.passed ++ l) (sym whole) ∙ sym (append_assoc g.passed (take size rest) further);
      printed = g.printed ++ line.line;
      count = omega (arith, g.count, line.count, length-append g.printed line.line);
      fits = omega (arith, line.fits, room-length, long, g.fits);
      is = back_is w line.line k line.filled;
      on = λ later. prints-further (g.on later) (one-record-on {b = box} {after = then} (rest-on later) made.does line.is-line);
    }

  -- what is printed where no record stands has room
  pub last-has-room : (some : Bool) {w : List ℕ} {k : ℕ} → line_lent ≤ length before - n → LastTold some room w k → n + k ≤ length first
  last-has-room true enough t = omega (arith, long, t.0)
  last-has-room false enough t = omega (arith, t.0, g.fits)

  -- what is left, by its place in the window
  behind : drop (length window - length rest) window ≡ rest
  behind = ap (drop (length window - length rest)) g.parts ∙ drop_at g.passed rest (length window - length rest) (omega (arith, window-length))

  pub rest-bytes : AllBytes window → AllBytes rest
  rest-bytes h i =
      let k = length window - length rest in
      subst (λ (l : List ℕ). get_or l i 0 < 256) behind (omega (arith, get_or-drop k window i 0, h (k + i)))

  -- it has to wait
  pub waiting : (ends : Bool) → Waits longest_in_table line_lent ends (length rest) (length before - n)
      → ParkedIs b window ends first before box (record { printed = n; used = Some (length window - length rest) })
  waiting ends w = record {
    printed = g.printed;
    count = g.count;
    fits = g.fits;
    is = g.is;
    within = λ u e. omega (arith, one_used e);
    goes = λ u e later.
        subst (λ (l : List ℕ). PrintsTo b (window ++ later) box (l ++ later) g.printed) (sym behind ∙ ap (λ (v : ℕ). drop v window) (one_used e)) (g.on later);
    stops = λ e. absurd (cc);
    waits = λ u e.
        let left : length rest ≡ length window - u = omega (arith, one_used e, window-length) in
        subst (λ (v : ℕ). Waits longest_in_table line_lent ends v (length first - n)) left
        (subst (λ (l : ℕ). Waits longest_in_table line_lent ends (length rest) (l - n)) long w);
  }

  -- no record stands there, and it is over
  module _ (ends : Bool) (enough : (ends ≡ true) ⊎ (longest_in_table ≤ length rest)) (bytes : AllBytes rest) (none : Unrecorded rest) where
    none-on : (later : List ℕ) → (ends ≡ true → later ≡ []) → NoBoxRecord (rest ++ later)
    none-on later z = go enough
      where
        go : (ends ≡ true) ⊎ (longest_in_table ≤ length rest) → NoBoxRecord (rest ++ later)
        go (inl y) = subst NoBoxRecord (sym (ap (λ (l : List ℕ). rest ++ l) (z y) ∙ append-nil rest)) (unrecorded none)
        go (inr y) = unrecorded-onward rest later bytes y none

    last-prints : (some : Bool) → (some ≡ true → 0 < length rest) → (some ≡ false → length rest ≡ 0) → (later : List ℕ)
        → (ends ≡ true → later ≡ []) → BoxPrints box (rest ++ later) (last_line some)
    last-prints true s t later z =
        let a = length-append rest later in
        let h = s refl in
        record-broken {bytes = rest ++ later} (λ e. omega (arith, ap length e)) (none-on later z)
    last-prints false s t later z = go enough
      where
        go : (ends ≡ true) ⊎ (longest_in_table ≤ length rest) → BoxPrints box (rest ++ later) []
        go (inl y) = subst (λ (l : List ℕ). BoxPrints box l []) (sym (ap₂ ◌++◌ (nil-of rest (t refl)) (z y))) input-over
        go (inr y) = absurd (omega (arith, t refl))

    pub over-here : (some : Bool) → (some ≡ true → 0 < length rest) → (some ≡ false → length rest ≡ 0) → {w : List ℕ} {k : ℕ}
        → line_lent ≤ length before - n → LastTold some room w k
        → ParkedIs b window ends first (back w) box (record { printed = n + k; used = None })
    over-here some s t {w} {k} enough-room (count, is) = record {
      printed = g.printed ++ last_line some;
      count = omega (arith, g.count, count, length-append g.printed (last_line some));
      fits = last-has-room some enough-room (count, is);
      is = back_is w (last_line some) k is;
      within = λ u e. absurd (cc);
      goes = λ u e. absurd (cc);
      stops = λ _ later z. prints-out (last_line some) (g.on later) (last-prints some s t later z);
      waits = λ u e. absurd (cc);
    }
