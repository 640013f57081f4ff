-- The blocks of a replay that reads window by window are what its whole input prints. Assumes nothing.
use Rattle.std.specs.Prelude.{◌≡◌, refl, Option, Some, None, List, [], ◌∷◌, ◌++◌, ℕ, ◌+◌, ◌<◌, ◌≤◌, length, get_or, take, drop}
use Rattle.std.proofs.Common.{sym, ap, ap₂, ◌∙◌, subst, append-nil, append_assoc, inr, arith, length-append, length-drop, take_at}
use Rattle.std.proofs.Math.ListN.{get_or-append}
use Rattle.std.proofs.Math.Seq.{slice}
use Rattle.std.proofs.lemmas.List.{take-append-le, drop-append-le}
use Rattle.answer.specs.declared.Answer.{Answer}
use Rattle.policy.specs.declared.State.{State}
use Rattle.policy.specs.State.{fresh_state}
use Rattle.fields.specs.Parts.{low_first}
use Rattle.image.specs.Image.{expression_bytes}
use Rattle.machine.specs.Machine.{Request, load, change, bypass, Step}
use Rattle.lines.specs.Lines.{Line}
use Rattle.script.specs.Script.{IsRecord, a-begin, an-end, an-ask, a-change, a-bypass, longest_record, longest_front, stated, image_in, called, Prints}
use Rattle.script.specs.Playing.{NoRecord}
use Rattle.script.specs.Inner.{second_at, end_at}
use Rattle.script.specs.Records.{no_code, begin-whole, end_whole, ask-whole, store-whole, second-length}
use Rattle.script.specs.Laws.{one-printed}
use Rattle.script.specs.Windows.{PlaysTo, none_yet, loads, calls, PlaysOut, Fronted, Streams, last, next}

-- ---- a window of the longest record decides
-- no record of bytes is longer
pub no_longer : {bs rest : List ℕ} {q : Request} → IsRecord bs q rest → ((k : ℕ) → get_or bs k 0 < 256) → length bs ≤ longest_record + length rest
no_longer a-begin b = omega arith
no_longer an-end b = omega arith
no_longer an-ask b = omega arith
no_longer {bs} {rest} (a-change {slot} {file} {mode} {x} {y}) b =
    omega (arith, b 4, b (second_at bs), second-length 4 slot file mode x y rest bs refl, length-append x (expression_bytes y ++ rest), length-append y rest)
no_longer {bs} {rest} (a-bypass {slot} {file} {mode} {x} {y}) b =
    omega (arith, b 4, b (second_at bs), second-length 5 slot file mode x y rest bs refl, length-append x (expression_bytes y ++ rest), length-append y rest)

-- a record stays one, whatever comes later
parts-later : (x y rest later : List ℕ)
    → (expression_bytes x ++ (expression_bytes y ++ rest)) ++ later ≡ expression_bytes x ++ (expression_bytes y ++ (rest ++ later))
parts-later x y rest later = simp append_assoc

pub record-later : {bs rest : List ℕ} {q : Request} → IsRecord bs q rest → (later : List ℕ) → IsRecord (bs ++ later) q (rest ++ later)
record-later a-begin later = a-begin
record-later an-end later = an-end
record-later an-ask later = an-ask
record-later {rest = rest} (a-change {slot} {file} {mode} {x} {y}) later =
    subst (λ (l : List ℕ). IsRecord (4 ∷ slot ∷ file ∷ mode ∷ l) (change slot file mode x y) (rest ++ later)) (sym (parts-later x y rest later)) a-change
record-later {rest = rest} (a-bypass {slot} {file} {mode} {x} {y}) later =
    subst (λ (l : List ℕ). IsRecord (5 ∷ slot ∷ file ∷ mode ∷ l) (bypass slot file mode x y) (rest ++ later)) (sym (parts-later x y rest later)) a-bypass

-- and where so many bytes begin with none, nothing that comes later makes one
pub none-later : (window later : List ℕ) → ((k : ℕ) → get_or window k 0 < 256) → longest_record ≤ length window → NoRecord window
    → NoRecord (window ++ later)
none-later window later b h none =
    let e : get_or (window ++ later) 0 0 ≡ get_or window 0 0 = get_or-append window later 0 0 (omega arith) in
    let first : 5 ≤ length window = omega arith in
    let second : second_at window < length window = omega (arith, b 4) in
    let all : end_at window ≤ length window = omega (arith, b 4, b (second_at window)) in
    no_code (window ++ later)
    (λ c. none _ _ (begin-whole window (sym e ∙ c) (omega arith)))
    (λ c. none _ _ (end_whole window (sym e ∙ c) (omega arith)))
    (λ c. none _ _ (ask-whole window (sym e ∙ c) (omega arith)))
    (λ c. none _ _ (store-whole window first second all 4 (sym e ∙ c) (omega arith) (omega arith)))
    (λ c. none _ _ (store-whole window first second all 5 (sym e ∙ c) (omega arith) (omega arith)))

-- ---- a window of the longest front decides
-- no front of bytes is longer
pub no-longer-front : (input : List ℕ) → ((k : ℕ) → get_or input k 0 < 256) → 2 + stated input ≤ longest_front
no-longer-front input b = omega (arith, b 0, b 1)

-- the image is the same, whatever comes after it
module _ (window later : List ℕ) (h : 2 + stated window ≤ length window) where
  stated-later : stated (window ++ later) ≡ stated window
  stated-later = ap₂ low_first (get_or-append window later 0 0 (omega arith)) (get_or-append window later 0 1 (omega arith))

  image-later : image_in (window ++ later) ≡ image_in window
  image-later =
      let l = length-drop 2 window in
      ap₂ (λ (k : ℕ) (b : List ℕ). take k b) stated-later (drop-append-le 2 window later (omega arith))
      ∙ take-append-le (stated window) (drop 2 window) later (omega arith)

  pub load-later : {t : State} {a : Answer} {line : List ℕ} → Step fresh_state (load (image_in window)) a t → Line a [] line
      → PlaysTo None (window ++ later) (Some t) (drop (2 + stated window) window ++ later) line
  load-later {t} {a} {line} x l =
      let n = stated-later in
      let there : 2 + stated (window ++ later) ≤ length (window ++ later) = omega (arith, length-append window later) in
      let past : drop (2 + stated (window ++ later)) (window ++ later) ≡ drop (2 + stated window) window ++ later =
      ap (λ (k : ℕ). drop (2 + k) (window ++ later)) n ∙ drop-append-le (2 + stated window) window later h in
      let y : Step fresh_state (load (image_in (window ++ later))) a t = subst (λ (b : List ℕ). Step fresh_state (load b) a t) (sym image-later) x in
      let on = subst (λ (b : List ℕ). PlaysTo (Some t) (drop (2 + stated (window ++ later)) (window ++ later)) (Some t) b []) past none_yet in
      subst (λ (p : List ℕ). PlaysTo None (window ++ later) (Some t) (drop (2 + stated window) window ++ later) p) (append-nil line) (loads there y l on)

-- ---- one after another
pub one-call-on : {s t : State} {bytes rest line : List ℕ} {q : Request} {a : Answer} → IsRecord bytes q rest → Step s q a t → Line a [] line
    → PlaysTo (Some s) bytes (Some t) rest line
one-call-on {s} {t} {bytes} {rest} {line} i x l =
    subst (λ (p : List ℕ). PlaysTo (Some s) bytes (Some t) rest p) (append-nil line) (calls i x l none_yet)

pub then-further : {s t u : Option State} {x y z v w : List ℕ} → PlaysTo s x t y v → PlaysTo t y u z w → PlaysTo s x u z (v ++ w)
then-further none_yet q = q
then-further (loads h x l p) q = rw append_assoc (loads h x l (then-further p q))
then-further (calls i x l p) q = rw append_assoc (calls i x l (then-further p q))

pub then-out : {s t : Option State} {x y v : List ℕ} (w : List ℕ) → PlaysTo s x t y v → PlaysOut t y w → PlaysOut s x (v ++ w)
then-out w none_yet q = q
then-out w (loads {t = t} {line = line} {printed = printed} {a = a} h x l p) q =
    inr
    (record {
      two = omega arith;
      answer = a;
      state = t;
      line = line;
      rest = printed ++ w;
      loads = x;
      is-line = l;
      is = append_assoc line printed w;
      whole = λ _. then-out w p q;
      short = λ z. absurd (omega arith);
    })
then-out w (calls i x l p) q = rw append_assoc (called i x l (then-out w p q))

-- what went to the front of a buffer is what its window left
pub front-is : {before after : List ℕ} {at n r : ℕ} → Fronted before at n after r → take r after ≡ drop at (take n before)
front-is {before} {at = at} {n} {r} x = ap (take r) x.is ∙ take_at (slice at n before) (drop r before) r (sym x.count)

-- the blocks of the windows, one after another, are what is printed from there
streams-out : {s : Option State} {input blocks : List ℕ} → Streams s input blocks → PlaysOut s input blocks
streams-out {s} (last window later {before = before} {r = r} x m e) =
    let is = ap (take r.n) x.is ∙ take_at x.printed (drop r.n before) r.n (sym x.count) in
    subst (PlaysOut s (window ++ later)) (sym is) (x.stops m later e)
streams-out {s} (next window later {before = before} {blocks = blocks} {r = r} x m more) =
    let is = ap (take r.n) x.is ∙ take_at x.printed (drop r.n before) r.n (sym x.count) in
    subst (λ (w : List ℕ). PlaysOut s (window ++ later) (w ++ blocks)) (sym is) (then-out blocks (x.goes m later) (streams-out more))

-- and from the front of the input, what the whole input prints
pub streamed : {input blocks : List ℕ} → Streams None input blocks → Prints input blocks
streamed x = streams-out x

-- which is one, however the input is cut into windows
pub one-stream : {input p q : List ℕ} → Streams None input p → Streams None input q → p ≡ q
one-stream x y = one-printed (streamed x) (streamed y)
