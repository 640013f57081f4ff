-- Which bytes are which record, read off byte by byte. Assumes nothing.
use Rattle.std.specs.Prelude.{◌≡◌, refl, List, [], ◌∷◌, ◌++◌, ℕ, suc, ◌+◌, ◌-◌, ◌<◌, ◌≤◌, length, get_or, take, drop}
use Rattle.std.proofs.Common.{sym, ap, ap₂, ◌∙◌, subst, append_assoc, arith}
use Rattle.std.proofs.Common.{length-append, take-append-drop, length-drop, length-take-le, drop-drop, drop-cons, get_or-drop}
use Rattle.std.proofs.Math.Decide.{ℕ_discrete}
use Rattle.std.proofs.Math.Seq.{get_or-append_seam, drop-append_seam}
use Rattle.image.specs.Image.{expression_bytes}
use Rattle.machine.specs.Machine.{Request, begin, end, ask, change, bypass}
use Rattle.script.specs.Script.{IsRecord, a-begin, an-end, an-ask, a-change, a-bypass}
use Rattle.script.specs.Playing.{NoRecord}
use Rattle.script.specs.Inner.{second_at, end_at, first_of, second_of, store_of, store_in, Stored}

-- the code of a record is 1 to 5
pub no_code : (bs : List ℕ) → (get_or bs 0 0 ≡ 1 → ⊥) → (get_or bs 0 0 ≡ 2 → ⊥) → (get_or bs 0 0 ≡ 3 → ⊥)
    → (get_or bs 0 0 ≡ 4 → ⊥) → (get_or bs 0 0 ≡ 5 → ⊥) → NoRecord bs
no_code bs n1 n2 n3 n4 n5 q rest a-begin = n1 refl
no_code bs n1 n2 n3 n4 n5 q rest an-end = n2 refl
no_code bs n1 n2 n3 n4 n5 q rest an-ask = n3 refl
no_code bs n1 n2 n3 n4 n5 q rest a-change = n4 refl
no_code bs n1 n2 n3 n4 n5 q rest a-bypass = n5 refl

-- 01 slot role
pub begin-whole : (bs : List ℕ) → get_or bs 0 0 ≡ 1 → 3 ≤ length bs → IsRecord bs (begin (get_or bs 1 0) (get_or bs 2 0)) (drop 3 bs)
begin-whole [] c h = absurd (omega arith)
begin-whole (x ∷ []) c h = absurd (omega arith)
begin-whole (x ∷ y ∷ []) c h = absurd (omega arith)
begin-whole (x ∷ y ∷ z ∷ r) c h = rw c a-begin

pub begin-cut : (bs : List ℕ) → get_or bs 0 0 ≡ 1 → length bs < 3 → NoRecord bs
begin-cut bs c h q rest a-begin = omega arith
begin-cut bs c h q rest an-end = omega arith
begin-cut bs c h q rest an-ask = omega arith
begin-cut bs c h q rest a-change = omega arith
begin-cut bs c h q rest a-bypass = omega arith

-- 02 slot
pub end_whole : (bs : List ℕ) → get_or bs 0 0 ≡ 2 → 2 ≤ length bs → IsRecord bs (end (get_or bs 1 0)) (drop 2 bs)
end_whole [] c h = absurd (omega arith)
end_whole (x ∷ []) c h = absurd (omega arith)
end_whole (x ∷ y ∷ r) c h = rw c an-end

pub end-cut : (bs : List ℕ) → get_or bs 0 0 ≡ 2 → length bs < 2 → NoRecord bs
end-cut bs c h q rest a-begin = omega arith
end-cut bs c h q rest an-end = omega arith
end-cut bs c h q rest an-ask = omega arith
end-cut bs c h q rest a-change = omega arith
end-cut bs c h q rest a-bypass = omega arith

-- 03 slot file mode
pub ask-whole : (bs : List ℕ) → get_or bs 0 0 ≡ 3 → 4 ≤ length bs → IsRecord bs (ask (get_or bs 1 0) (get_or bs 2 0) (get_or bs 3 0)) (drop 4 bs)
ask-whole [] c h = absurd (omega arith)
ask-whole (x ∷ []) c h = absurd (omega arith)
ask-whole (x ∷ y ∷ []) c h = absurd (omega arith)
ask-whole (x ∷ y ∷ z ∷ []) c h = absurd (omega arith)
ask-whole (x ∷ y ∷ z ∷ w ∷ r) c h = rw c an-ask

pub ask-cut : (bs : List ℕ) → get_or bs 0 0 ≡ 3 → length bs < 4 → NoRecord bs
ask-cut bs c h q rest a-begin = omega arith
ask-cut bs c h q rest an-end = omega arith
ask-cut bs c h q rest an-ask = omega arith
ask-cut bs c h q rest a-change = omega arith
ask-cut bs c h q rest a-bypass = omega arith

-- 04 or 05 slot file mode, length byte and bytes, twice
either : (code : ℕ) → 3 < code → code < 6 → (slot file mode : ℕ) (x y rest : List ℕ)
    → IsRecord (code ∷ slot ∷ file ∷ mode ∷ (expression_bytes x ++ (expression_bytes y ++ rest))) (store_of code slot file mode x y) rest
either code low high slot file mode x y rest = go (ℕ_discrete code 4)
  where
    go : Dec (code ≡ 4) → IsRecord (code ∷ slot ∷ file ∷ mode ∷ (expression_bytes x ++ (expression_bytes y ++ rest))) (store_of code slot file mode x y) rest
    go (yes e) = rw e a-change
    go (no n) = let e : code ≡ 5 = omega arith in rw e a-bypass

-- so they stand one after the other
two-parts : (bs : List ℕ) → 5 ≤ length bs → second_at bs < length bs → end_at bs ≤ length bs
    → drop 4 bs ≡ expression_bytes (first_of bs) ++ (expression_bytes (second_of bs) ++ drop (end_at bs) bs)
two-parts bs h l m =
    let first : length (first_of bs) ≡ get_or bs 4 0 = length-take-le (get_or bs 4 0) (drop 5 bs) (omega (arith, length-drop 5 bs)) in
    let second : length (second_of bs) ≡ get_or bs (second_at bs) 0 =
    length-take-le (get_or bs (second_at bs) 0) (drop (second_at bs + 1) bs) (omega (arith, length-drop (second_at bs + 1) bs)) in
    let a : drop 4 bs ≡ get_or bs 4 0 ∷ drop 5 bs = drop-cons bs 4 0 (omega arith) in
    let b : drop 5 bs ≡ first_of bs ++ drop (second_at bs) bs =
    sym (take-append-drop (get_or bs 4 0) (drop 5 bs)) ∙ ap (λ (l : List ℕ). first_of bs ++ l) (drop-drop (get_or bs 4 0) 5 bs) in
    let c : drop (second_at bs) bs ≡ get_or bs (second_at bs) 0 ∷ drop (suc (second_at bs)) bs = drop-cons bs (second_at bs) 0 l in
    let one : suc (second_at bs) ≡ second_at bs + 1 = omega arith in
    let past = drop-drop (get_or bs (second_at bs) 0) (second_at bs + 1) bs in
    let d : drop (second_at bs + 1) bs ≡ second_of bs ++ drop (end_at bs) bs =
    sym (take-append-drop (get_or bs (second_at bs) 0) (drop (second_at bs + 1) bs)) ∙ ap (λ (l : List ℕ). second_of bs ++ l) past in
    let both = c ∙ ap (λ (k : ℕ). get_or bs (second_at bs) 0 ∷ drop k bs) one ∙ ap (λ (l : List ℕ). get_or bs (second_at bs) 0 ∷ l) d in
    a ∙ ap (λ (l : List ℕ). get_or bs 4 0 ∷ l) b
    ∙ ap (λ (l : List ℕ). get_or bs 4 0 ∷ (first_of bs ++ l)) both
    ∙ ap (λ (k : ℕ). k ∷ (first_of bs ++ (get_or bs (second_at bs) 0 ∷ (second_of bs ++ drop (end_at bs) bs)))) (sym first)
    ∙ ap (λ (k : ℕ). length (first_of bs) ∷ (first_of bs ++ (k ∷ (second_of bs ++ drop (end_at bs) bs)))) (sym second)

four-on : (bs : List ℕ) → 4 ≤ length bs → bs ≡ get_or bs 0 0 ∷ get_or bs 1 0 ∷ get_or bs 2 0 ∷ get_or bs 3 0 ∷ drop 4 bs
four-on [] h = absurd (omega arith)
four-on (x ∷ []) h = absurd (omega arith)
four-on (x ∷ y ∷ []) h = absurd (omega arith)
four-on (x ∷ y ∷ z ∷ []) h = absurd (omega arith)
four-on (x ∷ y ∷ z ∷ w ∷ r) h = refl

-- with the two expressions at hand
module _ (bs x y left : List ℕ) (h : 4 ≤ length bs) (e : drop 4 bs ≡ expression_bytes x ++ (expression_bytes y ++ left)) where
  coded : (code : ℕ) → get_or bs 0 0 ≡ code
      → bs ≡ code ∷ get_or bs 1 0 ∷ get_or bs 2 0 ∷ get_or bs 3 0 ∷ (expression_bytes x ++ (expression_bytes y ++ left))
  coded code c = four-on bs h ∙ ap₂ (λ (k : ℕ) (l : List ℕ). k ∷ get_or bs 1 0 ∷ get_or bs 2 0 ∷ get_or bs 3 0 ∷ l) c e

  pub change-whole : get_or bs 0 0 ≡ 4 → IsRecord bs (change (get_or bs 1 0) (get_or bs 2 0) (get_or bs 3 0) x y) left
  change-whole c =
      subst (λ (l : List ℕ). IsRecord l (change (get_or bs 1 0) (get_or bs 2 0) (get_or bs 3 0) x y) left) (sym (coded 4 c)) a-change

  pub bypass-whole : get_or bs 0 0 ≡ 5 → IsRecord bs (bypass (get_or bs 1 0) (get_or bs 2 0) (get_or bs 3 0) x y) left
  bypass-whole c =
      subst (λ (l : List ℕ). IsRecord l (bypass (get_or bs 1 0) (get_or bs 2 0) (get_or bs 3 0) x y) left) (sym (coded 5 c)) a-bypass

module _ (bs : List ℕ) (h : 5 ≤ length bs) (l : second_at bs < length bs) (m : end_at bs ≤ length bs) where
  written : (code : ℕ) → get_or bs 0 0 ≡ code
      → bs ≡ code ∷ get_or bs 1 0 ∷ get_or bs 2 0 ∷ get_or bs 3 0 ∷ (expression_bytes (first_of bs) ++ (expression_bytes (second_of bs) ++ drop (end_at bs) bs))
  written code c =
      four-on bs (omega arith) ∙ ap (λ (x : ℕ). x ∷ get_or bs 1 0 ∷ get_or bs 2 0 ∷ get_or bs 3 0 ∷ drop 4 bs) c
      ∙ ap (λ (x : List ℕ). code ∷ get_or bs 1 0 ∷ get_or bs 2 0 ∷ get_or bs 3 0 ∷ x) (two-parts bs h l m)

  pub store-whole : (code : ℕ) → get_or bs 0 0 ≡ code → 3 < code → code < 6 → IsRecord bs (store_in code bs) (drop (end_at bs) bs)
  store-whole code c low high =
      subst (λ (x : List ℕ). IsRecord x (store_in code bs) (drop (end_at bs) bs)) (sym (written code c))
      (either code low high (get_or bs 1 0) (get_or bs 2 0) (get_or bs 3 0) (first_of bs) (second_of bs) (drop (end_at bs) bs))

-- the length byte of the second expression
pub second-length : (c slot file mode : ℕ) (x y rest bs : List ℕ) → bs ≡ c ∷ slot ∷ file ∷ mode ∷ (expression_bytes x ++ (expression_bytes y ++ rest))
    → get_or bs (second_at bs) 0 ≡ length y
second-length c slot file mode x y rest bs e =
    ap (λ (k : ℕ). get_or bs (5 + k) 0) (ap (λ (l : List ℕ). get_or l 4 0) e)
    ∙ sym (get_or-drop 5 bs (length x) 0) ∙ ap (λ (l : List ℕ). get_or (drop 5 l) (length x) 0) e ∙ get_or-append_seam x (length y) (y ++ rest) 0

stored : (c slot file mode : ℕ) (x y rest bs : List ℕ) → bs ≡ c ∷ slot ∷ file ∷ mode ∷ (expression_bytes x ++ (expression_bytes y ++ rest)) → Stored bs
stored c slot file mode x y rest bs e =
    let n : length bs ≡ 6 + length x + length y + length rest = ap length e ∙ simp (length-append) (omega arith) in
    let a : get_or bs 4 0 ≡ length x = ap (λ (l : List ℕ). get_or l 4 0) e in
    let d : get_or bs (second_at bs) 0 ≡ length y = second-length c slot file mode x y rest bs e in
    record { first = omega arith; second = omega arith; all = omega arith }

pub stored_cut : (bs : List ℕ) → 3 < get_or bs 0 0 → (Stored bs → ⊥) → NoRecord bs
stored_cut bs h n q rest a-begin = omega arith
stored_cut bs h n q rest an-end = omega arith
stored_cut bs h n q rest an-ask = omega arith
stored_cut bs h n q rest (a-change {slot} {file} {mode} {x} {y}) = n (stored 4 slot file mode x y rest bs refl)
stored_cut bs h n q rest (a-bypass {slot} {file} {mode} {x} {y}) = n (stored 5 slot file mode x y rest bs refl)

-- what comes after a record is the end of its bytes
record-front : {bs rest : List ℕ} {q : Request} → IsRecord bs q rest → (front : List ℕ) × (0 < length front) × (bs ≡ front ++ rest)
record-front (a-begin {slot} {role}) = (1 ∷ slot ∷ role ∷ [], omega arith, refl)
record-front (an-end {slot}) = (2 ∷ slot ∷ [], omega arith, refl)
record-front (an-ask {slot} {file} {mode}) = (3 ∷ slot ∷ file ∷ mode ∷ [], omega arith, refl)
record-front {rest = rest} (a-change {slot} {file} {mode} {x} {y}) =
    let both = sym (append_assoc (expression_bytes x) (expression_bytes y) rest) in (
      4 ∷ slot ∷ file ∷ mode ∷ (expression_bytes x ++ expression_bytes y),
      omega arith,
      ap (λ (l : List ℕ). 4 ∷ slot ∷ file ∷ mode ∷ l) both,
    )
record-front {rest = rest} (a-bypass {slot} {file} {mode} {x} {y}) =
    let both = sym (append_assoc (expression_bytes x) (expression_bytes y) rest) in (
      5 ∷ slot ∷ file ∷ mode ∷ (expression_bytes x ++ expression_bytes y),
      omega arith,
      ap (λ (l : List ℕ). 5 ∷ slot ∷ file ∷ mode ∷ l) both,
    )

pub record-left : {bs rest : List ℕ} {q : Request} → IsRecord bs q rest → (length rest < length bs) × (rest ≡ drop (length bs - length rest) bs)
record-left {bs} {rest} i =
    let w = record-front i in
    let long = ap length w.2 ∙ length-append w.0 rest in
    let k : length bs - length rest ≡ length w.0 = omega arith in
    (omega (arith, w.1), sym (ap₂ drop k w.2 ∙ drop-append_seam w.0 rest))
