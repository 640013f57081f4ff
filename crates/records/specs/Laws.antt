-- One reading; a record stays one whatever follows; how long one can be. Assumes nothing.
use Rattle.std.specs.Prelude.{◌≡◌, refl, Option, Some, None, cond, ℕ, suc, ◌+◌, ◌<◌, ◌≤◌, length, get_or, take, drop, eqb}
use Rattle.std.proofs.Common.{sym, ap, ap₂, ◌∙◌, subst, arith, length-append, length-drop, take-append-drop, take_at, drop_at, length-take-le}
use Rattle.std.proofs.Common.{get_or-drop}
use mathlib.Core.List.{List, [], ◌∷◌, ◌++◌, map, append_assoc, head-eq_of_cons-eq, tail-eq_of_cons-eq}
use Rattle.records.specs.declared.Record.{Record}
use Rattle.records.specs.declared.Shape.{Shape}
use Rattle.records.specs.declared.Shape.TheVariants.{Byte, Short, Long, Quad}
use Rattle.records.specs.Records.{Listed, code-01, code-02, code-03, code-04, code-05, code-06, code-10}
use Rattle.records.specs.Records.{longest_in_table, lead, size, Field, Fields, none, next, Recorded, spans, filled_up, Stands, PartedIs}

-- numbers of a list that are bytes; the sum of a list
abbrev pub AllBytes : List ℕ → Type 0
AllBytes l = (k : ℕ) → get_or l k 0 < 256

abbrev sum : List ℕ → ℕ
sum [] = 0
sum (x ∷ l) = x + sum l

-- what a field at the front of l must be, by its number
abbrev pub size_in : Shape → List ℕ → ℕ
size_in s l = size s (take (lead s) l)

abbrev pub field_here : Shape → List ℕ → List ℕ
field_here s l = take (size_in s l) (drop (lead s) l)

abbrev pub rest_here : Shape → List ℕ → List ℕ
rest_here s l = drop (size_in s l) (drop (lead s) l)

module _ {s : Shape} {l f rest : List ℕ} (w : Field s l f rest) where
  number_is : take (lead s) l ≡ w.number
  number_is = ap (take (lead s)) w.is ∙ take_at w.number (f ++ rest) (lead s) w.leads

  pub field-size : length f ≡ size_in s l
  field-size = w.sized ∙ ap (size s) (sym number_is)

  behind : drop (lead s) l ≡ f ++ rest
  behind = ap (drop (lead s)) w.is ∙ drop_at w.number (f ++ rest) (lead s) w.leads

  pub field_in : f ≡ field_here s l
  field_in = sym (ap (take (size_in s l)) behind ∙ take_at f rest (size_in s l) field-size)

  pub rest_in : rest ≡ rest_here s l
  rest_in = sym (ap (drop (size_in s l)) behind ∙ drop_at f rest (size_in s l) field-size)

  pub field-length : length l ≡ lead s + (size_in s l + length rest)
  field-length = omega (arith, ap length w.is, length-append w.number (f ++ rest), length-append f rest, w.leads, field-size)

  -- whatever follows
  pub field-onward : (more : List ℕ) → Field s (l ++ more) f (rest ++ more)
  field-onward more =
      let e = append_assoc w.number (f ++ rest) more ∙ ap (λ (r : List ℕ). w.number ++ r) (append_assoc f rest more) in
      record { number = w.number; leads = w.leads; sized = w.sized; is = ap (λ (r : List ℕ). r ++ more) w.is ∙ e }

-- where there are as many bytes as the number says, there is a field
pub field-there : (s : Shape) (l : List ℕ) → lead s + size_in s l ≤ length l → Field s l (field_here s l) (rest_here s l)
field-there s l h = record {
  number = take (lead s) l;
  leads = length-take-le (lead s) l (omega arith);
  sized = length-take-le (size_in s l) (drop (lead s) l) (omega (arith, length-drop (lead s) l));
  is = sym (ap (λ (r : List ℕ). take (lead s) l ++ r) (take-append-drop (size_in s l) (drop (lead s) l)) ∙ take-append-drop (lead s) l);
}

-- one reading
pub one_field : {s : Shape} {l f g r q : List ℕ} → Field s l f r → Field s l g q → (f ≡ g) × (r ≡ q)
one_field w v = (field_in w ∙ sym (field_in v), rest_in w ∙ sym (rest_in v))

pub one-fields : {ss : List Shape} {l r q : List ℕ} {fs gs : List (List ℕ)} → Fields ss l fs r → Fields ss l gs q → (fs ≡ gs) × (r ≡ q)
one-fields none none = (refl, refl)
one-fields (next {ss = ss} {fs = fs} a x) (next {f = g} {rest = q} {fs = gs} b y) =
    let o = one_field a b in
    let t = one-fields x (subst (λ (l : List ℕ). Fields ss l gs q) (sym o.1) y) in
    (ap (λ (h : List ℕ). h ∷ fs) o.0 ∙ ap (λ (hs : List (List ℕ)). g ∷ hs) t.0, t.1)

-- a code has one line in the table
abbrev shapes_for : ℕ → List Shape
shapes_for code =
    cond (eqb code 1) (Byte ∷ Byte ∷ [])
    (cond (eqb code 2) (Byte ∷ [])
    (cond (eqb code 3) (Byte ∷ Byte ∷ Byte ∷ [])
    (cond (eqb code 6) (Long ∷ [])
    (cond (eqb code 16) (Short ∷ [])
    (Byte ∷ Byte ∷ Byte ∷ Short ∷ Short ∷ [])))))

line-is : {code : ℕ} {ss : List Shape} → Listed code ss → ss ≡ shapes_for code
line-is code-01 = refl
line-is code-02 = refl
line-is code-03 = refl
line-is code-04 = refl
line-is code-05 = refl
line-is code-06 = refl
line-is code-10 = refl

pub one_line : {code : ℕ} {ss tt : List Shape} → Listed code ss → Listed code tt → ss ≡ tt
one_line a b = line-is a ∙ sym (line-is b)

-- and bytes are one record
pub one-record : {bs r q : List ℕ} {c d : ℕ} {fs gs : List (List ℕ)} → Recorded bs c fs r → Recorded bs d gs q → (c ≡ d) × (fs ≡ gs) × (r ≡ q)
one-record {r = r} {fs = fs} w v =
    let e = sym w.is ∙ v.is in
    let c = head-eq_of_cons-eq e in
    let listed = subst (λ (n : ℕ). Listed n v.shapes) (sym c) v.listed in
    let first = subst (λ (ss : List Shape). Fields ss w.body fs r) (one_line w.listed listed) w.fields in
    let second = subst (λ (l : List ℕ). Fields v.shapes l fs r) (tail-eq_of_cons-eq e) first in
    let o = one-fields second v.fields in
    (c, o.0, o.1)

-- a record stays one, with the same fields, whatever follows
fields-onward : {ss : List Shape} {l rest : List ℕ} {fs : List (List ℕ)} (more : List ℕ) → Fields ss l fs rest → Fields ss (l ++ more) fs (rest ++ more)
fields-onward more none = none
fields-onward more (next a x) = next (field-onward a more) (fields-onward more x)

pub record-onward : {bs rest : List ℕ} {code : ℕ} {fs : List (List ℕ)} (more : List ℕ) → Recorded bs code fs rest → Recorded (bs ++ more) code fs (rest ++ more)
record-onward more w = record {
  shapes = w.shapes;
  listed = w.listed;
  body = w.body ++ more;
  is = ap (λ (l : List ℕ). l ++ more) w.is;
  fields = fields-onward more w.fields;
}

-- how many bytes a field takes with its number, where these are bytes
abbrev most : Shape → ℕ
most Byte = 1
most Short = 1 + 255
most Long = 2 + 65535
most Quad = 4

number-most : (s : Shape) (l : List ℕ) → AllBytes l → lead s + size_in s l ≤ most s
number-most Byte l h = omega arith
number-most Short [] h = omega arith
number-most Short (x ∷ l) h = omega (arith, h 0)
number-most Long [] h = omega arith
number-most Long (x ∷ []) h = omega (arith, h 0)
number-most Long (x ∷ y ∷ l) h = omega (arith, h 0, h 1)
number-most Quad l h = omega arith

bytes-behind : (l : List ℕ) (n : ℕ) → AllBytes l → AllBytes (drop n l)
bytes-behind l n h k = subst (λ (x : ℕ). x < 256) (sym (get_or-drop n l k 0)) (h (n + k))

module _ {s : Shape} {l f rest : List ℕ} (w : Field s l f rest) (h : AllBytes l) where
  field-most : length l ≤ most s + length rest
  field-most = omega (arith, field-length w, number-most s l h)

  rest-bytes : AllBytes rest
  rest-bytes = subst AllBytes (sym (rest_in w)) (bytes-behind (drop (lead s) l) (size_in s l) (bytes-behind l (lead s) h))

pub fields-most : {ss : List Shape} {l rest : List ℕ} {fs : List (List ℕ)} → Fields ss l fs rest → AllBytes l → length l ≤ sum (map most ss) + length rest
fields-most none h = omega arith
fields-most (next a x) h = omega (arith, field-most a h, fields-most x (rest-bytes a h))

line-most : {code : ℕ} {ss : List Shape} → Listed code ss → 1 + sum (map most ss) ≤ longest_in_table
line-most code-01 = omega arith
line-most code-02 = omega arith
line-most code-03 = omega arith
line-most code-04 = omega arith
line-most code-05 = omega arith
line-most code-06 = omega arith
line-most code-10 = omega arith

-- no record of bytes is longer than the longest
pub record-most : {bs rest : List ℕ} {code : ℕ} {fs : List (List ℕ)} → Recorded bs code fs rest → AllBytes bs → length bs ≤ longest_in_table + length rest
record-most w h =
    let body : AllBytes w.body = λ k. subst (λ (l : List ℕ). get_or l (suc k) 0 < 256) w.is (h (suc k)) in
    omega (arith, ap length w.is, fields-most w.fields body, line-most w.listed)

pub longest-record-is : longest_in_table ≡ 65538
longest-record-is = refl

-- the bytes of a record at the front of others are one alone
pub record FrontRecord (bs : List ℕ) (code : ℕ) (fs : List (List ℕ)) (rest : List ℕ) : Type 0 where
  pub front : List ℕ
  pub is : bs ≡ front ++ rest
  pub recorded : Recorded front code fs []

fields-alone : {ss : List Shape} {l rest : List ℕ} {fs : List (List ℕ)} → Fields ss l fs rest → (u : List ℕ) × (l ≡ u ++ rest) × Fields ss u fs []
fields-alone none = ([], refl, none)
fields-alone {rest = rest} (next {f = f} a x) =
    let v = fields-alone x in
    let number = a.number in
    let u = v.0 in
    let e = a.is ∙ ap (λ (m : List ℕ). number ++ (f ++ m)) v.1 in
    let whole = ap (λ (m : List ℕ). number ++ m) (sym (append_assoc f u rest)) ∙ sym (append_assoc number (f ++ u) rest) in
    (number ++ (f ++ u), e ∙ whole, next (record { number = number; leads = a.leads; sized = a.sized; is = refl }) v.2)

pub record-alone : {bs rest : List ℕ} {code : ℕ} {fs : List (List ℕ)} → Recorded bs code fs rest → FrontRecord bs code fs rest
record-alone {code = code} w =
    let v = fields-alone w.fields in
    let body = v.0 in
    record {
      front = code ∷ body;
      is = w.is ∙ ap (λ (l : List ℕ). code ∷ l) v.1;
      recorded = record { shapes = w.shapes; listed = w.listed; body = body; is = refl; fields = v.2 };
    }

-- so many bytes as the longest record has decide whether one stands at their front, whatever follows them
module _ (s : Shape) (l more : List ℕ) (h : AllBytes l) (enough : most s ≤ length l) where
  pub field-there-already : {f mid : List ℕ} → Field s (l ++ more) f mid → Field s l f (rest_here s l) × (mid ≡ rest_here s l ++ more)
  field-there-already w =
      let here = field-there s l (omega (arith, number-most s l h)) in
      let o = one_field w (field-onward here more) in
      (subst (λ (f : List ℕ). Field s l f (rest_here s l)) (sym o.0) here, o.1)

fields-there-already : (ss : List Shape) (l more : List ℕ) {rest : List ℕ} {fs : List (List ℕ)} → AllBytes l → sum (map most ss) ≤ length l
    → Fields ss (l ++ more) fs rest → (r : List ℕ) × Fields ss l fs r
fields-there-already [] l more h enough none = (l, none)
fields-there-already (s ∷ ss) l more {rest} h enough (next {fs = fs} a x) =
    let here = field-there-already s l more h (omega arith) a in
    let left = rest_here s l in
    let v = fields-there-already ss left more (rest-bytes here.0 h) (omega (arith, field-most here.0 h))
    (subst (λ (m : List ℕ). Fields ss m fs rest) here.1 x) in
    (v.0, next here.0 v.1)

pub record-decided : (bs more : List ℕ) {rest : List ℕ} {code : ℕ} {fs : List (List ℕ)} → AllBytes bs → longest_in_table ≤ length bs
    → Recorded (bs ++ more) code fs rest → (r : List ℕ) × Recorded bs code fs r
record-decided [] more h enough w = absurd (omega arith)
record-decided (b ∷ l) more {rest} {code} {fs} h enough w =
    let body = tail-eq_of_cons-eq w.is in
    let there = subst (λ (m : List ℕ). Fields w.shapes m fs rest) (sym body) w.fields in
    let v = fields-there-already w.shapes l more (λ k. h (suc k)) (omega (arith, line-most w.listed)) there in
    let code_is = ap (λ (c : ℕ). c ∷ l) (head-eq_of_cons-eq w.is) in
    (v.0, record { shapes = w.shapes; listed = w.listed; body = l; is = code_is; fields = v.1 })

-- reading the front of any bytes tells one thing
stands_one : {bs : List ℕ} {r q : Record} → Stands bs r → Stands bs q → r ≡ q
stands_one {r = r} {q = q} w v =
    let o = one-record w.recorded v.recorded in
    let code = o.0 in
    let listed = subst (λ (c : ℕ). Listed c v.recorded.shapes) (sym code) v.recorded.listed in
    let shapes = one_line w.recorded.listed listed in
    let fields = w.placed ∙ ap filled_up (ap₂ (spans 1) shapes o.1) ∙ sym v.placed in
    let end : r.end ≡ q.end = omega (arith, w.ends, v.ends, ap length o.2) in
    λ j. record { code = code j; fields = fields j; end = end j }

pub one-parted : (bs : List ℕ) (r q : Option Record) → PartedIs bs r → PartedIs bs q → r ≡ q
one-parted bs (Some r) (Some q) w v = ap Some (stands_one w v)
one-parted bs (Some r) None w n = absurd (n _ _ _ w.recorded)
one-parted bs None (Some q) n v = absurd (n _ _ _ v.recorded)
one-parted bs None None n m = refl
