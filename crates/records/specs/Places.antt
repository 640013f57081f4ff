-- What stands at the places of a record's fields are the fields. Assumes nothing.
use Rattle.std.specs.Prelude.{◌≡◌, refl, Option, Some, None, ℕ, zero, suc, ◌+◌, ◌-◌, ◌<◌, ◌≤◌, length, get_or, take, drop, set, replicate}
use Rattle.std.proofs.Common.{sym, ap, ap₂, ◌∙◌, subst, arith, add-one, length-append, length-drop, drop_of_length-le, drop-drop}
use Rattle.std.proofs.Common.{drop-cons, get_or-drop}
use mathlib.Core.List.{List, [], ◌∷◌, ◌++◌, append-nil, append_assoc, head-eq_of_cons-eq, tail-eq_of_cons-eq}
use Rattle.std.proofs.lemmas.List.{set_at}
use Rattle.fields.specs.Fronts.{nil-of, cons-nil}
use Rattle.records.specs.declared.Span.{Span}
use Rattle.records.specs.declared.Record.{Record}
use Rattle.records.specs.declared.Shape.{Shape}
use Rattle.records.specs.declared.Shape.TheVariants.{Byte, Short, Long, Quad}
use Rattle.records.specs.Records.{Listed, code-01, code-02, code-03, code-04, code-05, code-06, code-10, most_fields}
use Rattle.records.specs.Records.{lead, size, Field, Fields, none, next, spans, no_span, filled_up, Stands, Unrecorded, PartedIs, AloneIs}
use Rattle.records.specs.Walk.{spanned, FieldThere, WalkThere, WalkIs}
use Rattle.records.specs.Laws.{size_in, field_here, rest_here, field-size, field_in, rest_in, field-length, field-there, one_field, one_line, one-record}

-- the bytes of its number say how long a field is
pub size-read : (s : Shape) (l : List ℕ) → size s (get_or l 0 0 ∷ get_or l 1 0 ∷ []) ≡ size_in s l
size-read Byte l = refl
size-read Short [] = refl
size-read Short (x ∷ l) = refl
size-read Long [] = refl
size-read Long (x ∷ []) = refl
size-read Long (x ∷ y ∷ l) = refl
size-read Quad l = refl

module _ (s : Shape) (bs : List ℕ) (at : ℕ) (h : at ≤ length bs) where
  left : length (drop at bs) ≡ length bs - at
  left = length-drop at bs

  -- read at a place
  pub size-at : size s (get_or bs at 0 ∷ get_or bs (at + 1) 0 ∷ []) ≡ size_in s (drop at bs)
  size-at =
      let zero-on : at ≡ at + 0 = omega arith in
      let first = ap (λ (k : ℕ). get_or bs k 0) zero-on ∙ sym (get_or-drop at bs 0 0) in
      let second = sym (get_or-drop at bs 1 0) in
      ap₂ (λ (x y : ℕ). size s (x ∷ y ∷ [])) first second ∙ size-read s (drop at bs)

  pub no_number : length bs - at < lead s → (f rest : List ℕ) → Field s (drop at bs) f rest → ⊥
  no_number k f rest w = omega (arith, left, field-length w)

  pub no_field : (n : ℕ) → n ≡ size_in s (drop at bs) → length bs - (at + lead s) < n → (f rest : List ℕ) → Field s (drop at bs) f rest → ⊥
  no_field n e k f rest w = omega (arith, left, field-length w)

  pub a-field : (n : ℕ) → n ≡ size_in s (drop at bs) → at + lead s + n ≤ length bs → FieldThere s bs at (record { from = at + lead s; to = at + lead s + n })
  a-field n e k =
      let w = field-there s (drop at bs) (omega (arith, left)) in
      let m : at + lead s + n - (at + lead s) ≡ n = omega arith in
      let front : field_here s (drop at bs) ≡ take (at + lead s + n - (at + lead s)) (drop (at + lead s) bs) =
      ap (λ (k : ℕ). take k (drop (lead s) (drop at bs))) (sym e ∙ sym m) ∙ ap (take (at + lead s + n - (at + lead s))) (drop-drop (lead s) at bs) in
      let back : rest_here s (drop at bs) ≡ drop (at + lead s + n) bs =
      ap (λ (k : ℕ). drop k (drop (lead s) (drop at bs))) (sym e) ∙ ap (drop n) (drop-drop (lead s) at bs) ∙ drop-drop n (at + lead s) bs in
      let field = subst (λ (r : List ℕ). Field s (drop at bs) (field_here s (drop at bs)) r) back w in
      record {
        field = subst (λ (f : List ℕ). Field s (drop at bs) f (drop (at + lead s + n) bs)) front field;
        from_is = refl;
        to_is = ap (λ (k : ℕ). at + lead s + k) (e ∙ sym (field-size w) ∙ ap length front);
        ends = k;
      }

-- a code without a line of the table
pub unlisted : (code : ℕ) → (code ≡ 1 → ⊥) → (code ≡ 2 → ⊥) → (code ≡ 3 → ⊥) → (code ≡ 4 → ⊥) → (code ≡ 5 → ⊥) → (code ≡ 6 → ⊥) → (code ≡ 16 → ⊥)
    → (ss : List Shape) → Listed code ss → ⊥
unlisted code n1 n2 n3 n4 n5 n6 n16 ss code-01 = n1 refl
unlisted code n1 n2 n3 n4 n5 n6 n16 ss code-02 = n2 refl
unlisted code n1 n2 n3 n4 n5 n6 n16 ss code-03 = n3 refl
unlisted code n1 n2 n3 n4 n5 n6 n16 ss code-04 = n4 refl
unlisted code n1 n2 n3 n4 n5 n6 n16 ss code-05 = n5 refl
unlisted code n1 n2 n3 n4 n5 n6 n16 ss code-06 = n6 refl
unlisted code n1 n2 n3 n4 n5 n6 n16 ss code-10 = n16 refl

-- what the first fields were, and where they stand, while the fields are gone through
pub record Walked (bs : List ℕ) (ss : List Shape) (i at : ℕ) (fields : List Span) : Type 0 where
  pub done : List (List ℕ)
  pub put : List Span
  pub count : length put ≡ i
  pub on : (gs : List (List ℕ)) (rest : List ℕ) → Fields (drop i ss) (drop at bs) gs rest → Fields ss (drop 1 bs) (done ++ gs) rest
  pub back : (fs : List (List ℕ)) (rest : List ℕ) → Fields ss (drop 1 bs) fs rest → (gs : List (List ℕ)) × Fields (drop i ss) (drop at bs) gs rest
  pub stand : (gs : List (List ℕ)) → spans 1 ss (done ++ gs) ≡ put ++ spans at (drop i ss) gs
  pub filled : fields ≡ put ++ replicate (most_fields - i) no_span
  pub within-bytes : at ≤ length bs

pub walk_begins : (bs : List ℕ) (ss : List Shape) → 0 < length bs → Walked bs ss 0 1 (replicate most_fields no_span)
walk_begins bs ss h = record {
  done = [];
  put = [];
  count = refl;
  on = λ gs rest w. w;
  back = λ fs rest w. (fs, w);
  stand = λ gs. refl;
  filled = refl;
  within-bytes = omega arith;
}

-- the next of the shapes
module _ (bs : List ℕ) (ss : List Shape) (i at : ℕ) (fields : List Span) (w : Walked bs ss i at fields) (s : Shape) (e : drop i ss ≡ s ∷ drop (i + 1) ss) where
  -- has no field there
  pub walk-stops : ((f rest : List ℕ) → Field s (drop at bs) f rest → ⊥) → (fs : List (List ℕ)) (rest : List ℕ) → Fields ss (drop 1 bs) fs rest → ⊥
  walk-stops n fs rest v = let b = w.back fs rest v in go b.0 (subst (λ (tt : List Shape). Fields tt (drop at bs) b.0 rest) e b.1)
    where
      go : (gs : List (List ℕ)) → Fields (s ∷ drop (i + 1) ss) (drop at bs) gs rest → ⊥
      go gs (next {f = f} {mid = m} a x) = n f m a

  -- has one
  module _ (p : Span) (t : FieldThere s bs at p) (small : i < most_fields) where
    p-is : p ≡ record { from = at + lead s; to = at + lead s + length (spanned bs p) }
    p-is =
        let low = t.from_is in
        let high : p.to ≡ at + lead s + length (spanned bs p) = t.to_is ∙ ap (λ (k : ℕ). k + length (spanned bs p)) low in
        λ j. record { from = low j; to = high j }

    here : (gs : List (List ℕ)) → spans at (drop i ss) (spanned bs p ∷ gs) ≡ p ∷ spans p.to (drop (i + 1) ss) gs
    here gs =
        ap (λ (tt : List Shape). spans at tt (spanned bs p ∷ gs)) e
        ∙ ap (λ (q : Span). q ∷ spans q.to (drop (i + 1) ss) gs) (sym p-is)

    onward : (gs : List (List ℕ)) (rest : List ℕ) → Fields (s ∷ drop (i + 1) ss) (drop at bs) gs rest
        → (hs : List (List ℕ)) × Fields (drop (i + 1) ss) (drop p.to bs) hs rest
    onward gs rest (next {fs = hs} a x) = (hs, subst (λ (l : List ℕ). Fields (drop (i + 1) ss) l hs rest) (one_field a t.field).1 x)

    room : replicate (most_fields - i) no_span ≡ no_span ∷ replicate (most_fields - (i + 1)) no_span
    room = let e : most_fields - i ≡ suc (most_fields - (i + 1)) = omega arith in ap (λ (k : ℕ). replicate k no_span) e

    pub walk-goes : Walked bs ss (i + 1) p.to (set fields i p)
    walk-goes = record {
      done = w.done ++ (spanned bs p ∷ []);
      put = w.put ++ (p ∷ []);
      count = simp length-append (omega (arith, w.count));
      on = λ gs rest v. subst (λ (fs : List (List ℕ)). Fields ss (drop 1 bs) fs rest) (sym (append_assoc w.done (spanned bs p ∷ []) gs))
          (w.on (spanned bs p ∷ gs) rest (subst (λ (tt : List Shape). Fields tt (drop at bs) (spanned bs p ∷ gs) rest) (sym e) (next t.field v)));
      back = λ fs rest v. let b = w.back fs rest v in onward b.0 rest (subst (λ (tt : List Shape). Fields tt (drop at bs) b.0 rest) e b.1);
      stand = λ gs.
          ap (spans 1 ss) (append_assoc w.done (spanned bs p ∷ []) gs) ∙ w.stand (spanned bs p ∷ gs)
          ∙ ap (λ (l : List Span). w.put ++ l) (here gs) ∙ sym (append_assoc w.put (p ∷ []) (spans p.to (drop (i + 1) ss) gs));
      filled =
          ap (λ (l : List Span). set l i p) (w.filled ∙ ap (λ (l : List Span). w.put ++ l) room)
          ∙ set_at w.put no_span (replicate (most_fields - (i + 1)) no_span) p i w.count
          ∙ sym (append_assoc w.put (p ∷ []) (replicate (most_fields - (i + 1)) no_span));
      within-bytes = t.ends;
    }

-- the last was gone through
pub walk_ends : (bs : List ℕ) (code : ℕ) (ss : List Shape) (i at : ℕ) (fields : List Span) → Walked bs ss i at fields → length ss ≤ i
    → WalkThere bs code ss (record { code = code; fields = fields; end = at })
walk_ends bs code ss i at fields w h =
    let e : drop i ss ≡ [] = drop_of_length-le ss h in
    let put : spans 1 ss (w.done ++ []) ≡ w.put = w.stand [] ∙ ap (λ (tt : List Shape). w.put ++ spans at tt []) e ∙ append-nil w.put in
    record {
      code_is = refl;
      fields = w.done ++ [];
      stand = w.on [] (drop at bs) (subst (λ (tt : List Shape). Fields tt (drop at bs) [] (drop at bs)) (sym e) none);
      placed = w.filled ∙ ap (λ (k : ℕ). w.put ++ replicate (most_fields - k) no_span) (sym w.count) ∙ ap filled_up (sym put);
      ends = w.within-bytes;
    }

-- the shapes, one by one
pub shape-next : (ss : List Shape) (i : ℕ) → i < length ss → drop i ss ≡ get_or ss i Byte ∷ drop (i + 1) ss
shape-next ss i h = drop-cons ss i Byte h ∙ ap (λ (j : ℕ). get_or ss i Byte ∷ drop j ss) (sym (add-one i))

-- the fields behind the code are a record
pub walk-stands : (b : ℕ) (l : List ℕ) (code : ℕ) (ss : List Shape) (r : Record) → code ≡ b → Listed code ss → WalkThere (b ∷ l) code ss r → Stands (b ∷ l) r
walk-stands b l code ss r e w v = record {
  fields = v.fields;
  rest = drop r.end (b ∷ l);
  recorded = record {
    shapes = ss;
    listed = subst (λ (c : ℕ). Listed c ss) (sym v.code_is) w;
    body = l;
    is = ap (λ (c : ℕ). c ∷ l) (sym (v.code_is ∙ e));
    fields = v.stand;
  };
  placed = v.placed;
  ends = omega (arith, length-drop r.end (b ∷ l), v.ends);
}

pub walk_none : (b : ℕ) (l : List ℕ) (code : ℕ) (ss : List Shape) → code ≡ b → Listed code ss → ((fs : List (List ℕ)) (rest : List ℕ) → Fields ss l fs rest → ⊥)
    → Unrecorded (b ∷ l)
walk_none b l code ss e w n c fs rest v =
    let same = e ∙ head-eq_of_cons-eq v.is in
    let line = one_line (subst (λ (k : ℕ). Listed k ss) same w) v.listed in
    let body = subst (λ (x : List ℕ). Fields v.shapes x fs rest) (sym (tail-eq_of_cons-eq v.is)) v.fields in
    n fs rest (subst (λ (tt : List Shape). Fields tt l fs rest) (sym line) body)

pub code-none : (b : ℕ) (l : List ℕ) (code : ℕ) → code ≡ b → ((ss : List Shape) → Listed code ss → ⊥) → Unrecorded (b ∷ l)
code-none b l code e n c fs rest v = n v.shapes (subst (λ (k : ℕ). Listed k v.shapes) (sym (e ∙ head-eq_of_cons-eq v.is)) v.listed)

pub empty-none : Unrecorded []
empty-none c fs rest v = cons-nil (sym v.is)

-- what reading the front tells, by the front
pub front-empty : (bs : List ℕ) → length bs ≡ 0 → Unrecorded bs
front-empty [] h = empty-none
front-empty (b ∷ l) h = absurd (omega arith)

pub front-unknown : (bs : List ℕ) → ((ss : List Shape) → Listed (get_or bs 0 0) ss → ⊥) → Unrecorded bs
front-unknown [] n = empty-none
front-unknown (b ∷ l) n = code-none b l b refl n

pub front-walked : (bs : List ℕ) (code : ℕ) (ss : List Shape) (r : Option Record) → 0 < length bs → code ≡ get_or bs 0 0 → Listed code ss
    → WalkIs bs code ss r → PartedIs bs r
front-walked [] code ss r h e w v = absurd (omega arith)
front-walked (b ∷ l) code ss (Some r) h e w v = walk-stands b l code ss r e w v
front-walked (b ∷ l) code ss None h e w n = walk_none b l code ss e w n

-- what stands where: the fields of a record, one by one, wherever they stand
pub record FieldsPlaced (bs : List ℕ) (fs : List (List ℕ)) (ps : List Span) : Type 0 where
  pub field : (i : ℕ) → get_or fs i [] ≡ spanned bs (get_or ps i no_span)
  pub order : (i : ℕ) → (get_or ps i no_span).from ≤ (get_or ps i no_span).to
  pub inside : (i : ℕ) → (get_or ps i no_span).to ≤ length bs

none-in-place : (bs : List ℕ) → FieldsPlaced bs [] []
none-in-place bs = record { field = λ i. refl; order = λ i. omega arith; inside = λ i. omega arith }

cons-in-place : (bs f : List ℕ) (fs : List (List ℕ)) (p : Span) (ps : List Span) → f ≡ spanned bs p → p.from ≤ p.to → p.to ≤ length bs
    → FieldsPlaced bs fs ps → FieldsPlaced bs (f ∷ fs) (p ∷ ps)
cons-in-place bs f fs p ps e h k w = record { field = field; order = order; inside = inside }
  where
    field : (i : ℕ) → get_or (f ∷ fs) i [] ≡ spanned bs (get_or (p ∷ ps) i no_span)
    field zero = e
    field (suc i) = w.field i

    order : (i : ℕ) → (get_or (p ∷ ps) i no_span).from ≤ (get_or (p ∷ ps) i no_span).to
    order zero = h
    order (suc i) = w.order i

    inside : (i : ℕ) → (get_or (p ∷ ps) i no_span).to ≤ length bs
    inside zero = k
    inside (suc i) = w.inside i

module _ (bs : List ℕ) where
  fields-in-place : (at : ℕ) (ss : List Shape) (l : List ℕ) (fs : List (List ℕ)) (rest : List ℕ) → at ≤ length bs → l ≡ drop at bs → Fields ss l fs rest
      → FieldsPlaced bs fs (spans at ss fs)
  fields-in-place at [] l fs rest h e none = none-in-place bs
  fields-in-place at (s ∷ ss) l fs rest h e (next {f = f} {mid = m} {fs = gs} a x) =
      let size = field-size a in
      let long = field-length a in
      let left = ap length e ∙ length-drop at bs in
      let count : at + lead s + length f - (at + lead s) ≡ size_in s l = omega arith in
      let behind : drop (lead s) l ≡ drop (at + lead s) bs = ap (drop (lead s)) e ∙ drop-drop (lead s) at bs in
      let front : f ≡ take (at + lead s + length f - (at + lead s)) (drop (at + lead s) bs) = field_in a ∙ ap₂ take (sym count) behind in
      let next-at : m ≡ drop (at + lead s + length f) bs = rest_in a ∙ ap₂ drop (sym size) behind ∙ drop-drop (length f) (at + lead s) bs in
      let rest-there = fields-in-place (at + lead s + length f) ss m gs rest (omega arith) next-at x in
      cons-in-place bs f gs (record { from = at + lead s; to = at + lead s + length f }) _ front (omega arith) (omega arith) rest-there

-- room that is not used has nothing
pub filled_at : (l : List Span) (k i : ℕ) → get_or (l ++ replicate k no_span) i no_span ≡ get_or l i no_span
filled_at [] zero i = refl
filled_at [] (suc k) zero = refl
filled_at [] (suc k) (suc i) = filled_at [] k i
filled_at (x ∷ l) k zero = refl
filled_at (x ∷ l) k (suc i) = filled_at l k i

-- the fields of a record that stands at the front, by the places that reading it tells
pub stands-in-place : (bs : List ℕ) (r : Record) (w : Stands bs r) → FieldsPlaced bs w.fields r.fields
stands-in-place bs r w =
    let v = w.recorded in
    let some : 1 ≤ length bs = omega (arith, ap length v.is) in
    let p = fields-in-place bs 1 v.shapes v.body w.fields w.rest some (sym (ap (drop 1) v.is)) v.fields in
    let ps = spans 1 v.shapes w.fields in
    let at : (i : ℕ) → get_or r.fields i no_span ≡ get_or ps i no_span =
    λ i. ap (λ (l : List Span). get_or l i no_span) w.placed ∙ filled_at ps (most_fields - length ps) i in
    record {
      field = λ i. p.field i ∙ ap (spanned bs) (sym (at i));
      order = λ i. subst (λ (q : Span). q.from ≤ q.to) (sym (at i)) (p.order i);
      inside = λ i. subst (λ (q : Span). q.to ≤ length bs) (sym (at i)) (p.inside i);
    }

-- nothing follows
pub stands-alone : (bs : List ℕ) (r : Record) (w : Stands bs r) → r.end ≡ length bs → w.rest ≡ []
stands-alone bs r w e = nil-of w.rest (omega (arith, w.ends))

pub alone-none : (bs : List ℕ) → PartedIs bs None → AloneIs bs None
alone-none bs n code fs v = n code fs [] v

pub alone-not : (bs : List ℕ) (r : Record) → Stands bs r → r.end < length bs → AloneIs bs None
alone-not bs r w h code fs v = omega (arith, w.ends, ap length (one-record w.recorded v).2)

pub alone-all : (bs : List ℕ) (r : Record) → Stands bs r → length bs ≤ r.end → AloneIs bs (Some r)
alone-all bs r w h = (w, omega (arith, w.ends))
