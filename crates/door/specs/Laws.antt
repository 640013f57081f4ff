-- Which call a record is; every call has one answer and leaves one box, and the answer can be read off its number. Assumes nothing.
use Rattle.std.specs.Prelude.{◌≡◌, refl, cond, List, [], ◌∷◌, ◌++◌, ◌⊎◌, ℕ, ◌<◌, eqb, length, get_or, drop}
use Rattle.std.proofs.Common.{sym, ap, ap₂, ◌∙◌, subst, inl, inr, arith, ne_eqb}
use Rattle.answer.specs.declared.Answer.{Answer}
use Rattle.answer.specs.Numbers.{ill_formed}
use Rattle.answer.specs.Answers.{Is, Decides, Leaves, packed}
use Rattle.answer.specs.Laws.{one_left}
use Rattle.expression.specs.declared.Kind.TheVariants.{Protection}
use Rattle.order.specs.Laws.{added-place}
use Rattle.policy.specs.declared.State.{State}
use Rattle.policy.specs.WellFormed.{WellFormed}
use Rattle.print.specs.Print.{PrintOf, print_conditions, print_grants}
use Rattle.print.specs.Laws.{one-print-of, one-print-answer, print-most}
use Rattle.image.specs.Laws.{load_inside, load-place}
use Rattle.gate.specs.Small.{begin-small, end-small, ask-small}
use Rattle.gate.proofs.Altering.{change-small, bypass-small}
use Rattle.machine.specs.Runs as runs
use Rattle.machine.specs.Machine.{Request, load, begin, end, ask, change, bypass, Step, GateRun}
use Rattle.machine.specs.Served.{request_of}
use Rattle.machine.specs.Laws.{Same, one-step}
use Rattle.records.specs.declared.Record.{Record}
use Rattle.records.specs.declared.Shape.{Shape}
use Rattle.records.specs.declared.Shape.TheVariants.{Byte}
use Rattle.records.specs.Records.{Listed, code-01, code-02, code-03, code-04, code-05, code-06, code-10}
use Rattle.records.specs.Records.{Field, Fields, none, next, Recorded, Stands}
use Rattle.records.specs.Laws.{one-record}
use Rattle.records.specs.Places.{stands-in-place, stands-alone}
use Rattle.door.specs.declared.BoxRecord.{BoxRecord}
use Rattle.door.specs.Box.{no_record, Call, requests, prints, IsBoxRecord, begins, ends, asks, changes, bypasses, loads, a-print}
use Rattle.door.specs.Box.{CallDoes, requested, Makes, Refills, Called, Serves}
use Rattle.door.specs.Inner.{Inside, field_at, request_at}

-- the request of a code and its fields: three bytes and two expressions, or an image
abbrev byte_of : List (List ℕ) → ℕ → ℕ
byte_of fs i = get_or (get_or fs i []) 0 0

abbrev request_in : ℕ → List (List ℕ) → Request
request_in code fs = request_of code (byte_of fs 0) (byte_of fs 1) (byte_of fs 2) (get_or fs 3 []) (get_or fs 4 [])

abbrev request_for : ℕ → List (List ℕ) → Request
request_for code fs = cond (eqb code 6) (load (get_or fs 0 [])) (request_in code fs)

-- the call of a code and its fields
abbrev call_for : ℕ → List (List ℕ) → Call
call_for code fs = cond (eqb code 16) (prints (get_or fs 0 [])) (requests (request_for code fs))

-- a record of a call is one of the table, and the call is the one of its code and fields
pub record Matched (bs : List ℕ) (c : Call) (rest : List ℕ) : Type 0 where
  pub code : ℕ
  pub fields : List (List ℕ)
  pub recorded : Recorded bs code fields rest
  pub is : c ≡ call_for code fields

pub matched : {bs rest : List ℕ} {c : Call} → IsBoxRecord bs c rest → Matched bs c rest
matched (begins {slot} {role} w) = record { code = 1; fields = (slot ∷ []) ∷ (role ∷ []) ∷ []; recorded = w; is = refl }
matched (ends {slot} w) = record { code = 2; fields = (slot ∷ []) ∷ []; recorded = w; is = refl }
matched (asks {slot} {file} {mode} w) = record { code = 3; fields = (slot ∷ []) ∷ (file ∷ []) ∷ (mode ∷ []) ∷ []; recorded = w; is = refl }
matched (changes {slot} {file} {mode} {t1} {t2} w) =
    record { code = 4; fields = (slot ∷ []) ∷ (file ∷ []) ∷ (mode ∷ []) ∷ t1 ∷ t2 ∷ []; recorded = w; is = refl }
matched (bypasses {slot} {file} {mode} {e} {g} w) =
    record { code = 5; fields = (slot ∷ []) ∷ (file ∷ []) ∷ (mode ∷ []) ∷ e ∷ g ∷ []; recorded = w; is = refl }
matched (loads {image} w) = record { code = 6; fields = image ∷ []; recorded = w; is = refl }
matched (a-print {x} w) = record { code = 16; fields = x ∷ []; recorded = w; is = refl }

-- bytes are the record of one call
pub one-box-record : {bs r s : List ℕ} {p q : Call} → IsBoxRecord bs p r → IsBoxRecord bs q s → (p ≡ q) × (r ≡ s)
one-box-record w v =
    let a = matched w in
    let b = matched v in
    let o = one-record a.recorded b.recorded in
    (a.is ∙ ap₂ call_for o.0 o.1 ∙ sym b.is, o.2)

-- what is no record of the table is none of a call
pub no_call : {bs : List ℕ} → ((code : ℕ) (fs : List (List ℕ)) → Recorded bs code fs [] → ⊥) → (c : Call) → IsBoxRecord bs c [] → ⊥
no_call n c w = let a = matched w in n a.code a.fields a.recorded

-- a field that is a byte
one_byte : (f : List ℕ) → length f ≡ 1 → f ≡ get_or f 0 0 ∷ []
one_byte [] e = absurd (omega arith)
one_byte (x ∷ []) e = refl
one_byte (x ∷ y ∷ f) e = absurd (omega arith)

byte-field : {l f rest : List ℕ} → Field Byte l f rest → f ≡ get_or f 0 0 ∷ []
byte-field {f = f} w = one_byte f w.sized

three-bytes : {l m n f g h p q r : List ℕ} (more : List (List ℕ)) → Field Byte l f p → Field Byte m g q → Field Byte n h r
    → f ∷ g ∷ h ∷ more ≡ (get_or f 0 0 ∷ []) ∷ (get_or g 0 0 ∷ []) ∷ (get_or h 0 0 ∷ []) ∷ more
three-bytes {f = f} {g = g} {h = h} more a b c =
    ap₂ (λ (x y : List ℕ). x ∷ y ∷ h ∷ more) (byte-field a) (byte-field b)
    ∙ ap (λ (z : List ℕ). (get_or f 0 0 ∷ []) ∷ (get_or g 0 0 ∷ []) ∷ z ∷ more) (byte-field c)

-- and every record of the table is the record of a call
module _ {bs : List ℕ} where
  pub is_call : {code : ℕ} {ss : List Shape} {body rest : List ℕ} {fs : List (List ℕ)} → Listed code ss → Fields ss body fs rest → Recorded bs code fs rest
      → IsBoxRecord bs (call_for code fs) rest
  is_call {rest = rest} code-01 (next a (next b none)) w =
      begins (subst (λ (fs : List (List ℕ)). Recorded bs 1 fs rest) (ap₂ (λ (x y : List ℕ). x ∷ y ∷ []) (byte-field a) (byte-field b)) w)
  is_call {rest = rest} code-02 (next a none) w =
      ends (subst (λ (fs : List (List ℕ)). Recorded bs 2 fs rest) (ap (λ (x : List ℕ). x ∷ []) (byte-field a)) w)
  is_call {rest = rest} code-03 (next a (next b (next c none))) w =
      asks (subst (λ (fs : List (List ℕ)). Recorded bs 3 fs rest) (three-bytes [] a b c) w)
  is_call {rest = rest} code-04 (next a (next b (next c (next {f = x} d (next {f = y} e none))))) w =
      changes (subst (λ (fs : List (List ℕ)). Recorded bs 4 fs rest) (three-bytes (x ∷ y ∷ []) a b c) w)
  is_call {rest = rest} code-05 (next a (next b (next c (next {f = x} d (next {f = y} e none))))) w =
      bypasses (subst (λ (fs : List (List ℕ)). Recorded bs 5 fs rest) (three-bytes (x ∷ y ∷ []) a b c) w)
  is_call code-06 (next a none) w = loads w
  is_call code-10 (next a none) w = a-print w

-- the record that stands in these bytes alone, by the places of its fields
module _ (bs : List ℕ) (r : Record) (w : Stands bs r) (h : r.end ≡ length bs) where
  alone-is : IsBoxRecord bs (call_for r.code w.fields) []
  alone-is =
      let v = w.recorded in
      subst (IsBoxRecord bs (call_for r.code w.fields)) (stands-alone bs r w h) (is_call v.listed v.fields v)

  pub places-inside : Inside bs r.fields
  places-inside i = let p = stands-in-place bs r w in (p.order i, p.inside i)

  pub code-some : 0 < r.code
  code-some = go w.recorded.listed
    where
      go : {code : ℕ} {ss : List Shape} → Listed code ss → 0 < code
      go code-01 = omega arith
      go code-02 = omega arith
      go code-03 = omega arith
      go code-04 = omega arith
      go code-05 = omega arith
      go code-06 = omega arith
      go code-10 = omega arith

  -- any but a load and a print
  pub a-request : (r.code ≡ 6 → ⊥) → (r.code ≡ 16 → ⊥) → IsBoxRecord bs (requests (request_at r.code bs r.fields)) []
  a-request n m =
      let p = stands-in-place bs r w in
      let fs = w.fields in
      let e : request_for r.code fs ≡ request_at r.code bs r.fields =
      rw (ne_eqb r.code 6 n) (simp (p.field 0, p.field 1, p.field 2, p.field 3, p.field 4)) in
      let is : call_for r.code fs ≡ requests (request_at r.code bs r.fields) = rw (ne_eqb r.code 16 m) (ap requests e) in
      subst (λ (c : Call). IsBoxRecord bs c []) is alone-is

  -- a load
  pub a-load : r.code ≡ 6 → IsBoxRecord bs (requests (load (field_at bs r.fields 0))) []
  a-load c =
      let p = stands-in-place bs r w in
      let e : call_for r.code w.fields ≡ requests (load (field_at bs r.fields 0)) = rw c (ap (λ (x : List ℕ). requests (load x)) (p.field 0)) in
      subst (λ (c : Call). IsBoxRecord bs c []) e alone-is

  -- a print
  pub a-print-call : r.code ≡ 16 → IsBoxRecord bs (prints (field_at bs r.fields 0)) []
  a-print-call c =
      let p = stands-in-place bs r w in
      let e : call_for r.code w.fields ≡ prints (field_at bs r.fields 0) = rw c (ap prints (p.field 0)) in
      subst (λ (c : Call). IsBoxRecord bs c []) e alone-is

-- a record that is a load has that code
pub load_code : {bs : List ℕ} {image : List ℕ} {r : Record} (w : Stands bs r) → IsBoxRecord bs (requests (load image)) [] → r.code ≡ 6
load_code w (loads v) = (one-record w.recorded v).0

-- an answer has a number of two digits and a place below 65536: of a request
pub step_small : (s t : State) (q : Request) (a : Answer) → Step s q a t → (a.number < 100) × (a.place < 65536)
step_small s t (load image) a w = let n = load_inside image s t w in let k = load-place image s t w in (omega arith, omega arith)
step_small s t (begin slot role) a w = let n = begin-small s slot role a w.decides in (n.0, omega (arith, n.1))
step_small s t (end slot) a w = let n = end-small s slot a w.decides in (n.0, omega (arith, n.1))
step_small s t (ask slot file mode) a w = let n = ask-small s slot file mode a w.decides in (n.0, omega (arith, n.1))
step_small s t (change slot file mode x y) a w = let n = change-small s slot file mode x y a w.decides in (n.0, omega (arith, n.1))
step_small s t (bypass slot file mode x y) a w = let n = bypass-small s slot file mode x y a w.decides in (n.0, omega (arith, n.1))

-- of a print
pub print-small : (s : State) (x : List ℕ) (room : ℕ) (a : Answer) → Decides (print_conditions s x room) (print_grants x) a
    → (a.number < 100) × (a.place < 65536)
print-small s x room a (inl d) = (omega (arith, d.1), omega (arith, d.2))
print-small s x room a (inr (w, inl d)) = (omega (arith, d.1), omega (arith, added-place 0 (omega arith) Protection s.tree x a.place d.2))
print-small s x room a (inr (w, inr (o, inl d))) = (omega (arith, d.1), omega (arith, d.2))
print-small s x room a (inr (w, inr (o, inr (r, (g, (p, v, e)))))) = (omega (arith, g), omega (arith, e, print-most w.tree o v))

-- and of a call
pub does-small : (s t : State) (c : Call) (room : ℕ) (a : Answer) (given : List ℕ) → CallDoes s c room a t given → (a.number < 100) × (a.place < 65536)
does-small s t (requests q) room a given w = step_small s t q a w.0
does-small s t (prints x) room a given w = print-small s x room a w.decides

-- from the one number an answer can be read off
pub one-packed : (a b : Answer) → a.number < 256 → b.number < 256 → packed a ≡ packed b → (a.number ≡ b.number) × (a.place ≡ b.place)
one-packed a b h k e = (omega arith, omega arith)

-- no answer to a call is the one to what is no record
pub told-apart : {b after : BoxRecord} {rec out out' : List ℕ} {r : ℕ} → Called b rec out r after out' → r ≡ no_record → ⊥
told-apart {b} {after} {out = out} w e =
    let m = w.makes in
    omega (arith, does-small b.state after.state w.call (length out) m.answer m.given m.does, m.packs)

-- a box whose tree has no securon, as zeroed memory is, answers every call but a load with 17: that condition is the first
no-tree-first : (s : State) (a : Answer) → s.tree.n ≡ 0
    → {D : Type 0} → ((WellFormed s → ⊥) × (a.number ≡ ill_formed) × (a.place ≡ 0)) ⊎ (WellFormed s × D) → Is a ill_formed 0
no-tree-first s a e (inl (n, i, k)) = record { number = i; place = k }
no-tree-first s a e (inr (w, d)) = absurd (omega (arith, e, w.tree.count.0))

no-tree : (s t : State) (q : Request) (a : Answer) → s.tree.n ≡ 0 → ((image : List ℕ) → q ≡ load image → ⊥) → Step s q a t → Is a ill_formed 0
no-tree s t (load image) a e n w = absurd (n image refl)
no-tree s t (begin slot role) a e n w = no-tree-first s a e w.decides
no-tree s t (end slot) a e n w = no-tree-first s a e w.decides
no-tree s t (ask slot file mode) a e n w = no-tree-first s a e w.decides
no-tree s t (change slot file mode x y) a e n w = no-tree-first s a e w.decides
no-tree s t (bypass slot file mode x y) a e n w = no-tree-first s a e w.decides

no-tree-does : (s t : State) (c : Call) (room : ℕ) (a : Answer) (given : List ℕ) → s.tree.n ≡ 0 → ((image : List ℕ) → c ≡ requests (load image) → ⊥)
    → CallDoes s c room a t given → Is a ill_formed 0
no-tree-does s t (requests q) room a given e n w = no-tree s t q a e (λ image i. n image (ap requests i)) w.0
no-tree-does s t (prints x) room a given e n w = no-tree-first s a e w.decides

pub zeroed-refuses : {b after : BoxRecord} {c : Call} {out out' : List ℕ} {r : ℕ} → b.state.tree.n ≡ 0 → ((image : List ℕ) → c ≡ requests (load image) → ⊥)
    → Makes b c out r after out' → r ≡ ill_formed
zeroed-refuses {b} {after} {c} {out} e n w =
    let i = no-tree-does b.state after.state c (length out) w.answer w.given e n w.does in
    omega (arith, w.packs, i.number, i.place)

-- a load that was made of the box, where the room stays as it is
pub load-makes : {b after : BoxRecord} {image out out' : List ℕ} {r : ℕ} → Refills b image r after → out' ≡ out
    → Makes b (requests (load image)) out r after out'
load-makes w e = record { answer = w.answer; given = []; does = (w.steps, refl); packs = w.packs; fills = e }

-- a call is a run of the request that it is
pub done-runs : (s t : State) (c : Call) (room : ℕ) (a : Answer) (given : List ℕ) → CallDoes s c room a t given → GateRun s (requested s c a) t
done-runs s t (requests q) room a given w = runs.next {e = record { before = s; request = q; answer = a }} w.0 runs.none
done-runs s t (prints x) room a given w = subst (λ (u : State). GateRun s [] u) (sym w.unaltered) runs.none

-- one answer, one state and the same bytes given out for every call on a state
pub one-done : (s : State) (c : Call) (room : ℕ) (a b : Answer) (t u : State) (g h : List ℕ) → CallDoes s c room a t g → CallDoes s c room b u h
    → Same a b t u × (g ≡ h)
one-done s (requests q) room a b t u g h w v = (one-step s q a b t u w.0 v.0, w.1 ∙ sym v.1)
one-done s (prints x) room a b t u g h w v =
    let same = one-print-answer s x room a b w.decides v.decides in
    let gives = subst (λ (o : Answer). Leaves o (PrintOf x) [] h) (sym same) v.gives in (
      record { answer = same; state = w.unaltered ∙ sym v.unaltered },
      one_left a (PrintOf x) (λ p q i j. one-print-of i j) [] g h w.gives gives,
    )

-- one number and one box
pub record SameBox (r s : ℕ) (x y : BoxRecord) : Type 0 where
  pub number : r ≡ s
  pub box : x ≡ y

-- and one content of the room for every call that is made of a box
pub one-made : (b : BoxRecord) (c : Call) (out : List ℕ) (r s : ℕ) (x y : BoxRecord) (m n : List ℕ) → Makes b c out r x m → Makes b c out s y n
    → SameBox r s x y × (m ≡ n)
one-made b c out r s x y m n w v =
    let o = one-done b.state c (length out) w.answer v.answer x.state y.state w.given v.given w.does v.does in
    let box : x ≡ y = λ j. record { state = o.0.state j } in (
      record { number = w.packs ∙ ap packed o.0.answer ∙ sym v.packs; box = box },
      w.fills ∙ ap (λ (given : List ℕ). given ++ drop (length given) out) o.1 ∙ sym v.fills,
    )

-- and for every bytes that a box is served
pub one-served : (b : BoxRecord) (rec out : List ℕ) (r s : ℕ) (x y : BoxRecord) (m n : List ℕ) → Serves b rec out r x m → Serves b rec out s y n
    → SameBox r s x y × (m ≡ n)
one-served b rec out r s x y m n (inl w) (inl v) =
    let c = (one-box-record w.is v.is).0 in
    one-made b v.call out r s x y m n (subst (λ (p : Call). Makes b p out r x m) c w.makes) v.makes
one-served b rec out r s x y m n (inl w) (inr v) = absurd (v.none w.call w.is)
one-served b rec out r s x y m n (inr w) (inl v) = absurd (w.none v.call v.is)
one-served b rec out r s x y m n (inr w) (inr v) =
    (record { number = w.told ∙ sym v.told; box = w.unaltered ∙ sym v.unaltered }, w.kept ∙ sym v.kept)
