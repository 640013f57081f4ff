-- Records 01 to 05 of a box are those of a replay input. Assumes nothing.
use Rattle.std.specs.Prelude.{◌≡◌, refl, List, [], ◌∷◌, ◌++◌, ℕ, length, get_or}
use Rattle.std.proofs.Common.{sym, ap, ◌∙◌, subst, arith}
use Rattle.image.specs.Image.{expression_bytes}
use Rattle.machine.specs.Machine.{Request, load, begin, end, ask, change, bypass}
use Rattle.script.specs.Script.{IsRecord, a-begin, an-end, an-ask, a-change, a-bypass}
use Rattle.records.specs.declared.Shape.{Shape}
use Rattle.records.specs.declared.Shape.TheVariants.{Byte, Short}
use Rattle.records.specs.Records.{Listed, code-01, code-02, code-03, code-04, code-05, Field, Fields, none, next, Recorded}
use Rattle.records.specs.Laws.{one_line}
use Rattle.door.specs.Box.{requests, IsBoxRecord, begins, ends, asks, changes, bypasses, loads}

-- a byte and an expression, as fields
a_byte : (x : ℕ) (rest : List ℕ) → Field Byte (x ∷ rest) (x ∷ []) rest
a_byte x rest = record { number = []; leads = refl; sized = refl; is = refl }

an-expression : (x rest : List ℕ) → Field Short (expression_bytes x ++ rest) x rest
an-expression x rest = record { number = length x ∷ []; leads = refl; sized = refl; is = refl }

module _ (slot file mode : ℕ) (x y rest : List ℕ) where
  abbrev store_body : List ℕ
  store_body = slot ∷ file ∷ mode ∷ (expression_bytes x ++ (expression_bytes y ++ rest))

  five-fields : Fields (Byte ∷ Byte ∷ Byte ∷ Short ∷ Short ∷ []) store_body ((slot ∷ []) ∷ (file ∷ []) ∷ (mode ∷ []) ∷ x ∷ y ∷ []) rest
  five-fields = next (a_byte slot _) (next (a_byte file _) (next (a_byte mode _) (next (an-expression x _) (next (an-expression y rest) none))))

-- every record of a replay input is one of a box
pub replayed-boxed : {bs rest : List ℕ} {q : Request} → IsRecord bs q rest → IsBoxRecord bs (requests q) rest
replayed-boxed (a-begin {slot} {role} {rest}) =
    begins (record {
      shapes = Byte ∷ Byte ∷ [];
      listed = code-01;
      body = slot ∷ role ∷ rest;
      is = refl;
      fields = next (a_byte slot (role ∷ rest)) (next (a_byte role rest) none);
    })
replayed-boxed (an-end {slot} {rest}) =
    ends (record { shapes = Byte ∷ []; listed = code-02; body = slot ∷ rest; is = refl; fields = next (a_byte slot rest) none })
replayed-boxed (an-ask {slot} {file} {mode} {rest}) =
    asks (record {
      shapes = Byte ∷ Byte ∷ Byte ∷ [];
      listed = code-03;
      body = slot ∷ file ∷ mode ∷ rest;
      is = refl;
      fields = next (a_byte slot (file ∷ mode ∷ rest)) (next (a_byte file (mode ∷ rest)) (next (a_byte mode rest) none));
    })
replayed-boxed (a-change {slot} {file} {mode} {x} {y} {rest}) =
    changes (record {
      shapes = Byte ∷ Byte ∷ Byte ∷ Short ∷ Short ∷ [];
      listed = code-04;
      body = store_body slot file mode x y rest;
      is = refl;
      fields = five-fields slot file mode x y rest;
    })
replayed-boxed (a-bypass {slot} {file} {mode} {x} {y} {rest}) =
    bypasses (record {
      shapes = Byte ∷ Byte ∷ Byte ∷ Short ∷ Short ∷ [];
      listed = code-05;
      body = store_body slot file mode x y rest;
      is = refl;
      fields = five-fields slot file mode x y rest;
    })

-- what stands at the front, by its field
byte-front : {l rest : List ℕ} {x : ℕ} → Field Byte l (x ∷ []) rest → l ≡ x ∷ rest
byte-front {l} {rest} {x} w = go w.number w.leads w.is
  where
    go : (n : List ℕ) → length n ≡ 0 → l ≡ n ++ (x ∷ rest) → l ≡ x ∷ rest
    go [] h e = e
    go (y ∷ n) h e = absurd (omega arith)

expression-front : {l x rest : List ℕ} → Field Short l x rest → l ≡ expression_bytes x ++ rest
expression-front {l} {x} {rest} w = go w.number w.leads w.sized w.is
  where
    go : (n : List ℕ) → length n ≡ 1 → length x ≡ get_or n 0 0 → l ≡ n ++ (x ++ rest) → l ≡ expression_bytes x ++ rest
    go [] h s e = absurd (omega arith)
    go (y ∷ []) h s e = e ∙ ap (λ (k : ℕ). k ∷ (x ++ rest)) (sym s)
    go (y ∷ z ∷ n) h s e = absurd (omega arith)

-- its fields are those of the code's line
lined : {bs rest : List ℕ} {code : ℕ} {ss : List Shape} {fs : List (List ℕ)} → Listed code ss → (w : Recorded bs code fs rest) → Fields ss w.body fs rest
lined {rest = rest} {fs = fs} l w = subst (λ (ss : List Shape). Fields ss w.body fs rest) (one_line w.listed l) w.fields

byte-alone : {l rest : List ℕ} {x : ℕ} → Fields (Byte ∷ []) l ((x ∷ []) ∷ []) rest → l ≡ x ∷ rest
byte-alone (next a none) = byte-front a

two_bytes : {l rest : List ℕ} {x y : ℕ} → Fields (Byte ∷ Byte ∷ []) l ((x ∷ []) ∷ (y ∷ []) ∷ []) rest → l ≡ x ∷ y ∷ rest
two_bytes {x = x} (next a v) = byte-front a ∙ ap (λ (m : List ℕ). x ∷ m) (byte-alone v)

three-more : {l rest : List ℕ} {ss : List Shape} {fs : List (List ℕ)} {x y z : ℕ}
    → Fields (Byte ∷ Byte ∷ Byte ∷ ss) l ((x ∷ []) ∷ (y ∷ []) ∷ (z ∷ []) ∷ fs) rest
    → (m : List ℕ) × (l ≡ x ∷ y ∷ z ∷ m) × Fields ss m fs rest
three-more {x = x} {y = y} (next a (next b (next {mid = m} c v))) =
    (m, byte-front a ∙ ap (λ (k : List ℕ). x ∷ k) (byte-front b ∙ ap (λ (k : List ℕ). y ∷ k) (byte-front c)), v)

bytes-alone : {l rest : List ℕ} {x y z : ℕ} → Fields (Byte ∷ Byte ∷ Byte ∷ []) l ((x ∷ []) ∷ (y ∷ []) ∷ (z ∷ []) ∷ []) rest → l ≡ x ∷ y ∷ z ∷ rest
bytes-alone {x = x} {y = y} (next a (next b (next c none))) =
    byte-front a ∙ ap (λ (k : List ℕ). x ∷ k) (byte-front b ∙ ap (λ (k : List ℕ). y ∷ k) (byte-front c))

two-expressions : {l x y rest : List ℕ} → Fields (Short ∷ Short ∷ []) l (x ∷ y ∷ []) rest → l ≡ expression_bytes x ++ (expression_bytes y ++ rest)
two-expressions {x = x} (next a (next b none)) = expression-front a ∙ ap (λ (m : List ℕ). expression_bytes x ++ m) (expression-front b)

body-front : {l x y rest : List ℕ} {slot file mode : ℕ}
    → Fields (Byte ∷ Byte ∷ Byte ∷ Short ∷ Short ∷ []) l ((slot ∷ []) ∷ (file ∷ []) ∷ (mode ∷ []) ∷ x ∷ y ∷ []) rest → l ≡ store_body slot file mode x y rest
body-front {slot = slot} {file} {mode} v =
    let (m, e, u) = three-more v in e ∙ ap (λ (k : List ℕ). slot ∷ file ∷ mode ∷ k) (two-expressions u)

-- every record of a box that is a request but a load is one of a replay input
pub boxed-replayed : {bs rest : List ℕ} {q : Request} → IsBoxRecord bs (requests q) rest → ((image : List ℕ) → q ≡ load image → ⊥) → IsRecord bs q rest
boxed-replayed {rest = rest} (begins {slot} {role} w) n =
    subst (λ (l : List ℕ). IsRecord l (begin slot role) rest) (sym (w.is ∙ ap (λ (k : List ℕ). 1 ∷ k) (two_bytes (lined code-01 w)))) a-begin
boxed-replayed {rest = rest} (ends {slot} w) n =
    subst (λ (l : List ℕ). IsRecord l (end slot) rest) (sym (w.is ∙ ap (λ (k : List ℕ). 2 ∷ k) (byte-alone (lined code-02 w)))) an-end
boxed-replayed {rest = rest} (asks {slot} {file} {mode} w) n =
    subst (λ (l : List ℕ). IsRecord l (ask slot file mode) rest) (sym (w.is ∙ ap (λ (k : List ℕ). 3 ∷ k) (bytes-alone (lined code-03 w)))) an-ask
boxed-replayed {rest = rest} (changes {slot} {file} {mode} {t1} {t2} w) n =
    subst (λ (l : List ℕ). IsRecord l (change slot file mode t1 t2) rest)
    (sym (w.is ∙ ap (λ (k : List ℕ). 4 ∷ k) (body-front (lined code-04 w)))) (a-change {x = t1} {y = t2})
boxed-replayed {rest = rest} (bypasses {slot} {file} {mode} {e} {g} w) n =
    subst (λ (l : List ℕ). IsRecord l (bypass slot file mode e g) rest)
    (sym (w.is ∙ ap (λ (k : List ℕ). 5 ∷ k) (body-front (lined code-05 w)))) (a-bypass {x = e} {y = g})
boxed-replayed (loads {image} w) n = absurd (n image refl)
