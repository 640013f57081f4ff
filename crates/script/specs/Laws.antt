-- An input prints one thing, and fills an output in one way. Assumes nothing.
use Rattle.std.specs.Prelude.{◌≡◌, refl, cond, List, [], ◌∷◌, ◌++◌, ℕ, ◌+◌, ◌≤◌, ⊤, eqb, length, get_or, take, drop}
use Rattle.std.proofs.Common.{sym, ap, ap₂, ◌∙◌, subst, inl, inr, arith, length-drop, drop-drop}
use Rattle.std.proofs.Math.Decide.{dec_le}
use Rattle.std.proofs.Math.Seq.{take-append_seam, drop-append_seam, drop-append-add}
use Rattle.answer.specs.declared.Answer.{Answer}
use Rattle.policy.specs.declared.State.{State}
use Rattle.policy.specs.State.{fresh_state}
use Rattle.image.specs.Image.{expression_bytes}
use Rattle.machine.specs.Machine.{Request, load, begin, end, ask, change, bypass, Step}
use Rattle.machine.specs.Laws.{Same, one-step}
use Rattle.lines.specs.Lines.{Line}
use Rattle.lines.specs.Laws.{one_line}
use Rattle.script.specs.Script.{IsRecord, a-begin, an-end, an-ask, a-change, a-bypass, Plays, ended, called, cut, Prints, stated, image_in, over, Replays}
use Rattle.gate.specs.Effects.{after}
use Rattle.script.specs.declared.Played.{Played}
use Rattle.script.specs.declared.Played.TheVariants.{Ended, Cut, Called}
use Rattle.script.specs.Playing.{PlayedIs}
use Rattle.script.specs.Inner.{second_at, end_at, first_of, second_of, store_in}
use Rattle.script.specs.Records.{second-length}

-- ---- one record
-- the request that the bytes have, and what is left after it, by their code
abbrev request_in : ℕ → List ℕ → Request
request_in code bs =
    cond (eqb code 1) (begin (get_or bs 1 0) (get_or bs 2 0))
    (cond (eqb code 2) (end (get_or bs 1 0))
    (cond (eqb code 3) (ask (get_or bs 1 0) (get_or bs 2 0) (get_or bs 3 0))
    (store_in code bs)))

abbrev rest_here : ℕ → List ℕ → List ℕ
rest_here code bs = cond (eqb code 1) (drop 3 bs) (cond (eqb code 2) (drop 2 bs) (cond (eqb code 3) (drop 4 bs) (drop (end_at bs) bs)))

-- the parts of a record 04 or 05
module _ (c slot file mode : ℕ) (x y rest bs : List ℕ) (e : bs ≡ c ∷ slot ∷ file ∷ mode ∷ (expression_bytes x ++ (expression_bytes y ++ rest))) where
  second_is : drop (second_at bs + 1) bs ≡ y ++ rest
  second_is =
      let a : get_or bs 4 0 ≡ length x = ap (λ (l : List ℕ). get_or l 4 0) e in
      let n : second_at bs + 1 ≡ 5 + (length x + 1) = omega arith in
      ap (λ (k : ℕ). drop k bs) n ∙ sym (drop-drop (length x + 1) 5 bs)
      ∙ ap (λ (l : List ℕ). drop (length x + 1) (drop 5 l)) e ∙ drop-append-add x (length y ∷ (y ++ rest)) 1

  x-is : x ≡ first_of bs
  x-is = sym (ap (λ (l : List ℕ). first_of l) e ∙ take-append_seam x (length y ∷ (y ++ rest)))

  y-is : y ≡ second_of bs
  y-is = sym (ap₂ take (second-length c slot file mode x y rest bs e) second_is ∙ take-append_seam y rest)

  rest-is : rest ≡ drop (end_at bs) bs
  rest-is =
      let z = ap (λ (k : ℕ). drop (second_at bs + 1 + k) bs) (second-length c slot file mode x y rest bs e) in
      sym (z ∙ sym (drop-drop (length y) (second_at bs + 1) bs) ∙ ap (drop (length y)) second_is ∙ drop-append_seam y rest)

record-request : {bs rest : List ℕ} {q : Request} → IsRecord bs q rest → q ≡ request_in (get_or bs 0 0) bs
record-request a-begin = refl
record-request an-end = refl
record-request an-ask = refl
record-request {rest = rest} (a-change {slot} {file} {mode} {x} {y}) =
    ap₂ (change slot file mode) (x-is 4 slot file mode x y rest _ refl) (y-is 4 slot file mode x y rest _ refl)
record-request {rest = rest} (a-bypass {slot} {file} {mode} {x} {y}) =
    ap₂ (bypass slot file mode) (x-is 5 slot file mode x y rest _ refl) (y-is 5 slot file mode x y rest _ refl)

record-rest : {bs rest : List ℕ} {q : Request} → IsRecord bs q rest → rest ≡ rest_here (get_or bs 0 0) bs
record-rest a-begin = refl
record-rest an-end = refl
record-rest an-ask = refl
record-rest {rest = rest} (a-change {slot} {file} {mode} {x} {y}) = rest-is 4 slot file mode x y rest _ refl
record-rest {rest = rest} (a-bypass {slot} {file} {mode} {x} {y}) = rest-is 5 slot file mode x y rest _ refl

-- one record stands at the front, and one rest after it
pub one-record : {bs r u : List ℕ} {q p : Request} → IsRecord bs q r → IsRecord bs p u → (q ≡ p) × (r ≡ u)
one-record x y = (record-request x ∙ sym (record-request y), record-rest x ∙ sym (record-rest y))

none_in : {bs r : List ℕ} {q : Request} → IsRecord bs q r → bs ≡ [] → ⊥
none_in a-begin e = let z = ap length e in omega arith
none_in an-end e = let z = ap length e in omega arith
none_in an-ask e = let z = ap length e in omega arith
none_in a-change e = let z = ap length e in omega arith
none_in a-bypass e = let z = ap length e in omega arith

-- ---- one output
pub one-call : (s t u : State) (q p : Request) (a b : Answer) → Step s q a t → Step s p b u → q ≡ p → Same a b t u
one-call s t u q p a b x y e = one-step s q a b t u x (subst (λ (o : Request). Step s o b u) (sym e) y)

same_line : {a b : Answer} {l m : List ℕ} → Line a [] l → Line b [] m → a ≡ b → l ≡ m
same_line {m = m} x y e = one_line x (subst (λ (o : Answer). Line o [] m) (sym e) y)

pub one-play : {s : State} {bs p q : List ℕ} → Plays s bs p → Plays s bs q → p ≡ q
one-play ended ended = refl
one-play ended (called r w l p) = absurd (none_in r refl)
one-play ended (cut n none) = absurd (n refl)
one-play (called r w l p) ended = absurd (none_in r refl)
one-play {s} (called {t = t} {rest = left} {q = o} {a = a} r w l p) (called {t = t₂} {printed = z} {q = o₂} {a = a₂} r₂ w₂ l₂ p₂) =
    let e = one-record r r₂ in
    let d = one-call s t t₂ o o₂ a a₂ w w₂ e.0 in
    let z₂ = subst (λ (u : List ℕ). Plays t₂ u z) (sym e.1) p₂ in
    ap₂ ◌++◌ (same_line l l₂ d.answer) (one-play p (subst (λ (u : State). Plays u left z) (sym d.state) z₂))
one-play (called r w l p) (cut n none) = absurd (none _ _ r)
one-play (cut n none) ended = absurd (n refl)
one-play (cut n none) (called r w l p) = absurd (none _ _ r)
one-play (cut n none) (cut m none₂) = refl

-- for every input there is one output
pub one-printed : {input p q : List ℕ} → Prints input p → Prints input q → p ≡ q
one-printed (inl x) (inl y) = x.1 ∙ sym y.1
one-printed (inl x) (inr y) = absurd (omega (arith, x.0, y.two))
one-printed (inr x) (inl y) = absurd (omega (arith, y.0, x.two))
one-printed {input} (inr x) (inr y) =
    let d = one-step fresh_state (load (image_in input)) x.answer y.answer x.state y.state x.loads y.loads in
    x.is ∙ ap₂ ◌++◌ (same_line x.is-line y.is-line d.answer) (go d.state (dec_le (2 + stated input) (length input))) ∙ sym y.is
  where
    go : x.state ≡ y.state → Dec (2 + stated input ≤ length input) → x.rest ≡ y.rest
    go e (yes h) = one-play (x.whole h) (subst (λ (o : State). Plays o (drop (2 + stated input) input) y.rest) (sym e) (y.whole h))
    go e (no n) = x.short (omega arith) ∙ sym (y.short (omega arith))

-- and it fills an output in one way
pub one-replay : {input before x y : List ℕ} {r s : ℕ} → Replays input before x r → Replays input before y s → (x ≡ y) × (r ≡ s)
one-replay {before = before} {r = r} {s = s} p q =
    let e : p.printed ≡ q.printed = one-printed p.prints q.prints in
    let l : length p.printed ≡ length q.printed = ap length e in
    (p.filled.is ∙ ap (λ (w : List ℕ). over w before) e ∙ sym q.filled.is, go l (dec_le (length p.printed) (length before)))
  where
    go : length p.printed ≡ length q.printed → Dec (length p.printed ≤ length before) → r ≡ s
    go l (yes h) = p.filled.fits h ∙ l ∙ sym (q.filled.fits (omega arith))
    go l (no n) = p.filled.full (omega arith) ∙ sym (q.filled.full (omega arith))

-- ---- the next record: what stands there is one, and so are the answer and the state after it
-- the same was played: the same stands there, and where a call was made, it gave one answer and one state and left the same bytes. (Which file an effect
-- names is its own affair, where it alters none)
abbrev pub SamePlayed : State → Played → Played → Type 0
SamePlayed s Ended Ended = ⊤
SamePlayed s Cut Cut = ⊤
SamePlayed s (Called d l) (Called e r) = Same d.answer e.answer (after s d) (after s e) × (l.now ≡ r.now)
SamePlayed s _ _ = ⊥

pub one-played : (s : State) (bs : List ℕ) (x y : Played) → PlayedIs s bs x → PlayedIs s bs y → SamePlayed s x y
one-played s bs Ended Ended p q = tt
one-played s bs Ended Cut p q = q.0 p
one-played s bs Ended (Called e r) p q = none_in q.1 p
one-played s bs Cut Ended p q = p.0 q
one-played s bs Cut Cut p q = tt
one-played s bs Cut (Called e r) p q = p.1 _ _ q.1
one-played s bs (Called d l) Ended p q = none_in p.1 q
one-played s bs (Called d l) Cut p q = q.1 _ _ p.1
one-played s bs (Called d l) (Called e r) p q =
    let o = one-record p.1 q.1 in
    (one-call s (after s d) (after s e) p.0 q.0 d.answer e.answer p.2.is q.2.is o.0, o.1)
