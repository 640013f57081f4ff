-- Every text that says an expression is scanned to it, by induction on how it is read; so a text gives one string of bytes. Assumes nothing.
use Rattle.std.specs.Prelude.{◌≡◌, List, [], ◌∷◌, ◌++◌, ℕ, ◌+◌, ◌*◌, ◌<◌}
use Rattle.std.proofs.Math.Path.{refl, sym}
use Rattle.std.proofs.Common.{ap, ◌∙◌, append-nil, append_assoc, arith, lit<}
use Rattle.std.proofs.Math.Option.{Option, none, some}
use borrow.Author.Tests.{ne_eqb}
use Rattle.expression.specs.Expression.{Expr, term, one, range}
use Rattle.expression.specs.Bytes.{bytes}
use Rattle.text.specs.Classes.{class_of, value, digit, space, amp, bar, lpar, rpar, lbra, rbra, dot}
use Rattle.text.specs.Text.{Token, number, sign, dots, Written, as_number, as-sign, as-dots, Tokens, end, spaced, next, Level, item, ands}
use Rattle.text.specs.Text.{ors, Parses, single, between, bracket, an_item, and, an-and, or, Says, TextOf, blank, whole}
use Rattle.text.specs.Numbers.{built}
use Rattle.text.specs.Scan.{Frame, Left, Part, alone, from, upto, State, want, bound, digits, counted, dotted, done, fresh}
use Rattle.text.specs.Scan.{opened, or-to, finish, anded, move, step, ends, go_on, scan, Built, starts, more, Stays}

pub on : (t t' : State) (x : ℕ) (r : List ℕ) → step t x ≡ some t' → scan t (x ∷ r) ≡ scan t' r
unfolding scan
on t t' x r e = rw e

-- a byte of the class c
by-class : (t t' : State) (x c : ℕ) (r : List ℕ) → class_of x ≡ c → move t c (value x) ≡ some t' → scan t (x ∷ r) ≡ scan t' r
by-class t t' x c r h e = on t t' x r (ap (λ (k : ℕ). move t k (value x)) h ∙ e)

-- two states that go on alike at a byte
alike : (t t' : State) (x : ℕ) (r : List ℕ) → step t x ≡ step t' x → scan t (x ∷ r) ≡ scan t' (x ∷ r)
unfolding scan
alike t t' x r e = ap (λ (o : Option State). go_on o (λ u. scan u r)) e

-- ---- what may stand after an item, and after a number
abbrev After : List Token → Type 0
After [] = Unit {0}
After (number n ∷ ts) = ⊥
After (sign c ∷ ts) = (space < c) × (c ≡ lbra → ⊥)
After (dots ∷ ts) = ⊥

abbrev Apart : List Token → Type 0
Apart [] = Unit {0}
Apart (number n ∷ ts) = ⊥
Apart (sign c ∷ ts) = space < c
Apart (dots ∷ ts) = Unit {0}

apart : (ts : List Token) → After ts → Apart ts
apart [] h = tt
apart (number n ∷ ts) h = h
apart (sign c ∷ ts) h = h.0
apart (dots ∷ ts) h = absurd h

-- a number with no digit after it is whole
settles : {us : List Token} {s : List ℕ} → Tokens us s → Apart us → (p : Part) (n : ℕ) (l : Left) → scan (digits p n l) s ≡ scan (counted p n l) s
settles end a p n l = unfold scan ends in refl
settles (spaced {x = x} {s = s} h w) a p n l = alike _ _ x s (unfold move in rw h)
settles (next (as_number k) w) a p n l = absurd a
settles (next {s = s} (as-sign {x = x} {c = c} h) w) a p n l = alike _ _ x s (unfold move in rw (h, ne_eqb c digit (omega arith)))
settles (next {s = s} (as-dots {x = x} {y = y} h k) w) a p n l = alike _ _ x (y ∷ s) (unfold move in rw h)

-- a number with no range after it is an item
item-is : {us : List Token} {s : List ℕ} → Tokens us s → After us → (n : ℕ) (l : Left) → scan (counted alone n l) s ≡ scan (finish l (term (one n))) s
item-is end a n l = unfold scan ends in refl
item-is (spaced {x = x} {s = s} h w) a n l =
    by-class (counted alone n l) (counted alone n l) x space s h (unfold move in refl) ∙ item-is w a n l
    ∙ sym (by-class (finish l (term (one n))) (finish l (term (one n))) x space s h (unfold move in refl))
item-is (next (as_number k) w) a n l = absurd a
item-is (next {s = s} (as-sign {x = x} {c = c} h) w) a n l = alike _ _ x s (unfold move in rw (h, ne_eqb c space (omega arith), ne_eqb c lbra a.1))
item-is (next (as-dots h k) w) a n l = absurd a

-- ---- the scan from one state to another, with the tokens us still to come
record Goes (t : State) (s : List ℕ) (t' : State) (us : List Token) : Type 0 where
  rest : List ℕ
  laid : Tokens us rest
  same : scan t s ≡ scan t' rest

goes : {t t' : State} {s : List ℕ} {us : List Token} (s' : List ℕ) → Tokens us s' → scan t s ≡ scan t' s' → Goes t s t' us
goes s' h q = record { rest = s'; laid = h; same = q }

and_then : {t t' t'' : State} {s : List ℕ} {us vs : List Token} → Goes t s t' us → ((s' : List ℕ) → Tokens us s' → Goes t' s' t'' vs) → Goes t s t'' vs
and_then g k = let g' = k g.rest g.laid in goes g'.rest g'.laid (g.same ∙ g'.same)

-- spaces before a token
first : (t : State) → Stays t → {k : Token} {us : List Token} {s : List ℕ} → Tokens (k ∷ us) s
    → (u : List ℕ) × (s' : List ℕ) × Written k u × Tokens us s' × (scan t s ≡ scan t (u ++ s'))
first t e (spaced {x = x} {s = s} h w) = let (u, s', k, v, q) = first t e w in (u, s', k, v, by-class t t x space s h (e _) ∙ q)
first t e (next {u = u} {s = s} w h) = (u, s, w, h, refl)

-- a sign
a-sign : (t t' : State) (c : ℕ) → Stays t → ((d : ℕ) → move t c d ≡ some t') → {us : List Token} {s : List ℕ} → Tokens (sign c ∷ us) s → Goes t s t' us
a-sign t t' c e f h = let (u, s', w, hs, q) = first t e h in goes s' hs (q ∙ at s' w)
  where
    at : {u : List ℕ} (s' : List ℕ) → Written (sign c) u → scan t (u ++ s') ≡ scan t' s'
    at s' (as-sign {x = x} k) = by-class t t' x c s' k (f _)

-- the two dots
two-dots : (a b : ℕ) (l : Left) {us : List Token} {s : List ℕ} → Tokens (dots ∷ us) s → Goes (counted (from a) b l) s (bound (upto a b) l) us
unfolding move
two-dots a b l h = let (u, s', w, hs, q) = first (counted (from a) b l) (λ d. refl) h in goes s' hs (q ∙ at s' w)
  where
    at : {u : List ℕ} (s' : List ℕ) → Written dots u → scan (counted (from a) b l) (u ++ s') ≡ scan (bound (upto a b) l) s'
    at s' (as-dots {x = x} {y = y} j k) =
        by-class _ (dotted a b l) x dot (y ∷ s') j (unfold move in refl) ∙ by-class _ (bound (upto a b) l) y dot s' k (unfold move in refl)

-- a number, from a state t that takes a digit to the part p
a-number : (p : Part) (l : Left) (t : State) → Stays t → ((d : ℕ) → move t digit d ≡ some (digits p d l))
    → (n : ℕ) {us : List Token} {s : List ℕ} → Tokens (number n ∷ us) s → Apart us → Goes t s (counted p n l) us
a-number p l t e f n h a = let (u, s', w, hs, q) = first t e h in goes s' hs (q ∙ written s' w ∙ settles hs a p n l)
  where
    at : {m : ℕ} {u : List ℕ} (s' : List ℕ) → Built m u → scan t (u ++ s') ≡ scan (digits p m l) s'
    at s' (starts x h) = by-class t _ x digit s' h (f _)
    at s' (more {n = m} {u = u} b x g) =
        ap (scan t) (append_assoc u (x ∷ []) s') ∙ at (x ∷ s') b ∙ on (digits p m l) (digits p (10 * m + value x) l) x s' (unfold move in rw g)

    written : {m : ℕ} {u : List ℕ} (s' : List ℕ) → Written (number m) u → scan t (u ++ s') ≡ scan (digits p m l) s'
    written s' (as_number k) = at s' (built k)

a-range : (a b c : ℕ) (l : Left) {us : List Token} {s : List ℕ}
    → Tokens (number a ∷ sign lbra ∷ number b ∷ dots ∷ number c ∷ sign rbra ∷ us) s
    → Goes (want l) s (finish l (term (range a b c))) us
unfolding move
a-range a b c l h =
    and_then (a-number alone l (want l) (λ d. refl) (λ d. refl) a h (lit< tt)) λ s h.
    and_then (a-sign (counted alone a l) (bound (from a) l) lbra (λ d. refl) (λ d. refl) h) λ s h.
    and_then (a-number (from a) l (bound (from a) l) (λ d. refl) (λ d. refl) b h tt) λ s h.
    and_then (two-dots a b l h) λ s h.
    and_then (a-number (upto a b) l (bound (upto a b) l) (λ d. refl) (λ d. refl) c h (lit< tt)) λ s h.
    a-sign (counted (upto a b) c l) (finish l (term (range a b c))) rbra (λ d. refl) (λ d. refl) h

-- ---- what is read at each level
-- what stood before the last |, and what stands after it
record Ored (e : Expr) (o : List Frame) (s : List ℕ) (us : List Token) : Type 0 where
  b : Option Expr
  a : Expr
  is : or-to b a ≡ e
  runs_to : Goes (want (record { bars = none; amps = none; outer = o })) s (done a b o) us

abbrev Claim : Level → Expr → List Token → List ℕ → Type 0
Claim item e us s = (l : Left) → Goes (want l) s (finish l e) us
Claim ands e us s = (b : Option Expr) (o : List Frame) → Goes (want (record { bars = b; amps = none; outer = o })) s (done e b o) us
Claim ors e us s = (o : List Frame) → Ored e o s us

regroup : (ts : List Token) (k : Token) (vs us : List Token) {s : List ℕ} → Tokens ((ts ++ (k ∷ vs)) ++ us) s → Tokens (ts ++ (k ∷ (vs ++ us))) s
regroup ts k vs us h = rw append_assoc at h

runs : {k : Level} {ts : List Token} {e : Expr} → Parses k ts e → (us : List Token) → After us → (s : List ℕ) → Tokens (ts ++ us) s → Claim k e us s
unfolding move
runs (single {n = n}) us a s h = λ l.
    let g = a-number alone l (want l) (λ d. refl) (λ d. refl) n h (apart us a) in
    goes g.rest g.laid (g.same ∙ item-is g.laid a n l)
runs (between {s = x} {i = i} {j = j}) us a s h = λ l. a-range x i j l h
runs (bracket {ts = ts} {e = e} r) us a s h = λ l.
    and_then (a-sign (want l) (want (opened l)) lpar (λ d. refl) (λ d. refl) h) λ s h.
    let o : List Frame = record { bars = l.bars; amps = l.amps } ∷ l.outer in
    let w = runs r (sign rpar ∷ us) (lit< tt, λ q. absurd (omega arith)) s (regroup ts (sign rpar) [] us h) o in
    and_then w.runs_to λ s h.
    a-sign (done w.a w.b o) (finish l e) rpar (λ d. refl) (λ d. (ap (λ (x : Expr). some (finish l x)) w.is)) h
runs (an_item r) us a s h = λ b o. runs r us a s h (record { bars = b; amps = none; outer = o })
runs (and {ts = ts} {us = vs} {a = x} {b = y} r q) us a s h = λ b o.
    and_then (runs r (sign amp ∷ (vs ++ us)) (lit< tt, λ q. absurd (omega arith)) s (regroup ts (sign amp) vs us h) b o) λ s h.
    and_then (a-sign (done x b o) (want (anded x b o)) amp (λ d. refl) (λ d. refl) h) λ s h.
    runs q us a s h (anded x b o)
runs (an-and {e = e} r) us a s h = λ o. record { b = none; a = e; is = refl; runs_to = runs r us a s h none o }
runs (or {ts = ts} {us = vs} {a = x} {b = y} r q) us a s h = λ o.
    let w = runs r (sign bar ∷ (vs ++ us)) (lit< tt, λ q. absurd (omega arith)) s (regroup ts (sign bar) vs us h) o in
    record {
      b = some x;
      a = y;
      is = refl;
      runs_to = and_then w.runs_to λ s h.
          let f : Expr → State = λ z. want (record { bars = some z; amps = none; outer = o }) in
          and_then (a-sign (done w.a w.b o) (f x) bar (λ d. refl) (λ d. (ap (λ (z : Expr). some (f z)) w.is)) h) λ s h.
          runs q us a s h (some x) o;
    }

-- ---- the end
at-end : (t : State) → Stays t → {s : List ℕ} → Tokens [] s → scan t s ≡ ends t
at-end t e end = unfold scan in refl
at-end t e (spaced {x = x} {s = s} h w) = by-class t t x space s h (e _) ∙ at-end t e w

-- a text that says e is scanned to it
pub complete : {s : List ℕ} {e : Expr} → Says s e → scan (want fresh) s ≡ some e
unfolding move ends
complete {s = s} (ts, h, r) =
    let w = runs r [] tt s (rw append-nil h) [] in
    w.runs_to.same ∙ at-end (done w.a w.b []) (λ d. refl) w.runs_to.laid ∙ ap some w.is

-- a blank text says nothing
pub blank-says-nothing : {s : List ℕ} → Tokens [] s → scan (want fresh) s ≡ none
unfolding move ends
blank-says-nothing h = at-end (want fresh) (λ d. refl) h

-- a text says one expression
pub one-expression : {s : List ℕ} {e f : Expr} → Says s e → Says s f → e ≡ f
one-expression g h = let p = complete g in let q = complete h in cc

blank-or-whole : {s : List ℕ} {e : Expr} → Tokens [] s → Says s e → ⊥
blank-or-whole h w = let p = blank-says-nothing h in let q = complete w in let z : ◌≡◌ {A = ℕ} 0 1 = cc in omega arith

-- a text gives one string of bytes
pub one-reading : {s b c : List ℕ} → TextOf s b → TextOf s c → b ≡ c
one-reading (blank h) (blank k) = refl
one-reading (blank h) (whole w) = absurd (blank-or-whole h w)
one-reading (whole w) (blank h) = absurd (blank-or-whole h w)
one-reading (whole w) (whole v) = ap bytes (one-expression w v)
