-- What the scan has read at each state is the beginning of a text, read by the grammar; so what it takes to the end is legal. Assumes nothing.
use Rattle.std.specs.Prelude.{◌≡◌, refl, Bool, true, false, ℕ, eqb}
use Rattle.std.proofs.Common.{subst, arith, eqb-true}
use Rattle.std.proofs.Math.Option.{Option, none, some}
use mathlib.Core.List.{List, [], ◌∷◌, ◌++◌, append_assoc, append-nil}
use Rattle.expression.specs.Expression.{Expr, term, one}
use Rattle.text.specs.Classes.{class_of, value, pick, digit, space, amp, bar, lpar, rpar, lbra, rbra, dot}
use Rattle.text.specs.Text.{Number, one-digit, Token, number, sign, dots, Written, as_number, as-sign, as-dots, Tokens, end, spaced, next}
use Rattle.text.specs.Text.{Level, item, ands, ors, Parses, single, between, bracket, an_item, and, an-and, or, Says}
use Rattle.text.specs.Numbers.{longer}
use Rattle.text.specs.Scan.{Frame, Left, Part, alone, from, upto, State, want, bound, digits, counted, dotted, done, fresh, and-to, or-to, shut, anded}
use Rattle.text.specs.Scan.{ored, after_item, after_number, grows, move, step, item_end, number_end, ends, Reached, at_first, by_byte}

-- ---- one space more, one token more
space-more : {ts : List Token} {u : List ℕ} (x : ℕ) → class_of x ≡ space → Tokens ts u → Tokens ts (u ++ (x ∷ []))
space-more x e end = spaced e end
space-more x e (spaced h w) = spaced h (space-more x e w)
space-more x e (next w h) = rw append_assoc (next w (space-more x e h))

token-more : {ts : List Token} {u : List ℕ} {k : Token} {v : List ℕ} → Tokens ts u → Written k v → Tokens (ts ++ (k ∷ [])) (u ++ v)
token-more {k = k} {v = v} end w = subst (λ (x : List ℕ). Tokens (k ∷ []) x) (append-nil v) (next w end)
token-more (spaced h w) k = spaced h (token-more w k)
token-more (next e h) k = rw append_assoc (next e (token-more h k))

-- ---- what was read before: nothing, or what c joins to what comes
data Before (k : Level) (c : ℕ) : Option Expr → List Token → Type 0 where
  nothing : Before k c none []
  joined : {ts : List Token} {e : Expr} → Parses k ts e → Before k c (some e) (ts ++ (sign c ∷ []))

ands-of : {a : Option Expr} {e : Expr} {ts us : List Token} → Before ands amp a ts → Parses item us e → Parses ands (ts ++ us) (and-to a e)
ands-of nothing r = an_item r
ands-of (joined q) r = rw append_assoc (and q r)

ors-of : {b : Option Expr} {e : Expr} {ts us : List Token} → Before ors bar b ts → Parses ands us e → Parses ors (ts ++ us) (or-to b e)
ors-of nothing r = an-and r
ors-of (joined q) r = rw append_assoc (or q r)

-- the parentheses that are open
data Outer : List Frame → List Token → Type 0 where
  outermost : Outer [] []
  within : {f : Frame} {o : List Frame} {t0 t1 t2 : List Token} → Outer o t0 → Before ors bar f.bars t1
      → Before ands amp f.amps t2 → Outer (f ∷ o) (t0 ++ (t1 ++ (t2 ++ (sign lpar ∷ []))))

-- the tokens before an item
record Wants (l : Left) (ts : List Token) : Type 0 where
  t0 : List Token
  t1 : List Token
  t2 : List Token
  outer : Outer l.outer t0
  bars : Before ors bar l.bars t1
  amps : Before ands amp l.amps t2
  is : ts ≡ t0 ++ (t1 ++ t2)

-- the tokens up to the end of an item
record Does (e : Expr) (b : Option Expr) (o : List Frame) (ts : List Token) : Type 0 where
  t0 : List Token
  t1 : List Token
  us : List Token
  outer : Outer o t0
  bars : Before ors bar b t1
  reads : Parses ands us e
  is : ts ≡ t0 ++ (t1 ++ us)

finished : {l : Left} {e : Expr} {ts us : List Token} → Wants l ts → Parses item us e → Does (and-to l.amps e) l.bars l.outer (ts ++ us)
finished {us = us} w r = record {
  t0 = w.t0;
  t1 = w.t1;
  us = w.t2 ++ us;
  outer = w.outer;
  bars = w.bars;
  reads = ands-of w.amps r;
  is = rw w.is (simp append_assoc);
}

-- the tokens of an item of which the part p is to come
abbrev plus : Part → List Token → List Token
plus alone ts = ts
plus (from s) ts = ts ++ (number s ∷ sign lbra ∷ [])
plus (upto s i) ts = ts ++ (number s ∷ sign lbra ∷ number i ∷ dots ∷ [])

record Wanting (p : Part) (l : Left) (u : List ℕ) : Type 0 where
  ts : List Token
  laid : Tokens (plus p ts) u
  wants : Wants l ts

record Digits (p : Part) (n : ℕ) (l : Left) (u : List ℕ) : Type 0 where
  v : List ℕ
  w : List ℕ
  wanting : Wanting p l v
  written : Number n w
  is : u ≡ v ++ w

record Counted (p : Part) (n : ℕ) (l : Left) (u : List ℕ) : Type 0 where
  ts : List Token
  laid : Tokens (plus p ts ++ (number n ∷ [])) u
  wants : Wants l ts

record Dotted (s i : ℕ) (l : Left) (u : List ℕ) : Type 0 where
  v : List ℕ
  x : ℕ
  number-before : Counted (from s) i l v
  class : class_of x ≡ dot
  is : u ≡ v ++ (x ∷ [])

-- at the state t the text u was read
abbrev Means : State → List ℕ → Type 0
Means (want l) u = Wanting alone l u
Means (bound p l) u = Wanting p l u
Means (digits p n l) u = Digits p n l u
Means (counted p n l) u = Counted p n l u
Means (dotted s i l) u = Dotted s i l u
Means (done e b o) u = (ts : List Token) × Tokens ts u × Does e b o ts

-- ---- a byte more
by-pick : (c : Bool) {a b : Option State} {t : State} {P : Type 0} → pick c a b ≡ some t → (c ≡ true → a ≡ some t → P) → (b ≡ some t → P) → P
by-pick true e f g = f refl e
by-pick false e f g = g e

never : {t : State} {P : Type 0} → ◌≡◌ {A = Option State} none (some t) → P
never e = let z : ◌≡◌ {A = ℕ} 0 1 = cc in absurd (omega arith)

to : {t t' : State} (v : List ℕ) → ◌≡◌ {A = Option State} (some t) (some t') → Means t v → Means t' v
to {t} {t'} v e h = let q : t ≡ t' = cc in subst (λ (z : State). Means z v) q h

module _ (x : ℕ) (u : List ℕ) (t : State) where
  abbrev u' : List ℕ
  u' = u ++ (x ∷ [])

  -- the sign of class c
  a-sign : {ts : List Token} (c : ℕ) → eqb (class_of x) c ≡ true → Tokens ts u → Tokens (ts ++ (sign c ∷ [])) u'
  a-sign c e h = token-more h (as-sign (eqb-true _ c e))

  a-space : {ts : List Token} → eqb (class_of x) space ≡ true → Tokens ts u → Tokens ts u'
  a-space e h = space-more x (eqb-true _ space e) h

  -- after an item
  on-amp : {ts : List Token} (e : Expr) (b : Option Expr) (o : List Frame) → Does e b o ts → Wants (anded e b o) (ts ++ (sign amp ∷ []))
  on-amp e b o d = record {
    t0 = d.t0;
    t1 = d.t1;
    t2 = d.us ++ (sign amp ∷ []);
    outer = d.outer;
    bars = d.bars;
    amps = joined d.reads;
    is = rw d.is (simp append_assoc);
  }

  on-bar : {ts : List Token} (e : Expr) (b : Option Expr) (o : List Frame) → Does e b o ts → Wants (ored e b o) (ts ++ (sign bar ∷ []))
  on-bar e b o d = record {
    t0 = d.t0;
    t1 = (d.t1 ++ d.us) ++ (sign bar ∷ []);
    t2 = [];
    outer = d.outer;
    bars = joined (ors-of d.bars d.reads);
    amps = nothing;
    is = rw d.is (simp (append_assoc, append-nil));
  }

  on-shut : (e : Expr) {o : List Frame} {t0 us : List Token} → Outer o t0 → Parses ors us e
      → Tokens ((t0 ++ us) ++ (sign rpar ∷ [])) u' → shut e o ≡ some t → Means t u'
  on-shut e outermost r h q = never q
  on-shut e {us = us} (within {f = f} {t0 = t0} {t1 = t1} {t2 = t2} o b a) r h q = to u' q (
    (t0 ++ (t1 ++ t2)) ++ (sign lpar ∷ (us ++ (sign rpar ∷ []))),
    subst (λ (z : List Token). Tokens z u') (simp append_assoc) h,
    finished {l = record { bars = f.bars; amps = f.amps; outer = _ }}
        (record { t0 = t0; t1 = t1; t2 = t2; outer = o; bars = b; amps = a; is = refl }) (bracket r),
  )

  on-item : (e : Expr) (b : Option Expr) (o : List Frame) (ts : List Token) → Tokens ts u → Does e b o ts → after_item e b o (class_of x) ≡ some t → Means t u'
  on-item e b o ts h d q =
      by-pick (eqb (class_of x) amp) q (λ c q. to u' q (record { ts = ts ++ (sign amp ∷ []); laid = a-sign amp c h; wants = on-amp e b o d })) λ q.
      by-pick (eqb (class_of x) bar) q (λ c q. to u' q (record { ts = ts ++ (sign bar ∷ []); laid = a-sign bar c h; wants = on-bar e b o d })) λ q.
      by-pick (eqb (class_of x) rpar) q (λ c q.
      let h' = subst (λ (z : List Token). Tokens (z ++ (sign rpar ∷ [])) u') d.is (a-sign rpar c h) in
      on-shut (or-to b e) d.outer (ors-of d.bars d.reads) h' q) never

  -- after a number
  on-number : (p : Part) (n : ℕ) (l : Left) → Counted p n l u → after_number p n l (class_of x) ≡ some t → Means t u'
  on-number alone n l h q =
      by-pick (eqb (class_of x) lbra) q (λ c q. to u' q (record {
        ts = h.ts;
        laid = subst (λ (z : List Token). Tokens z u') (append_assoc h.ts _ _) (a-sign lbra c h.laid);
        wants = h.wants;
      })) λ q.
      on-item (and-to l.amps (term (one n))) l.bars l.outer (h.ts ++ (number n ∷ [])) h.laid (finished h.wants single) q
  on-number (from s) n l h q =
      by-pick (eqb (class_of x) dot) q (λ c q. to u' q (record { v = u; x = x; number-before = h; class = eqb-true _ dot c; is = refl })) never
  on-number (upto s i) n l h q =
      by-pick (eqb (class_of x) rbra) q (λ c q. to u' q (
        h.ts ++ (number s ∷ sign lbra ∷ number i ∷ dots ∷ number n ∷ sign rbra ∷ []),
        subst (λ (z : List Token). Tokens z u') (simp append_assoc) (a-sign rbra c h.laid),
        finished h.wants between,
      )) never

  on-counted : (p : Part) (n : ℕ) (l : Left) → Counted p n l u
      → pick (eqb (class_of x) space) (some (counted p n l)) (after_number p n l (class_of x)) ≡ some t
      → Means t u'
  on-counted p n l h q =
      by-pick (eqb (class_of x) space) q (λ c q. to u' q (record { ts = h.ts; laid = a-space c h.laid; wants = h.wants })) λ q.
      on-number p n l h q

  settled : (p : Part) (n : ℕ) (l : Left) → Digits p n l u → Counted p n l u
  settled p n l h = record { ts = h.wanting.ts; laid = rw h.is (token-more h.wanting.laid (as_number h.written)); wants = h.wanting.wants }

  a-digit : (p : Part) (l : Left) → Wanting p l u → eqb (class_of x) digit ≡ true → Digits p (value x) l u'
  a-digit p l h c = record { v = u; w = x ∷ []; wanting = h; written = one-digit (eqb-true _ digit c); is = refl }

  step-sound : (t₀ : State) → Means t₀ u → step t₀ x ≡ some t → Means t u'
  unfolding move
  step-sound (want l) h q =
      by-pick (eqb (class_of x) space) q (λ c q. to u' q (record { ts = h.ts; laid = a-space c h.laid; wants = h.wants })) λ q.
      by-pick (eqb (class_of x) lpar) q (λ c q. to u' q (let w = h.wants in record {
        ts = h.ts ++ (sign lpar ∷ []);
        laid = a-sign lpar c h.laid;
        wants = record {
          t0 = w.t0 ++ (w.t1 ++ (w.t2 ++ (sign lpar ∷ [])));
          t1 = [];
          t2 = [];
          outer = within w.outer w.bars w.amps;
          bars = nothing;
          amps = nothing;
          is = rw w.is (simp (append_assoc, append-nil));
        };
      })) λ q.
      by-pick (eqb (class_of x) digit) q (λ c q. to u' q (a-digit alone l h c)) never
  step-sound (bound p l) h q =
      by-pick (eqb (class_of x) space) q (λ c q. to u' q (record { ts = h.ts; laid = a-space c h.laid; wants = h.wants })) λ q.
      by-pick (eqb (class_of x) digit) q (λ c q. to u' q (a-digit p l h c)) never
  step-sound (digits p n l) h q =
      by-pick (grows n (class_of x) (value x)) q (λ c q. to u' q (record {
        v = h.v;
        w = h.w ++ (x ∷ []);
        wanting = h.wanting;
        written = longer h.written x c;
        is = rw h.is (append_assoc h.v h.w (x ∷ []));
      })) λ q.
      on-counted p n l (settled p n l h) q
  step-sound (counted p n l) h q = on-counted p n l h q
  step-sound (dotted s i l) h q =
      by-pick (eqb (class_of x) dot) q (λ c q. to u' q (let k = h.number-before in record {
        ts = k.ts;
        laid = rw (h.is, append_assoc) (simp append_assoc at (token-more k.laid (as-dots h.class (eqb-true (class_of x) dot c))));
        wants = k.wants;
      })) never
  step-sound (done e b o) h q =
      by-pick (eqb (class_of x) space) q (λ c q. to u' q (h.0, a-space c h.1, h.2)) λ q.
      on-item e b o h.0 h.1 h.2 q

means : {u : List ℕ} {t : State} → Reached u t → Means t u
means at_first = record { ts = []; laid = end; wants = record { t0 = []; t1 = []; t2 = []; outer = outermost; bars = nothing; amps = nothing; is = refl } }
means (by_byte {u = u} {t = t} {t' = t'} x r e) = step-sound x u t' t (means r) e

-- ---- the end
module _ (u : List ℕ) (s : Expr) where
  not_there : {P : Type 0} → ◌≡◌ {A = Option Expr} none (some s) → P
  not_there e = let z : ◌≡◌ {A = ℕ} 0 1 = cc in absurd (omega arith)

  outer-end : (e : Expr) (b : Option Expr) {o : List Frame} {t0 us : List Token} → Outer o t0
      → Parses ors us (or-to b e) → Tokens (t0 ++ us) u → item_end e b o ≡ some s → Says u s
  outer-end e b {us = us} outermost r h q = let p : or-to b e ≡ s = cc in (us, h, subst (Parses ors us) p r)
  outer-end e b (within o c a) r h q = not_there q

  item-end : (e : Expr) (b : Option Expr) (o : List Frame) (ts : List Token) → Tokens ts u → Does e b o ts → item_end e b o ≡ some s → Says u s
  item-end e b o ts h d q = outer-end e b d.outer (ors-of d.bars d.reads) (subst (λ (z : List Token). Tokens z u) d.is h) q

  number-end : (p : Part) (n : ℕ) (l : Left) → Counted p n l u → number_end p n l ≡ some s → Says u s
  number-end alone n l h q = item-end (and-to l.amps (term (one n))) l.bars l.outer (h.ts ++ (number n ∷ [])) h.laid (finished h.wants single) q
  number-end (from a) n l h q = not_there q
  number-end (upto a i) n l h q = not_there q

  end-sound : (t : State) → Means t u → ends t ≡ some s → Says u s
  unfolding ends
  end-sound (want l) h q = not_there q
  end-sound (bound p l) h q = not_there q
  end-sound (digits p n l) h q = number-end p n l (settled 0 u (want fresh) p n l h) q
  end-sound (counted p n l) h q = number-end p n l h q
  end-sound (dotted a i l) h q = not_there q
  end-sound (done e b o) h q = item-end e b o h.0 h.1 h.2 q

-- a text that leads to a state where it may end says what the state says
pub sound : {u : List ℕ} {t : State} {e : Expr} → Reached u t → ends t ≡ some e → Says u e
sound {u = u} {t = t} {e = e} r q = end-sound u e t (means r) q
