-- The laws of signs, numbers, ranges, items and levels: each follows from those that it is made of. Assumes nothing.
use mathlib.Core.Path.{◌≡◌, refl, sym, ap, ◌∙◌, subst}
use mathlib.Core.Bool.{Bool, true, false, true≢false, false≢true}
use mathlib.Core.Option.{Option, none, some}
use mathlib.Core.List.{List, [], ◌∷◌, ◌++◌, append_assoc, append-nil}
use Prim.Native.Nat.{ℕ, zero, suc, ◌+◌, ◌*◌, ◌<◌, ◌≤◌}
use native.Mathlib.Omega.{arith}
use lib.Dec.{eqb}
use borrow.Author.Tests.{eq-eqb}
use lib.ListN.{length, get_or}
use Rattle.std.specs.Prelude.{Result, Err}
use Rattle.std.specs.Result.{IsErrAnd}
use Rattle.std.proofs.lemmas.Result.{err_from_is_err_and}
use Rattle.answer.specs.Faults.{FaultAt}
use Rattle.expression.specs.Expression.{Expr, term, one, range}
use Rattle.expression.specs.Bytes.{bytes}
use Rattle.text.specs.Classes.{class_of, value, pick, digit, space, amp, bar, lpar, rpar, lbra, rbra, dot}
use Rattle.text.specs.Text.{Tokens, end, spaced, TextOf, blank, whole, Legal}
use Rattle.text.specs.Scan.{Frame, Left, Part, alone, from, upto, State, want, bound, digits, counted, dotted, done, fresh}
use Rattle.text.specs.Scan.{opened, and-to, or-to, finish, shut, anded, ored, move, ends, at_first, Reaches}
use Rattle.text.specs.Place.{said, fault}
use Rattle.text.specs.Kept.{HowMany, Kept, Appends, Inserts}
use Rattle.text.specs.Reader.{Reading, read_on, read_as, class_at, grows_at, stands_next, next_byte, At}
use Rattle.text.specs.Reader.{Good, On, Holds, Skipped, PastByte, Stops, Spaced, Counts}
use Rattle.text.specs.Reader.{Needs, Signed, Dotted, Numbered, Ranged, Item, front, Ands, Ors}
use Rattle.text.specs.declared.made.Made.{Made}
use Rattle.text.specs.declared.reader.Fault.{Fault}
use Rattle.text.specs.declared.reader.Reader.{Reader}
use Rattle.text.proofs.Laws.{class-not, like, alike, at-like, at-stop, takes, at_sign, needs-there, Counting, count-first, count-more, count-end}
use Rattle.text.proofs.Laws.{zero-grows-not, two-grow-not, no-digit-grows-not}

abbrev stopped_at : List ℕ → ℕ → Made → Reading
stopped_at s k m = record { text = s; ok = false; at = k; made = m }

abbrev with_made : Reading → Made → Reading
with_made g m = record g { made = m }

-- ---- one reading beside another, and one after another
pub beside-good : {g : Reading} (m : Made) → Good g → Good (with_made g m)
beside-good m h = record { within = h.within; clear = h.clear }

beside-on : {g r : Reading} (m : Made) → On g r → On g (with_made r m)
beside-on m h = record { same = h.same; on = h.on; was = h.was; good = beside-good m h.good }

then-on : {g a r : Reading} → On g a → On a r → On g r
then-on h k = record { same = k.same ∙ h.same; on = omega (arith, h.on, k.on); was = λ ok. h.was (k.was ok); good = k.good }

-- a reader that stays in its text
stays-on : (r : Reader) (q : ℕ) → r.at ≤ q → q ≤ length r.text.now → class_at r.text.now q space ≡ false → On (read_on r) (record (read_on r) { at = q })
stays-on r q h k c = record { same = refl; on = h; was = λ z. z; good = record { within = k; clear = λ _. c } }

stop-on : (r : Reader) → r.at ≤ length r.text.now → On (read_on r) (stopped_at r.text.now r.at r.made)
stop-on r h = record {
  same = refl;
  on = omega arith;
  was = λ z. absurd (false≢true z);
  good = record { within = h; clear = λ z. absurd (false≢true z) };
}

-- a fault where the reader stands
stop-is : (r : Reader) (c : ℕ) (r' : Reader) (f : Fault) → Stops r c r' f → stopped_at r'.text.now f.at r'.made ≡ stopped_at r.text.now r.at r.made
stop-is r c r' f d =
    ap (λ (z : Reader). stopped_at z.text.now f.at z.made) d.is ∙ ap (λ (k : ℕ). stopped_at r.text.now k r.made) d.there

-- the fault that a `?` hands on
pub handed : {T : Type 0} (x : Result T Fault) (f : Fault) → IsErrAnd x (λ e. e ≡ f) → x ≡ Err f
handed x f h = let p = err_from_is_err_and x h in p.1 ∙ ap Err p.2

pub stopped_there : {T : Type 0} (r : Reader) (x : Result T Fault) (f : Fault) → IsErrAnd x (λ e. e ≡ f) → read_as r x ≡ stopped_at r.text.now f.at r.made
stopped_there r x f h = ap (read_as r) (handed x f h)

-- ---- where a reading was stopped, it stays so
module _ (s : List ℕ) (k : ℕ) (m : Made) (h : k ≤ length s) where
  abbrev Still : Reading
  Still = stopped_at s k m

  still : On Still Still
  still = record { same = refl; on = omega arith; was = λ z. z; good = record { within = h; clear = λ z. absurd (false≢true z) } }

  pub still-signed : (c : ℕ) → Signed Still c Still
  still-signed c = record { on = still; past = λ z. absurd (false≢true z); moves = λ t t' n st r. r; holds = λ w r z. absurd (false≢true z) }

  pub still-dotted : Dotted Still Still
  still-dotted = record { on = still; moves = λ n i l r. r; holds = λ w r z. absurd (false≢true z) }

  pub still-numbered : Numbered Still Still
  still-numbered = record { on = still; n = 0; moves = λ t p l n r. r; holds = λ w r z. absurd (false≢true z) }

  pub still-ands : (start : ℕ) → Ands start Still Still
  still-ands start = record {
    on = still;
    no-amp = λ z. absurd (false≢true z);
    e = λ _. term (one 0);
    moves = λ b a o r. r;
    holds = λ a v f r z. absurd (false≢true z);
  }

  pub still-ors : (start : ℕ) → Ors start Still Still
  still-ors start = record {
    on = still;
    no-amp = λ z. absurd (false≢true z);
    no-bar = λ z. absurd (false≢true z);
    b = λ _. none;
    e = λ _. term (one 0);
    moves = λ x o r. r;
    holds = λ x v f r z. absurd (false≢true z);
  }

-- ---- a sign
module _ (r : Reader) (c : ℕ) where
  sign-there : stands_next r c ≡ true → (q : ℕ) → Skipped r.text.now (r.at + 1) q → Signed (read_on r) c (record (read_on r) { at = q })
  sign-there e q k = record {
    on = stays-on r q (omega (arith, k.on)) k.within k.clear;
    past = λ _ _. omega (arith, k.on);
    moves = λ t t' n st h. k.moves t' st (at_sign r.text.now r.at c t t' e (n refl) h);
    holds = λ w h. h;
  }

  pub sign-past : (a : Reader) → PastByte r c a → (r' : Reader) → Spaced a r' → Signed (read_on r) c (read_on r')
  sign-past a p r' d =
      subst (Signed (read_on r) c) (sym (ap read_on (d.is ∙ ap (λ (z : Reader). record z { at = r'.at }) p.is)))
      (sign-there p.stood r'.at (subst (λ (z : Reader). Skipped z.text.now z.at r'.at) p.is d.skipped))

  pub sign-not : r.at ≤ length r.text.now → (r' : Reader) (f : Fault) → Stops r c r' f → Signed (read_on r) c (stopped_at r'.text.now f.at r'.made)
  sign-not h r' f d = subst (Signed (read_on r) c) (sym (stop-is r c r' f d)) (record {
    on = stop-on r h;
    past = λ _ e. absurd (false≢true (sym d.other ∙ e));
    moves = λ t t' n st k. at-stop r.text.now r.at c t t' d.other (n refl) k;
    holds = λ w k z. absurd (false≢true z);
  })

-- ---- what may come where no space stands
module _ (s : List ℕ) (k : ℕ) (clear : class_at s k space ≡ false) where
  needs-digit : (p : Part) (l : Left) → Needs s k digit (bound p l) (digits p (value (get_or s k 0)) l)
  needs-digit p l = record { byte = λ h. (unfold move in rw (class-not s k space h clear)); end = λ _. (unfold ends in refl) }

  needs-dot : (n i : ℕ) (l : Left) → Needs s k dot (counted (from n) i l) (dotted n i l)
  needs-dot n i l = record { byte = λ h. (unfold move in rw (class-not s k space h clear)); end = λ _. (unfold ends in refl) }

  needs-rbra : (n i j : ℕ) (l : Left) → Needs s k rbra (counted (upto n i) j l) (finish l (term (range n i j)))
  needs-rbra n i j l = record { byte = λ h. (unfold move in rw (class-not s k space h clear)); end = λ _. (unfold ends in refl) }

  needs-first : class_at s k lpar ≡ false → (l : Left) → Needs s k digit (want l) (digits alone (value (get_or s k 0)) l)
  needs-first o l = record { byte = λ h. (unfold move in rw (class-not s k space h clear, class-not s k lpar h o)); end = λ _. (unfold ends in refl) }

  needs-rpar : class_at s k amp ≡ false → class_at s k bar ≡ false
      → (e : Expr) (b : Option Expr) (f : Frame) (o : List Frame)
      → Needs s k rpar (done e b (f ∷ o)) (done (and-to f.amps (or-to b e)) f.bars o)
  needs-rpar a c e b f o = record {
    byte = λ h. (unfold move in rw (class-not s k space h clear, class-not s k amp h a, class-not s k bar h c));
    end = λ _. (unfold ends in refl);
  }

needs-dotted : (s : List ℕ) (k n i : ℕ) (l : Left) → Needs s k dot (dotted n i l) (bound (upto n i) l)
needs-dotted s k n i l = record { byte = λ h. (unfold move in refl); end = λ _. (unfold ends in refl) }

-- ---- two dots
module _ (r : Reader) (good : Good (read_on r)) where
  pub dots-on : (a : Reader) → PastByte r dot a → (x : Reading) → Signed (read_on a) dot x → Dotted (read_on r) x
  dots-on a p x e =
      let d : Signed (record (read_on r) { at = r.at + 1 }) dot x = subst (λ (z : Reader). Signed (read_on z) dot x) p.is e in record {
        on = record { same = d.on.same; on = omega (arith, d.on.on); was = λ _. refl; good = d.on.good };
        moves = λ n i l h.
            d.moves (dotted n i l) (bound (upto n i) l) (λ _. needs-dotted _ _ n i l) (λ _. (unfold move in refl))
            (at_sign r.text.now r.at dot (counted (from n) i l) (dotted n i l) p.stood (needs-dot r.text.now r.at (good.clear refl) n i l) h);
        holds = λ w h. d.holds w h;
      }

  pub dots-not : (r' : Reader) (f : Fault) → Stops r dot r' f → Dotted (read_on r) (stopped_at r'.text.now f.at r'.made)
  dots-not r' f d = subst (Dotted (read_on r)) (sym (stop-is r dot r' f d)) (record {
    on = stop-on r good.within;
    moves =
        λ m i l h. at-stop r.text.now r.at dot (counted (from m) i l) (dotted m i l) d.other (needs-dot r.text.now r.at (good.clear refl) m i l) h;
    holds = λ w h z. absurd (false≢true z);
  })

-- ---- a number
module _ (r : Reader) where
  num-there : (n q : ℕ) (m : Made) (a : Reader) → Counts r n a → Skipped r.text.now a.at q → Appends r.made n m
      → Numbered (read_on r) (record (read_on r) { at = q; made = m })
  num-there n q m a ct sk p = record {
    on = beside-on m (stays-on r q (omega (arith, ct.on, sk.on)) sk.within sk.clear);
    n = n;
    moves = λ t w l e h.
        sk.moves (counted w n l) (λ _. (unfold move in refl)) (ct.moves t w l (takes r.text.now r.at digit t _ ct.stood (e refl)) h);
    holds = λ w h z. p w (h z);
  }

  pub num-on : (n : ℕ) (a : Reader) → Counts r n a → (b : Reader) → Spaced a b → (m : Made) → Appends b.made n m
      → Numbered (read_on r) (with_made (read_on b) m)
  num-on n a ct b sk m p =
      let e : b ≡ record r { at = b.at } = sk.is ∙ ap (λ (z : Reader). record z { at = b.at }) ct.is in
      subst (λ (z : Reader). Numbered (read_on r) (with_made (read_on z) m)) (sym e)
      (num-there n b.at m a ct (subst (λ (z : Reader). Skipped z.text.now a.at b.at) ct.is sk.skipped)
      (subst (λ (z : Reader). Appends z.made n m) e p))

  pub num-not : r.at ≤ length r.text.now → (r' : Reader) (f : Fault) → Stops r digit r' f
      → Numbered (read_on r) (stopped_at r'.text.now f.at r'.made)
  num-not h r' f d = subst (Numbered (read_on r)) (sym (stop-is r digit r' f d)) (record {
    on = stop-on r h;
    n = 0;
    moves = λ t w l e k. at-stop r.text.now r.at digit t _ d.other (e refl) k;
    holds = λ w k z. absurd (false≢true z);
  })

-- ---- the digits of a number
module _ (r : Reader) where
  abbrev Past : ℕ → Reader
  Past q = record r { at = q }

  counted_to : (n q : ℕ) → stands_next r digit ≡ true → Counting r.text.now r.at n q → grows_at r.text.now q n ≡ false → Counts r n (Past q)
  counted_to n q e k z = record { is = refl; stood = e; on = k.on; within = k.within; moves = count-end r.text.now r.at n q k z }

  module _ (a : Reader) (p : PastByte r digit a) (d : ℕ) (v : d ≡ value (next_byte r)) where
    first : Counting r.text.now r.at d (r.at + 1)
    first = subst (λ (z : ℕ). Counting r.text.now r.at z (r.at + 1)) (sym v) (count-first r.text.now r.at p.stood)

    pub one-zero : d ≡ 0 → Counts r d a
    one-zero z = subst (Counts r d) (sym p.is) (counted_to d (r.at + 1) p.stood first (zero-grows-not r.text.now (r.at + 1) d (omega arith)))

    pub one-digit-alone : (b : Reader) (f : Fault) → Stops a digit b f → Counts r d b
    one-digit-alone b f q =
        let n : stands_next (Past (r.at + 1)) digit ≡ false = subst (λ (z : Reader). stands_next z digit ≡ false) p.is q.other in
        subst (Counts r d) (sym (q.is ∙ p.is)) (counted_to d (r.at + 1) p.stood first (no-digit-grows-not r.text.now (r.at + 1) d n))

    pub two-digits : d < 10 → (d ≡ 0 → ⊥) → (b : Reader) → PastByte a digit b → (e : ℕ) → e ≡ value (next_byte a) → Counts r (10 * d + e) b
    two-digits l z b q e w =
        let q' : PastByte (Past (r.at + 1)) digit b = subst (λ (z : Reader). PastByte z digit b) p.is q in
        let w' : e ≡ value (get_or r.text.now (r.at + 1) 0) = w ∙ ap (λ (z : Reader). value (next_byte z)) p.is in
        subst (Counts r (10 * d + e)) (sym q'.is)
        (counted_to (10 * d + e) (r.at + 1 + 1) p.stood
        (subst (λ (z : ℕ). Counting r.text.now r.at (10 * d + z) (r.at + 1 + 1)) (sym w')
        (count-more r.text.now r.at d (r.at + 1) first (omega arith) l q'.stood))
        (two-grow-not r.text.now (r.at + 1 + 1) (10 * d + e) (omega arith)))

-- ---- the rest of a range
pub ranged : (g : Reading) → class_at g.text g.at lbra ≡ true → (a : Reading) → Signed g lbra a → (b : Reading) → Numbered a b
    → (c : Reading) → Dotted b c → (d : Reading) → Numbered c d → (r : Reading) → Signed d rbra r → Ranged g r
ranged g y a A b B c C d D r E = record {
  on = then-on A.on (then-on B.on (then-on C.on (then-on D.on E.on)));
  i = B.n;
  j = D.n;
  moves = λ n l h.
      E.moves (counted (upto n B.n) D.n l) _ (λ ok. needs-rbra _ _ (D.on.good.clear ok) n B.n D.n l) (λ _. (unfold move in refl))
      (D.moves (bound (upto n B.n) l) (upto n B.n) l (λ ok. needs-digit _ _ (C.on.good.clear ok) (upto n B.n) l)
      (C.moves n B.n l
      (B.moves (bound (from n) l) (from n) l (λ ok. needs-digit _ _ (A.on.good.clear ok) (from n) l)
      (A.moves (counted alone n l) (bound (from n) l)
      (λ ok. needs-there g.text g.at lbra _ _ y (λ _. (unfold move in refl))) (λ _. (unfold move in refl))
      h))));
  holds = λ w h. E.holds _ (subst (Holds d) (append_assoc w (B.n ∷ []) (D.n ∷ [])) (D.holds _ (C.holds _ (B.holds w (A.holds w h)))));
}

-- the bytes made before start there
starts : (g : Reading) (w : List ℕ) → g.ok ≡ true → Holds g w → HowMany g.made.count w
starts g w ok h = (h ok).count

-- ---- an item
module _ (g : Reading) (good : Good g) where
  -- parentheses
  pub shuts : class_at g.text g.at lpar ≡ true → (a : Reading) → Signed g lpar a → (o : Reading) → Ors g.made.count a o
      → (r : Reading) → Signed o rpar r → Item g r
  shuts y a A o O r C = record {
    on = then-on A.on (then-on O.on C.on);
    e = or-to (O.b none) (O.e none);
    moves = λ l h. C.moves (done (O.e none) (O.b none) (record { bars = l.bars; amps = l.amps } ∷ l.outer)) (finish l (or-to (O.b none) (O.e none)))
        (λ ok. needs-rpar _ _ (O.on.good.clear ok) (O.no-amp ok) (O.no-bar ok) _ _ _ _) (λ _. (unfold move in refl))
        (O.moves none (record { bars = l.bars; amps = l.amps } ∷ l.outer)
        (A.moves (want l) (want (opened l)) (λ ok. needs-there g.text g.at lpar _ _ y (λ _. (unfold move in refl)))
        (λ _. (unfold move in refl)) h));
    holds =
        λ w h ok. C.holds _
        (O.holds none w (starts g w (A.on.was (O.on.was (C.on.was ok))) h) (subst (Holds a) (sym (append-nil w)) (A.holds w h))) ok;
  }

  module _ (n : class_at g.text g.at lpar ≡ false) (a : Reading) (A : Numbered g a) where
    to_number : (l : Left) → At g (want l) → At a (counted alone A.n l)
    to_number l h = A.moves (want l) alone l (λ ok. needs-first g.text g.at (good.clear ok) n l) h

    -- a number with no range after it
    as-item : (a.ok ≡ true → class_at a.text a.at lbra ≡ false) → (l : Left) → At a (counted alone A.n l) → At a (finish l (term (one A.n)))
    as-item z l h = at-like a.text a.ok a.at (counted alone A.n l) (finish l (term (one A.n)))
        (λ ok.
        alike a.text a.at _ _ (λ k. (unfold move in rw (class-not a.text a.at space k (A.on.good.clear ok), class-not a.text a.at lbra k (z ok))))
        (λ _. (unfold ends in refl))) h

    pub one_number : (a.ok ≡ true → class_at a.text a.at lbra ≡ false) → (m : Made) → (a.ok ≡ true → Inserts a.made g.made.count 1 m)
        → Item g (with_made a m)
    one_number z m p = record {
      on = beside-on m A.on;
      e = term (one A.n);
      moves = λ l h. as-item z l (to_number l h);
      holds = λ w h ok. p ok w (A.n ∷ []) (starts g w (A.on.was ok) h) (A.holds w h ok);
    }

    pub a-range : (c : Reading) → Ranged a c → (m : Made) → (c.ok ≡ true → Inserts c.made g.made.count 2 m) → Item g (with_made c m)
    a-range c C m p = record {
      on = beside-on m (then-on A.on C.on);
      e = term (range A.n C.i C.j);
      moves = λ l h. C.moves A.n l (to_number l h);
      holds =
          λ w h ok. p ok w (A.n ∷ C.i ∷ C.j ∷ []) (starts g w (A.on.was (C.on.was ok)) h)
          (subst (Holds c) (append_assoc w (A.n ∷ []) (C.i ∷ C.j ∷ [])) (C.holds _ (A.holds w h)) ok);
    }

-- ---- items joined by &
bytes-and : (a : Option Expr) (e : Expr) → bytes (and-to a e) ≡ front 3 a ++ bytes e
bytes-and none e = refl
bytes-and (some x) e = refl

bytes-or : (b : Option Expr) (e : Expr) → bytes (or-to b e) ≡ front 4 b ++ bytes e
bytes-or none e = refl
bytes-or (some x) e = refl

module _ (start : ℕ) (g a : Reading) (A : Item g a) where
  -- the bytes after an item, what stands to its left included
  with-left : (x : Option Expr) (v : List ℕ) → Holds g (v ++ front 3 x) → Holds a (v ++ bytes (and-to x A.e))
  with-left x v h =
      subst (Holds a) (append_assoc v (front 3 x) (bytes A.e) ∙ ap (λ (z : List ℕ). v ++ z) (sym (bytes-and x A.e)))
      (A.holds (v ++ front 3 x) h)

  pub and_last : (a.ok ≡ true → class_at a.text a.at amp ≡ false) → Ands start g a
  and_last n = record {
    on = A.on;
    no-amp = n;
    e = λ x. and-to x A.e;
    moves = λ y x o h. A.moves (record { bars = y; amps = x; outer = o }) h;
    holds = λ x v f h. with-left x v h;
  }

  pub and-more : class_at a.text a.at amp ≡ true → (c : Reading) → Signed a amp c → (m : Made) → (c.ok ≡ true → Inserts c.made start 3 m)
      → (r : Reading) → Ands start (with_made c m) r → Ands start g r
  and-more y c C m p r R = record {
    on = then-on A.on (then-on (beside-on m C.on) R.on);
    no-amp = R.no-amp;
    e = λ x. R.e (some (and-to x A.e));
    moves = λ z x o h. R.moves z (some (and-to x A.e)) o
        (C.moves (done (and-to x A.e) z o) (want (anded (and-to x A.e) z o))
        (λ ok. needs-there a.text a.at amp _ _ y (λ _. (unfold move in refl))) (λ _. (unfold move in refl))
        (A.moves (record { bars = z; amps = x; outer = o }) h));
    holds = λ x v f h. R.holds (some (and-to x A.e)) v f (λ ok. p ok v (bytes (and-to x A.e)) f (C.holds _ (with-left x v h) ok));
  }

-- ---- those joined by |
module _ (start : ℕ) (g a : Reading) (A : Ands g.made.count g a) where
  with-left-or : (x : Option Expr) (v : List ℕ) → Holds g (v ++ front 4 x) → Holds a (v ++ bytes (or-to x (A.e none)))
  with-left-or x v h ok = subst (Holds a) (append_assoc v (front 4 x) (bytes (A.e none)) ∙ ap (λ (z : List ℕ). v ++ z) (sym (bytes-or x (A.e none))))
      (A.holds none (v ++ front 4 x) (starts g (v ++ front 4 x) (A.on.was ok) h) (subst (Holds g) (sym (append-nil (v ++ front 4 x))) h)) ok

  pub or-last : (a.ok ≡ true → class_at a.text a.at bar ≡ false) → Ors start g a
  or-last n = record {
    on = A.on;
    no-amp = A.no-amp;
    no-bar = n;
    b = λ x. x;
    e = λ x. A.e none;
    moves = λ x o h. A.moves x none o h;
    holds = λ x v f h. with-left-or x v h;
  }

  pub or-more : class_at a.text a.at bar ≡ true → (c : Reading) → Signed a bar c → (m : Made) → (c.ok ≡ true → Inserts c.made start 4 m)
      → (r : Reading) → Ors start (with_made c m) r → Ors start g r
  or-more y c C m p r R = record {
    on = then-on A.on (then-on (beside-on m C.on) R.on);
    no-amp = R.no-amp;
    no-bar = R.no-bar;
    b = λ x. R.b (some (or-to x (A.e none)));
    e = λ x. R.e (some (or-to x (A.e none)));
    moves = λ x o h. R.moves (some (or-to x (A.e none))) o
        (C.moves (done (A.e none) x o) (want (ored (A.e none) x o))
        (λ ok. needs-there a.text a.at bar _ _ y (λ _. (unfold move in refl))) (λ _. (unfold move in refl))
        (A.moves x none o h));
    holds = λ x v f h. R.holds (some (or-to x (A.e none))) v f (λ ok. p ok v (bytes (or-to x (A.e none))) f (C.holds _ (with-left-or x v h) ok));
  }

-- ---- a whole text
space-at : {s : List ℕ} → Tokens [] s → (k : ℕ) → k < length s → class_of (get_or s k 0) ≡ space
space-at end k h = absurd (omega arith)
space-at (spaced e w) zero h = e
space-at (spaced e w) (suc k) h = space-at w k (omega arith)

all-spaces : (s : List ℕ) → ((k : ℕ) → k < length s → class_of (get_or s k 0) ≡ space) → Tokens [] s
all-spaces [] f = end
all-spaces (x ∷ s) f = spaced (f 0 (omega arith)) (all-spaces s (λ k h. f (suc k) (omega arith)))

-- after joined items, where none of their signs stands
left_over : (s : List ℕ) (ok : Bool) (k : ℕ) (e : Expr) (b : Option Expr) → k < length s
    → (ok ≡ true → class_at s k space ≡ false) → (ok ≡ true → class_at s k amp ≡ false)
    → (ok ≡ true → class_at s k bar ≡ false)
    → Reaches s k (pick ok (some (done e b [])) none) → Reaches s k none
left_over s true k e b h x y z r =
    like s k (some (done e b [])) none (λ _.
    (unfold move in rw (class-not s k space h (x refl), class-not s k amp h (y refl), class-not s k bar h (z refl))
    (go (eqb (class_of (get_or s k 0)) rpar)))) (λ q. absurd (omega arith)) r
  where
    go : (c : Bool) → pick c (shut (or-to b e) []) none ≡ none
    go true = refl
    go false = refl
left_over s false k e b h x y z r = r

-- from the reader r at the text's first byte to the reader a after the spaces there
module _ (r a : Reader) (first : r.at ≡ 0) (sp : Spaced r a) (none_made : Kept r.made []) where
  abbrev s : List ℕ
  s = r.text.now

  abbrev p : ℕ
  p = a.at

  k : Skipped s 0 p
  k = subst (λ (z : ℕ). Skipped s z p) first sp.skipped

  pub read-blank : p ≡ length s → (b : List ℕ) × TextOf s b × Kept a.made b
  read-blank h = (
    [],
    blank (all-spaces s (λ j q. k.blank j (omega arith) (omega arith))),
    subst (λ (z : Reader). Kept z.made []) (sym sp.is) none_made,
  )

  module _ (n : p ≡ length s → ⊥) (x : Reading) (O' : Ors 0 (read_on a) x) where
    O : Ors 0 (record (read_on r) { at = p }) x
    O = subst (λ (z : Reader). Ors 0 (read_on z) x) sp.is O'

    not-blank : Tokens [] s → ⊥
    not-blank w =
        let h : p < length s = omega (arith, k.within) in
        true≢false (sym (eq-eqb (class_of (get_or s p 0)) space (space-at w p h)) ∙ class-not s p space h k.clear)

    abbrev Done : State
    Done = done (O.e none) (O.b none) []

    reaches : Reaches s x.at (pick x.ok (some Done) none)
    reaches =
        subst (λ (z : List ℕ). Reaches z x.at (pick x.ok (some Done) none)) O.on.same
        (O.moves none []
        (k.moves (want fresh) (λ _. (unfold move in refl)) (record { t = want fresh; reached = at_first; byte = λ _. refl; end = λ _. refl })))

    clear : (c : ℕ) → (x.ok ≡ true → class_at x.text x.at c ≡ false) → x.ok ≡ true → class_at s x.at c ≡ false
    clear c f ok = subst (λ (z : List ℕ). class_at z x.at c ≡ false) O.on.same (f ok)

    pub read_left : x.at < length s → FaultAt Legal s x.at
    read_left h =
        fault s x.at (omega arith) not-blank
        (left_over s x.ok x.at (O.e none) (O.b none) h (clear space O.on.good.clear) (clear amp O.no-amp) (clear bar O.no-bar) reaches)

    pub read_stopped : x.ok ≡ false → FaultAt Legal s x.at
    read_stopped z =
        fault s x.at (subst (λ (z : List ℕ). x.at ≤ length z) O.on.same O.on.good.within) not-blank
        (subst (λ (b : Bool). Reaches s x.at (pick b (some Done) none)) z reaches)

    pub read-end : x.ok ≡ true → length s ≤ x.at → (b : List ℕ) × TextOf s b × Kept x.made b
    read-end ok h = (
      bytes (or-to (O.b none) (O.e none)),
      whole (said s x.at Done (or-to (O.b none) (O.e none)) h
          (subst (λ (b : Bool). Reaches s x.at (pick b (some Done) none)) ok reaches) (unfold ends in refl)),
      O.holds none [] refl (λ _. none_made) ok,
    )
