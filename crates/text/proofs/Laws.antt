-- The laws of one step of the reader: what stands at a place, and where the scan goes from there. Assumes nothing.
use mathlib.Core.Path.{◌≡◌, refl, sym, ap, ◌∙◌, subst}
use mathlib.Core.Bool.{Bool, true, false, ◌&&◌}
use mathlib.Core.Option.{Option, none, some}
use mathlib.Core.List.{List}
use Prim.Native.Nat.{ℕ, zero, suc, ◌+◌, ◌-◌, ◌*◌, ◌<◌, ◌≤◌}
use native.Mathlib.Decide.{dec_lt}
use native.Mathlib.Numerals.{add-one}
use native.Mathlib.Omega.{arith}
use lib.Dec.{ltb, eqb}
use lib.ListN.{length, get_or, take, drop}
use lib.Seq.{take-suc}
use borrow.Author.Tests.{ltb-true, lt-ltb, le-ltb, eqb-true, eq-eqb}
use Rattle.std.specs.List.{prefix_len}
use Rattle.std.proofs.lemmas.List.{get_or-drop, length-drop}
use Rattle.std.proofs.lemmas.List.Sums.{prefix_len-le-length, prefix_len_passes, prefix_len_stops}
use Rattle.text.specs.Classes.{class_of, value, pick, digit, space, is_space}
use Rattle.text.specs.Numbers.{both, bounds, low}
use Rattle.text.specs.Scan.{Left, Part, State, digits, counted, below, grows, move, step, ends, Reached, by_byte, Stays, Reaches, next_of, end_of}
use Rattle.text.specs.Reader.{class_at, grows_at, Skipped, Needs}

module _ (s : List ℕ) where
  -- ---- what stands at a place
  pub class-in : (p c : ℕ) → class_at s p c ≡ true → p < length s
  class-in p c e = ltb-true _ _ (both (ltb p (length s)) (eqb (class_of (get_or s p 0)) c) e).0

  pub class-is : (p c : ℕ) → class_at s p c ≡ true → class_of (get_or s p 0) ≡ c
  class-is p c e = eqb-true _ _ (both (ltb p (length s)) (eqb (class_of (get_or s p 0)) c) e).1

  pub class-not : (p c : ℕ) → p < length s → class_at s p c ≡ false → eqb (class_of (get_or s p 0)) c ≡ false
  class-not p c h e = sym (ap (λ (b : Bool). b && eqb (class_of (get_or s p 0)) c) (lt-ltb p (length s) h)) ∙ e

  -- ---- from state to state
  pub step-on : (k : ℕ) (t t' : State) → k < length s → step t (get_or s k 0) ≡ some t' → Reaches s k (some t) → Reaches s (k + 1) (some t')
  step-on k t t' h e r = record {
    t = t';
    reached =
        subst (λ (z : List ℕ). Reached z t') (sym (take-suc s k 0 h) ∙ ap (λ (z : ℕ). take z s) (sym (add-one k)))
        (by_byte (get_or s k 0) r.reached (r.byte h ∙ e));
    byte = λ _. refl;
    end = λ _. refl;
  }

  pub like : (k : ℕ) (o o' : Option State)
      → (k < length s → next_of o (get_or s k 0) ≡ next_of o' (get_or s k 0))
      → (length s ≤ k → end_of o ≡ end_of o') → Reaches s k o → Reaches s k o'
  like k o o' f g r = record { t = r.t; reached = r.reached; byte = λ h. r.byte h ∙ f h; end = λ h. r.end h ∙ g h }

  -- the scan goes on alike from t and from t' at a place that is read so far
  pub record Alike (k : ℕ) (t t' : State) : Type 0 where
    pub byte : k < length s → step t (get_or s k 0) ≡ step t' (get_or s k 0)
    pub end : length s ≤ k → ends t ≡ ends t'

  pub alike : (k : ℕ) (t t' : State) → (k < length s → step t (get_or s k 0) ≡ step t' (get_or s k 0)) → (length s ≤ k → ends t ≡ ends t') → Alike k t t'
  alike k t t' f g = record { byte = f; end = g }

  pub at-like : (ok : Bool) (k : ℕ) (t t' : State) → (ok ≡ true → Alike k t t') → Reaches s k (pick ok (some t) none) → Reaches s k (pick ok (some t') none)
  at-like true k t t' f r = like k (some t) (some t') (f refl).byte (f refl).end r
  at-like false k t t' f r = r

  -- a sign that does not stand there stops the scan
  pub at-stop : (k c : ℕ) (t t' : State) → class_at s k c ≡ false → Needs s k c t t' → Reaches s k (some t) → Reaches s k none
  at-stop k c t t' e n r =
      like k (some t) none (λ h. n.byte h ∙ ap (λ (b : Bool). pick b (some t') none) (class-not k c h e)) n.end r

  -- one that stands there takes it on
  there : (k c : ℕ) (t' : State) → class_at s k c ≡ true → pick (eqb (class_of (get_or s k 0)) c) (some t') none ≡ some t'
  there k c t' e = ap (λ (b : Bool). pick b (some t') none) (eq-eqb _ c (class-is k c e))

  pub takes : (k c : ℕ) (t t' : State) → class_at s k c ≡ true → Needs s k c t t' → step t (get_or s k 0) ≡ some t'
  takes k c t t' e n = n.byte (class-in k c e) ∙ there k c t' e

  pub at_sign : (k c : ℕ) (t t' : State) → class_at s k c ≡ true → Needs s k c t t' → Reaches s k (some t) → Reaches s (k + 1) (some t')
  at_sign k c t t' e n r = step-on k t t' (class-in k c e) (takes k c t t' e n) r

  -- where it stands, nothing else is asked
  pub needs-there : (k c : ℕ) (t t' : State) → class_at s k c ≡ true → ((d : ℕ) → move t c d ≡ some t') → Needs s k c t t'
  needs-there k c t t' e f = record {
    byte = λ h. ap (λ (x : ℕ). move t x (value (get_or s k 0))) (class-is k c e) ∙ f _ ∙ sym (there k c t' e);
    end = λ h. absurd (omega (arith, class-in k c e));
  }

  -- ---- spaces
  -- n spaces from the place p on
  over-spaces : (p n : ℕ) → p + n ≤ length s → ((k : ℕ) → p ≤ k → k < p + n → class_of (get_or s k 0) ≡ space)
      → (t : State) → Stays t → Reaches s p (some t) → Reaches s (p + n) (some t)
  over-spaces p zero h f t st r = subst (λ (k : ℕ). Reaches s k (some t)) (omega arith) r
  over-spaces p (suc n) h f t st r =
      subst (λ (k : ℕ). Reaches s k (some t)) (omega arith)
      (step-on (p + n) t t (omega arith)
      (ap (λ (x : ℕ). move t x (value (get_or s (p + n) 0))) (f (p + n) (omega arith) (omega arith)) ∙ st _)
      (over-spaces p n (omega arith) (λ k l u. f k l (omega arith)) t st r))

  pub skipped : (p n : ℕ) → p ≤ length s → n ≡ prefix_len is_space (drop p s) → Skipped s p (p + n)
  skipped p n h e =
      let l : n ≤ length s - p = omega (arith, prefix_len-le-length is_space (drop p s), length-drop p s) in record {
        on = omega arith;
        within = omega arith;
        clear = clear (dec_lt (p + n) (length s));
        blank = blank;
        moves = over-spaces p n (omega arith) blank;
      }
    where
      blank : (k : ℕ) → p ≤ k → k < p + n → class_of (get_or s k 0) ≡ space
      blank k m u =
          let i : p + (k - p) ≡ k = omega arith in
          let j : k - p < prefix_len is_space (drop p s) = omega arith in
          eqb-true _ space
          (ap (λ (z : ℕ). is_space (get_or s z 0)) (sym i) ∙ ap is_space (sym (get_or-drop p s (k - p) 0)) ∙ prefix_len_passes is_space (drop p s) (k - p) 0 j)

      clear : Dec (p + n < length s) → class_at s (p + n) space ≡ false
      clear (no q) = rw (le-ltb (p + n) (length s) (omega arith)) refl
      clear (yes q) =
          let j : prefix_len is_space (drop p s) < length (drop p s) = omega (arith, length-drop p s) in
          rw (lt-ltb (p + n) (length s) q)
          (ap (λ (z : ℕ). is_space (get_or s (p + z) 0)) e ∙ ap is_space (sym (get_or-drop p s (prefix_len is_space (drop p s)) 0))
          ∙ prefix_len_stops is_space (drop p s) 0 j)

  -- ---- numbers
  pub the-digit : (p : ℕ) → class_at s p digit ≡ true → (48 ≤ get_or s p 0) × (get_or s p 0 - 48 ≡ value (get_or s p 0)) × (value (get_or s p 0) < 10)
  unfolding value
  the-digit p e = let h = bounds _ (class-is p digit e) in (h.0, refl, omega arith)

  module _ (at : ℕ) where
    pub record Counting (n p : ℕ) : Type 0 where
      pub on : at < p
      pub within : p ≤ length s
      pub moves : (t : State) (q : Part) (l : Left)
          → step t (get_or s at 0) ≡ some (digits q (value (get_or s at 0)) l) → Reaches s at (some t)
          → Reaches s p (some (digits q n l))

    pub count-first : class_at s at digit ≡ true → Counting (value (get_or s at 0)) (at + 1)
    count-first e = let h = class-in at digit e in record {
      on = omega arith;
      within = omega arith;
      moves = λ t q l f r. step-on at t _ h f r;
    }

    pub count-more : (n p : ℕ) → Counting n p → 0 < n → n < 10 → class_at s p digit ≡ true → Counting (10 * n + value (get_or s p 0)) (p + 1)
    count-more n p k z u e =
        let h = class-in p digit e in
        let w = low _ (class-is p digit e) in
        record {
          on = omega (arith, k.on);
          within = omega arith;
          moves =
              λ t q l f r. step-on p (digits q n l) _ h
              (unfold move in rw (class-is p digit e, lt-ltb 0 n z, lt-ltb (10 * n + value (get_or s p 0)) below (omega arith)))
              (k.moves t q l f r);
        }

    -- where no digit makes it longer, the number is whole
    pub count-end : (n p : ℕ) → Counting n p → grows_at s p n ≡ false → (t : State) (q : Part) (l : Left)
        → step t (get_or s at 0) ≡ some (digits q (value (get_or s at 0)) l) → Reaches s at (some t)
        → Reaches s p (some (counted q n l))
    count-end n p k e t q l f r =
        like p (some (digits q n l)) (some (counted q n l)) (λ h. (unfold move in rw (no_more h))) (λ h. (unfold ends in refl)) (k.moves t q l f r)
      where
        no_more : p < length s → grows n (class_of (get_or s p 0)) (value (get_or s p 0)) ≡ false
        no_more h = sym (ap (λ (b : Bool). b && grows n (class_of (get_or s p 0)) (value (get_or s p 0))) (lt-ltb p (length s) h)) ∙ e

  module _ (p n : ℕ) where
    no-no : (a b : Bool) → (a && (b && false)) ≡ false
    no-no true true = refl
    no-no true false = refl
    no-no false b = refl

    pub zero-grows-not : n ≤ 0 → grows_at s p n ≡ false
    zero-grows-not h = rw (le-ltb 0 n h) (no-no (ltb p (length s)) (eqb (class_of (get_or s p 0)) digit))

    pub two-grow-not : 10 ≤ n → grows_at s p n ≡ false
    two-grow-not h =
        rw (lt-ltb 0 n (omega arith), le-ltb (10 * n + value (get_or s p 0)) below (omega arith))
        (no-no (ltb p (length s)) (eqb (class_of (get_or s p 0)) digit))

    pub no-digit-grows-not : class_at s p digit ≡ false → grows_at s p n ≡ false
    no-digit-grows-not e = go (ltb p (length s)) (eqb (class_of (get_or s p 0)) digit) (ltb 0 n && ltb (10 * n + value (get_or s p 0)) below) e
      where
        go : (a b d : Bool) → (a && b) ≡ false → (a && (b && d)) ≡ false
        go true b d e = ap (λ (z : Bool). z && d) e
        go false b d e = refl
