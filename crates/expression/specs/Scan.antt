-- What may still follow while the bytes of an expression are met from the front: so many whole expressions. Assumes nothing.
use Rattle.std.specs.Prelude.{◌≡◌, refl, List, [], ◌∷◌, ◌++◌, ◌↔◌, ℕ, zero, suc, ◌+◌, ◌-◌, ◌<◌, ◌≤◌, length, take, drop}
use Rattle.std.proofs.Common.{sym, ap, ◌∙◌, subst, append_assoc, append-nil, inr, ⊎_elim, le_refl, arith, length-drop, take_all}
use Rattle.std.proofs.Common.{zero-le}
use Rattle.answer.specs.Faults.{CanBegin, FaultAt}
use Rattle.answer.specs.Laws.{fault-after, fault-here}
use Rattle.logic.specs.Iff.{iff-trans}
use Rattle.expression.specs.declared.Kind.{Kind}
use Rattle.expression.specs.Expression.{one, range, Expr, term, ◌AND◌, ◌OR◌}
use Rattle.expression.specs.Bytes.{bytes, MayOR, Fits, Written, Right}

-- the bytes of expressions, one after the other
abbrev pub cat : List Expr → List ℕ
cat [] = []
cat (e ∷ es) = bytes e ++ cat es

pub head-is : {x y : ℕ} {r t : List ℕ} → x ∷ r ≡ y ∷ t → x ≡ y
head-is e = cc

pub tail-is : {x y : ℕ} {r t : List ℕ} → x ∷ r ≡ y ∷ t → r ≡ t
tail-is e = cc

pub cons-nil : {x : ℕ} {r : List ℕ} → x ∷ r ≡ [] → ⊥
cons-nil {x} {r} e = let z : ◌≡◌ {A = ℕ} 0 1 = cc in omega arith

-- no expression has no bytes
pub bytes-some : (e : Expr) → bytes e ≡ [] → ⊥
bytes-some (term (one s)) q = cons-nil q
bytes-some (term (range s i j)) q = cons-nil q
bytes-some (a AND b) q = cons-nil q
bytes-some (a OR b) q = cons-nil q

module _ (kind : Kind) (n d : ℕ) where
  abbrev pub AllFit : List Expr → Type 0
  AllFit [] = Unit {0}
  AllFit (e ∷ es) = Fits kind n d e × AllFit es

  -- r is k whole expressions that fit
  abbrev pub Rest : ℕ → List ℕ → Type 0
  Rest k r = (es : List Expr) × (length es ≡ k) × AllFit es × (r ≡ cat es)

  -- after 01: a securon, and k expressions
  abbrev pub AfterOne : ℕ → List ℕ → Type 0
  AfterOne k [] = ⊥
  AfterOne k (s ∷ r) = (s < n) × Rest k r

  -- after 02 s i: the level j
  abbrev pub AfterFrom : ℕ → ℕ → List ℕ → Type 0
  AfterFrom k i [] = ⊥
  AfterFrom k i (j ∷ r) = ((i ≤ j) × (j ≤ d)) × Rest k r

  -- after 02 s: the level i
  abbrev pub AfterSecuron : ℕ → List ℕ → Type 0
  AfterSecuron k [] = ⊥
  AfterSecuron k (i ∷ r) = (i ≤ d) × AfterFrom k i r

  -- after 02: a securon
  abbrev pub AfterRange : ℕ → List ℕ → Type 0
  AfterRange k [] = ⊥
  AfterRange k (s ∷ r) = (s < n) × AfterSecuron k r

  -- what a first byte says of the rest
  data First (k : ℕ) (x : ℕ) (r : List ℕ) : Type 0 where
    is_one : x ≡ 1 → AfterOne k r → First k x r
    is-range : x ≡ 2 → AfterRange k r → First k x r
    is-and : x ≡ 3 → Rest (suc (suc k)) r → First k x r
    is-or : x ≡ 4 → MayOR kind → Rest (suc (suc k)) r → First k x r

  first : (k x : ℕ) (r : List ℕ) → Rest (suc k) (x ∷ r) → First k x r
  first k x r ([], c, ok, e) = absurd (omega arith)
  first k x r (term (one s) ∷ es, c, ok, e) =
      is_one (head-is e) (subst (AfterOne k) (sym (tail-is e)) (ok.0, (es, omega arith, ok.1, refl)))
  first k x r (term (range s i j) ∷ es, c, ok, e) =
      is-range (head-is e) (subst (AfterRange k) (sym (tail-is e)) (ok.0.0, (omega arith, ((ok.0.1, ok.0.2), (es, omega arith, ok.1, refl)))))
  first k x r ((a AND b) ∷ es, c, ok, e) =
      is-and (head-is e) (a ∷ b ∷ es, omega arith, (ok.0.0, (ok.0.1, ok.1)), tail-is e ∙ append_assoc (bytes a) (bytes b) (cat es))
  first k x r ((a OR b) ∷ es, c, ok, e) =
      is-or (head-is e) ok.0.0 (a ∷ b ∷ es, omega arith, (ok.0.1, (ok.0.2, ok.1)), tail-is e ∙ append_assoc (bytes a) (bytes b) (cat es))

  -- what follows each code
  pub rest-one : (k : ℕ) (r : List ℕ) → Rest (suc k) (1 ∷ r) ↔ AfterOne k r
  rest-one k r = ((λ w. go (first k 1 r w)), back r)
    where
      go : First k 1 r → AfterOne k r
      go (is_one e a) = a
      go (is-range e a) = absurd (omega arith)
      go (is-and e a) = absurd (omega arith)
      go (is-or e o a) = absurd (omega arith)

      back : (r : List ℕ) → AfterOne k r → Rest (suc k) (1 ∷ r)
      back [] h = absurd h
      back (s ∷ t) (h, (es, c, ok, e)) = (term (one s) ∷ es, omega arith, (h, ok), ap (λ (u : List ℕ). 1 ∷ s ∷ u) e)

  pub rest-range : (k : ℕ) (r : List ℕ) → Rest (suc k) (2 ∷ r) ↔ AfterRange k r
  rest-range k r = ((λ w. go (first k 2 r w)), back r)
    where
      go : First k 2 r → AfterRange k r
      go (is_one e a) = absurd (omega arith)
      go (is-range e a) = a
      go (is-and e a) = absurd (omega arith)
      go (is-or e o a) = absurd (omega arith)

      back : (r : List ℕ) → AfterRange k r → Rest (suc k) (2 ∷ r)
      back [] h = absurd h
      back (s ∷ []) (h, g) = absurd g
      back (s ∷ i ∷ []) (h, (g, f)) = absurd f
      back (s ∷ i ∷ j ∷ t) (h, (g, (l, (es, c, ok, e)))) =
          (term (range s i j) ∷ es, omega arith, ((h, l.0, l.1), ok), ap (λ (u : List ℕ). 2 ∷ s ∷ i ∷ j ∷ u) e)

  pub rest-and : (k : ℕ) (r : List ℕ) → Rest (suc k) (3 ∷ r) ↔ Rest (suc (suc k)) r
  rest-and k r = ((λ w. go (first k 3 r w)), back)
    where
      go : First k 3 r → Rest (suc (suc k)) r
      go (is_one e a) = absurd (omega arith)
      go (is-range e a) = absurd (omega arith)
      go (is-and e a) = a
      go (is-or e o a) = absurd (omega arith)

      back : Rest (suc (suc k)) r → Rest (suc k) (3 ∷ r)
      back ([], c, ok, e) = absurd (omega arith)
      back (a ∷ [], c, ok, e) = absurd (omega arith)
      back (a ∷ b ∷ es, c, ok, e) =
          ((a AND b) ∷ es, omega arith, ((ok.0, ok.1.0), ok.1.1), ap (λ (u : List ℕ). 3 ∷ u) (e ∙ sym (append_assoc (bytes a) (bytes b) (cat es))))

  pub rest-or : MayOR kind → (k : ℕ) (r : List ℕ) → Rest (suc k) (4 ∷ r) ↔ Rest (suc (suc k)) r
  rest-or may k r = ((λ w. go (first k 4 r w)), back)
    where
      go : First k 4 r → Rest (suc (suc k)) r
      go (is_one e a) = absurd (omega arith)
      go (is-range e a) = absurd (omega arith)
      go (is-and e a) = absurd (omega arith)
      go (is-or e o a) = a

      back : Rest (suc (suc k)) r → Rest (suc k) (4 ∷ r)
      back ([], c, ok, e) = absurd (omega arith)
      back (a ∷ [], c, ok, e) = absurd (omega arith)
      back (a ∷ b ∷ es, c, ok, e) =
          ((a OR b) ∷ es, omega arith, ((may, ok.0, ok.1.0), ok.1.1), ap (λ (u : List ℕ). 4 ∷ u) (e ∙ sym (append_assoc (bytes a) (bytes b) (cat es))))

  -- no other byte is a code
  pub rest-other : (k x : ℕ) (r : List ℕ) → (x ≡ 1 → ⊥) → (x ≡ 2 → ⊥) → (x ≡ 3 → ⊥) → (x ≡ 4 → MayOR kind → ⊥) → Rest (suc k) (x ∷ r) → ⊥
  rest-other k x r n1 n2 n3 n4 w = go (first k x r w)
    where
      go : First k x r → ⊥
      go (is_one e a) = n1 e
      go (is-range e a) = n2 e
      go (is-and e a) = n3 e
      go (is-or e o a) = n4 e o

  -- whatever is to follow can be written
  fill : 0 < n → (k : ℕ) → (r : List ℕ) × Rest k r
  fill p zero = ([], ([], refl, tt, refl))
  fill p (suc k) =
      let w = fill p k in
      (1 ∷ 0 ∷ w.0, (term (one 0) ∷ w.1.0, ap suc w.1.1, (p, w.1.2), ap (λ (u : List ℕ). 1 ∷ 0 ∷ u) w.1.3))

  -- nothing follows where nothing is to follow
  pub rest-none : (r : List ℕ) → Rest 0 r ↔ (r ≡ [])
  rest-none r = (go, λ e. ([], refl, tt, e))
    where
      go : Rest 0 r → r ≡ []
      go ([], c, ok, e) = e
      go (x ∷ es, c, ok, e) = absurd (omega arith)

  rest_some : (k : ℕ) → Rest (suc k) [] → ⊥
  rest_some k ([], c, ok, e) = omega arith
  rest_some k (x ∷ es, c, ok, e) = bytes-some x (front (bytes x) (cat es) (sym e))
    where
      front : (a b : List ℕ) → a ++ b ≡ [] → a ≡ []
      front [] b q = refl
      front (y ∷ a) b q = absurd (cons-nil q)

  -- one expression is what follows at the front
  pub written-rest : (r : List ℕ) → Written kind n d r ↔ Rest 1 r
  written-rest r = ((λ w. (w.0 ∷ [], refl, (w.1, tt), w.2 ∙ sym (append-nil (bytes w.0)))), go)
    where
      go : Rest 1 r → Written kind n d r
      go ([], c, ok, e) = absurd (omega arith)
      go (x ∷ [], c, ok, e) = (x, ok.0, e ∙ append-nil (bytes x))
      go (x ∷ y ∷ es, c, ok, e) = absurd (omega arith)

  module _ (some : 0 < n) where
    -- a byte after the whole
    pub fault-over : (x : ℕ) (l : List ℕ) → FaultAt (Rest 0) (x ∷ l) 0
    fault-over x l = fault-here (Rest 0) (x ∷ l) (fill some 0) (λ y r t e w. cons-nil ((rest-none (y ∷ t)).0 w)) (λ e _. cons-nil e)

    -- more is needed than there is
    pub fault-end : (k : ℕ) → FaultAt (Rest (suc k)) [] 0
    fault-end k = fault-here (Rest (suc k)) [] (fill some (suc k)) (λ y r t e w. cons-nil (sym e)) (λ _. rest_some k)

    -- a byte that is no code, or a barred OR
    pub fault-code : (k x : ℕ) (l : List ℕ) → ((r : List ℕ) → Rest (suc k) (x ∷ r) → ⊥) → FaultAt (Rest (suc k)) (x ∷ l) 0
    fault-code k x l none = fault-here (Rest (suc k)) (x ∷ l) (fill some (suc k)) (λ y r t e w. none t (rw (sym (head-is e)) at w)) (λ e _. cons-nil e)

    -- the operand bytes of a term: those that stand, and then one that can't, or the end
    pub fault-one : (k : ℕ) (l : List ℕ) → ((s : ℕ) (r : List ℕ) → l ≡ s ∷ r → s < n → ⊥) → FaultAt (Rest (suc k)) (1 ∷ l) 1
    fault-one k l bad = fault-after (Rest (suc k)) (AfterOne k) (1 ∷ []) l (rest-one k)
        (fault-here (AfterOne k) l (let f = fill some k in (0 ∷ f.0, (some, f.1))) (λ x r t e w. bad x r e w.0) (λ e w. w))

    pub fault-securon : (k : ℕ) (l : List ℕ) → ((s : ℕ) (r : List ℕ) → l ≡ s ∷ r → s < n → ⊥) → FaultAt (Rest (suc k)) (2 ∷ l) 1
    fault-securon k l bad = fault-after (Rest (suc k)) (AfterRange k) (2 ∷ []) l (rest-range k)
        (fault-here (AfterRange k) l
        (let f = fill some k in (0 ∷ 0 ∷ 0 ∷ f.0, (some, (zero-le, ((zero-le, zero-le), f.1)))))
        (λ x r t e w. bad x r e w.0) (λ e w. w))

    pub fault-from : (k s : ℕ) (l : List ℕ) → s < n → ((i : ℕ) (r : List ℕ) → l ≡ i ∷ r → i ≤ d → ⊥) → FaultAt (Rest (suc k)) (2 ∷ s ∷ l) 2
    fault-from k s l h bad = fault-after (Rest (suc k)) (AfterSecuron k) (2 ∷ s ∷ []) l
        (λ r. iff-trans (rest-range k (s ∷ r)) ((λ w. w.1), λ w. (h, w)))
        (fault-here (AfterSecuron k) l (let f = fill some k in (0 ∷ 0 ∷ f.0, (zero-le, ((zero-le, zero-le), f.1)))) (λ x r t e w. bad x r e w.0) (λ e w. w))

    pub fault-to : (k s i : ℕ) (l : List ℕ) → s < n → i ≤ d → ((j : ℕ) (r : List ℕ) → l ≡ j ∷ r → i ≤ j → j ≤ d → ⊥) → FaultAt (Rest (suc k)) (2 ∷ s ∷ i ∷ l) 3
    fault-to k s i l h g bad = fault-after (Rest (suc k)) (AfterFrom k i) (2 ∷ s ∷ i ∷ []) l
        (λ r. iff-trans (rest-range k (s ∷ i ∷ r)) ((λ w. w.1.1), λ w. (h, (g, w))))
        (fault-here (AfterFrom k i) l (let f = fill some k in (i ∷ f.0, ((le_refl i, g), f.1))) (λ x r t e w. bad x r e w.0.0 w.0.1) (λ e w. w))

  -- a term that stands whole
  pub whole-one : (k s : ℕ) (r : List ℕ) → s < n → Rest (suc k) (1 ∷ s ∷ r) ↔ Rest k r
  whole-one k s r h = iff-trans (rest-one k (s ∷ r)) ((λ w. w.1), λ w. (h, w))

  pub whole-range : (k s i j : ℕ) (r : List ℕ) → s < n → i ≤ d → i ≤ j → j ≤ d → Rest (suc k) (2 ∷ s ∷ i ∷ j ∷ r) ↔ Rest k r
  whole-range k s i j r h g l m = iff-trans (rest-range k (s ∷ i ∷ j ∷ r)) ((λ w. w.1.1.1), λ w. (h, (g, ((l, m), w))))

  -- bytes that are not none are right exactly if they are written
  pub fault-right : (bs : List ℕ) (k : ℕ) → (bs ≡ [] → ⊥) → FaultAt (Written kind n d) bs k → FaultAt (Right kind n d) bs k
  fault-right [] k some f = absurd (some refl)
  fault-right (x ∷ l) k some f = record {
    within = f.within;
    before = (f.before.0, inr f.before.1);
    there = λ h w. f.there h (w.0, ⊎_elim (λ e. absurd (go k w e)) (λ v. v) w.1);
    at-end = λ h. ⊎_elim (λ e. absurd (some e)) (f.at-end h);
  }
    where
      go : (k : ℕ) (w : CanBegin (Right kind n d) (take (k + 1) (x ∷ l))) → take (k + 1) (x ∷ l) ++ w.0 ≡ [] → ⊥
      go k w e = let q : k + 1 ≡ suc k = omega arith in cons-nil (rw q at e)

-- the bytes from `at` on, as the code lends them
abbrev pub from : List ℕ → ℕ → List ℕ
from bs at = take (length bs - at) (drop at bs)

pub from-drop : (bs : List ℕ) (at : ℕ) → from bs at ≡ drop at bs
from-drop bs at = take_all (length bs - at) (drop at bs) (rw length-drop (le_refl (length bs - at)))

pub from-length : (bs : List ℕ) (at : ℕ) → length (from bs at) ≡ length bs - at
from-length bs at = ap length (from-drop bs at) ∙ length-drop at bs

-- a list of length 0 is none
pub nil-of : (l : List ℕ) → length l ≡ 0 → l ≡ []
nil-of [] e = refl
nil-of (x ∷ l) e = absurd (omega arith)
