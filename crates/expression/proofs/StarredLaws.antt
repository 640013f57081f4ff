-- The starred table holds: one decision, proved to agree with the meanings, is computed over all of it. Assumes nothing.
use Rattle.std.specs.Prelude.{◌≡◌, refl, Bool, true, false, not, ◌&&◌, ◌||◌, List, [], ◌∷◌, ◌↔◌, ℕ, ◌<◌, eqb, ltb, get_or}
use Rattle.std.proofs.Common.{sym, ◌∙◌, subst, inr, ⊎_elim, arith, eqb-true, ltb-true, lit<, lit≤}
use Rattle.std.specs.Bool.{beq}
use Rattle.std.proofs.lemmas.Bool.{false≢true}
use Rattle.securon.specs.Sets.{Set, ◌⊆◌, ◌≐◌, Apart, Marks, on}
use Rattle.logic.specs.Iff.{and-iff, or-iff, iff-refl, iff-sym, iff-trans}
use Rattle.tree.specs.Tree.{IsTree}
use Rattle.expression.specs.Expression.{one, Expr, term, ◌AND◌, ◌OR◌, privilege_set, Meets}
use Rattle.expression.specs.Bytes.{bytes, SET, MeetsT1, MeetsT2}
use Rattle.expression.specs.Scan.{bytes-some}
use Rattle.expression.specs.Unique.{one-expression}
use Rattle.expression.proofs.Decide.{NamedBelow, named_b, named-true, reaches_b, level_b, any_b, all_b, between_b, in_term_b}
use Rattle.expression.proofs.Decide.{in_b, met_b, both_true, any-iff, all-iff, in-below, in-iff, met-iff}
use Rattle.expression.specs.Starred.{park, these, Case, is_set, t1, t1-nobody, e-has, e-everybody, t2-bars, g-bars, Says, Means, cases, AllMean}

unfoldable pub below_b : List ℕ → Bool
below_b [] = true
below_b (x ∷ xs) = ltb x 8 && below_b xs

unfoldable pub right : Case → Bool
right (is_set e l) = named_b 8 e && (all_b (λ u. beq (in_b park e u) (these l u)) 8 && below_b l)
right (t1 l e b) = named_b 8 e && beq (met_b park (these l) e) b
right (t1-nobody e) = named_b 8 e && beq (met_b park (λ u. true) e) false
right (e-has l e b) = named_b 8 e && beq (all_b (λ u. not (in_b park e u) || these l u) 8) b
right (e-everybody e) = named_b 8 e && beq (any_b (in_b park e) 8) false
right (t2-bars l e b) = named_b 8 e && beq (met_b park (these l) e) b
right (g-bars l e b) = named_b 8 e && beq (any_b (λ u. in_b park e u && these l u) 8) b

unfoldable pub all_right : List Case → Bool
all_right [] = true
all_right (c ∷ cs) = right c && all_right cs

beq-true : (x y : Bool) → beq x y ≡ true → x ≡ y
beq-true true true e = refl
beq-true true false e = absurd (false≢true e)
beq-true false true e = absurd (false≢true e)
beq-true false false e = refl

-- a test that came out as b says so
says : {P : Type 0} (x b : Bool) → (x ≡ true) ↔ P → x ≡ b → Says b P
says x true f e = f.0 e
says x false f e = λ p. false≢true (sym e ∙ f.1 p)

-- a decision of P decides its double negation
twice : {P : Type 0} (x : Bool) → (x ≡ true) ↔ P → (x ≡ true) ↔ ((P → ⊥) → ⊥)
twice true f = ((λ e n. n (f.0 e)), λ _. refl)
twice false f = ((λ e. absurd (false≢true e)), λ w. absurd (w (λ p. false≢true (f.1 p))))

implies-iff : (x y : Bool) → ((not x || y) ≡ true) ↔ (x ≡ true → y ≡ true)
implies-iff true y = ((λ e _. e), λ w. w refl)
implies-iff false y = ((λ _ e. absurd (false≢true e)), λ _. refl)

below-these : (l : List ℕ) → below_b l ≡ true → (u : ℕ) → these l u ≡ true → u < 8
unfolding below_b
below-these [] h u m = absurd (false≢true m)
below-these (x ∷ xs) h u m =
    let w = both_true (ltb x 8) (below_b xs) h in
    ⊎_elim (λ q. rw (eqb-true u x q) (ltb-true x 8 w.0)) (below-these xs w.1 u) ((or-iff (eqb u x) (these xs u) iff-refl iff-refl).0 m)

smaller_b : ℕ → Bool
smaller_b u = eqb u 0 || ltb (get_or park.parent u 0) u

park-tree : IsTree park
unfolding smaller_b all_b
park-tree = record {
  count = (lit< tt, lit≤ tt);
  smaller = λ u p l. ⊎_elim (λ z. absurd (omega (arith, eqb-true u 0 z))) (ltb-true (get_or park.parent u 0) u)
      ((or-iff (eqb u 0) (ltb (get_or park.parent u 0) u) iff-refl iff-refl).0 ((all-iff smaller_b 8).0 refl u l));
}

-- of an expression that is written down, the bytes mean what it means
set-iff : (e : Expr) (u : ℕ) → SET park (bytes e) u ↔ privilege_set park e u
set-iff e u = ((λ w. subst (λ (x : Expr). privilege_set park x u) (one-expression w.0 e (sym w.1)) w.2), λ w. (e, refl, w))

t2-iff : (H : Set) (e : Expr) → MeetsT2 park H (bytes e) ↔ Meets park H e
t2-iff H e = ((λ w. subst (Meets park H) (one-expression w.0 e (sym w.1)) w.2), λ w. (e, refl, w))

t1-iff : (H : Set) (e : Expr) → MeetsT1 park H (bytes e) ↔ Meets park H e
t1-iff H e = (⊎_elim (λ q. absurd (bytes-some e q)) (t2-iff H e).0, λ w. inr ((t2-iff H e).1 w))

module _ (e : Expr) (named : NamedBelow 8 e) where
  member-iff : (u : ℕ) → (in_b park e u ≡ true) ↔ SET park (bytes e) u
  member-iff u = iff-trans (in-iff park park-tree e u named) (iff-sym (set-iff e u))

  member_below : (u : ℕ) → SET park (bytes e) u → u < 8
  member_below u w = in-below park park-tree e u named ((set-iff e u).0 w)

  met-t2 : (H : Marks) → (met_b park H e ≡ true) ↔ MeetsT2 park (on H) (bytes e)
  met-t2 H = iff-trans (met-iff park park-tree H e named) (iff-sym (t2-iff (on H) e))

  met-t1 : (H : Marks) → (met_b park H e ≡ true) ↔ MeetsT1 park (on H) (bytes e)
  met-t1 H = iff-trans (met-iff park park-tree H e named) (iff-sym (t1-iff (on H) e))

  nobody : met_b park (λ u. true) e ≡ false → (H : Marks) → MeetsT1 park (on H) (bytes e) → ⊥
  nobody f H w =
      let m = (t1-iff (on H) e).0 w in
      false≢true (sym f ∙ (met-iff park park-tree (λ u. true) e named).1 (record { chosen = m.chosen; in-value = m.in-value; held = λ u _. refl }))

  has-iff : (H : Marks) → (all_b (λ u. not (in_b park e u) || H u) 8 ≡ true) ↔ (SET park (bytes e) ⊆ on H)
  has-iff H = iff-trans (all-iff (λ u. not (in_b park e u) || H u) 8) (
    (λ w u s. (implies-iff (in_b park e u) (H u)).0 (w u (member_below u s)) ((member-iff u).1 s)),
    (λ w u l. (implies-iff (in_b park e u) (H u)).1 (λ q. w u ((member-iff u).0 q))),
  )

  everybody : any_b (in_b park e) 8 ≡ false → (H : Marks) → SET park (bytes e) ⊆ on H
  everybody f H u s = absurd (false≢true (sym f ∙ (any-iff (in_b park e) 8).1 (u, member_below u s, (member-iff u).1 s)))

  shares-iff : (H : Marks) → (any_b (λ u. in_b park e u && H u) 8 ≡ true) ↔ (Apart (on H) (SET park (bytes e)) → ⊥)
  shares-iff H = iff-trans (twice _ (any-iff (λ u. in_b park e u && H u) 8)) (
    (λ w apart. w (λ (u, l, q). let m = both_true (in_b park e u) (H u) q in apart u m.1 ((member-iff u).0 m.0))),
    (λ w none. w (λ u h s. none (u, member_below u s, (and-iff (in_b park e u) (H u) iff-refl iff-refl).1 ((member-iff u).1 s, h)))),
  )

  exactly : (l : List ℕ) → all_b (λ u. beq (in_b park e u) (these l u)) 8 ≡ true → below_b l ≡ true → SET park (bytes e) ≐ on (these l)
  exactly l f g u = (
    (λ s. sym (same u (member_below u s)) ∙ (member-iff u).1 s),
    (λ m. (member-iff u).0 (same u (below-these l g u m) ∙ m)),
  )
    where
      same : (u : ℕ) → u < 8 → in_b park e u ≡ these l u
      same u h = beq-true (in_b park e u) (these l u) ((all-iff (λ u. beq (in_b park e u) (these l u)) 8).0 f u h)

-- the decision agrees with the meaning, for every case whatever
pub right-means : (c : Case) → right c ≡ true → Means c
unfolding right
right-means (is_set e l) h =
    let w = both_true (named_b 8 e) (all_b (λ u. beq (in_b park e u) (these l u)) 8 && below_b l) h in
    let v = both_true (all_b (λ u. beq (in_b park e u) (these l u)) 8) (below_b l) w.1 in
    exactly e (named-true 8 e w.0) l v.0 v.1
right-means (t1 l e b) h =
    let w = both_true (named_b 8 e) (beq (met_b park (these l) e) b) h in
    says (met_b park (these l) e) b (met-t1 e (named-true 8 e w.0) (these l)) (beq-true (met_b park (these l) e) b w.1)
right-means (t1-nobody e) h =
    let w = both_true (named_b 8 e) (beq (met_b park (λ u. true) e) false) h in
    nobody e (named-true 8 e w.0) (beq-true (met_b park (λ u. true) e) false w.1)
right-means (e-has l e b) h =
    let w = both_true (named_b 8 e) (beq (all_b (λ u. not (in_b park e u) || these l u) 8) b) h in
    let test = all_b (λ u. not (in_b park e u) || these l u) 8 in
    says test b (has-iff e (named-true 8 e w.0) (these l)) (beq-true test b w.1)
right-means (e-everybody e) h =
    let w = both_true (named_b 8 e) (beq (any_b (in_b park e) 8) false) h in
    everybody e (named-true 8 e w.0) (beq-true (any_b (in_b park e) 8) false w.1)
right-means (t2-bars l e b) h =
    let w = both_true (named_b 8 e) (beq (met_b park (these l) e) b) h in
    says (met_b park (these l) e) b (met-t2 e (named-true 8 e w.0) (these l)) (beq-true (met_b park (these l) e) b w.1)
right-means (g-bars l e b) h =
    let w = both_true (named_b 8 e) (beq (any_b (λ u. in_b park e u && these l u) 8) b) h in
    let test = any_b (λ u. in_b park e u && these l u) 8 in
    says test b (shares-iff e (named-true 8 e w.0) (these l)) (beq-true test b w.1)

pub all-mean : (cs : List Case) → all_right cs ≡ true → AllMean cs
unfolding all_right
all-mean [] h = tt
all-mean (c ∷ cs) h = let w = both_true (right c) (all_right cs) h in (right-means c w.0, all-mean cs w.1)

-- the table holds
pub starred : AllMean cases
unfolding all_right right named_b below_b met_b any_b all_b in_b in_term_b between_b level_b reaches_b
starred = all-mean cases refl

-- the bytes that the paper gives for the third case are those of its expression
pub bytes-as-given : bytes (term (one 1) OR (term (one 3) AND term (one 5))) ≡ 4 ∷ 1 ∷ 1 ∷ 3 ∷ 1 ∷ 3 ∷ 1 ∷ 5 ∷ []
bytes-as-given = refl
