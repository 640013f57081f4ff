-- Who meets a protection, by its parts: what all else rests on; and who holds the same or more. Assumes nothing.
use Rattle.std.specs.Prelude.{◌≡◌, refl, Bool, true, false, ◌||◌, List, ◌⊎◌, ◌↔◌, ℕ}
use Rattle.std.proofs.Common.{ap, ◌∙◌, inl, inr, ⊎_elim, eqb-true, eq-eqb}
use Rattle.std.proofs.Math.Bool.{or-true}
use Rattle.securon.specs.Sets.{Set, ◌⊆◌, ◌≐◌, Marks, mark_of, ◌⊔◌}
use Rattle.tree.specs.declared.Tree.{Tree}
use Rattle.expression.specs.Expression.{Term, Expr, term, ◌AND◌, ◌OR◌, term_set, Meets}
use Rattle.expression.specs.Bytes.{MeetsBytes, MeetsT1, MeetsT2}

or_cases : (x y : Bool) → (x || y) ≡ true → (x ≡ true) ⊎ (y ≡ true)
or_cases true y e = inl refl
or_cases false y e = inr e

or_left : (x y : Bool) → x ≡ true → (x || y) ≡ true
or_left x y e = rw e refl

or_right : (x y : Bool) → y ≡ true → (x || y) ≡ true
or_right x y e = rw (e, or-true) refl

module _ (t : Tree) (H : Set) where
  -- a term is met by who holds a member of its SET
  pub meets-term : (x : Term) → Meets t H (term x) ↔ ((u : ℕ) × term_set t x u × H u)
  meets-term x = (
    (λ w. let (u, h, e) = w.in-value in (u, h, w.held u (ap (λ (W : Marks). W u) e ∙ eq-eqb u u refl))),
    (λ (u, h, v). record { chosen = mark_of u; in-value = (u, h, refl); held = λ i e. rw (eqb-true i u e) v }),
  )

  -- OR is met by who meets one side
  pub meets-OR : (a b : Expr) → Meets t H (a OR b) ↔ (Meets t H a ⊎ Meets t H b)
  meets-OR a b = (
    (λ w. ⊎_elim
        (λ x. inl (record { chosen = w.chosen; in-value = x; held = w.held }))
        (λ y. inr (record { chosen = w.chosen; in-value = y; held = w.held }))
        w.in-value),
    ⊎_elim
        (λ w. record { chosen = w.chosen; in-value = inl w.in-value; held = w.held })
        (λ w. record { chosen = w.chosen; in-value = inr w.in-value; held = w.held }),
  )

  -- AND is met by who meets both sides
  pub meets-AND : (a b : Expr) → Meets t H (a AND b) ↔ (Meets t H a × Meets t H b)
  meets-AND a b = (
    (λ w. let (A, B, x, y, e) = w.in-value in (
      record { chosen = A; in-value = x; held = λ i m. w.held i (ap (λ (W : Marks). W i) e ∙ or_left (A i) (B i) m) },
      record { chosen = B; in-value = y; held = λ i m. w.held i (ap (λ (W : Marks). W i) e ∙ or_right (A i) (B i) m) },
    )),
    (λ (v, w). record {
      chosen = v.chosen ⊔ w.chosen;
      in-value = (v.chosen, w.chosen, v.in-value, w.in-value, refl);
      held = λ i m. ⊎_elim (v.held i) (w.held i) (or_cases (v.chosen i) (w.chosen i) m);
    }),
  )

-- who holds more meets what was met
pub meets-more : (t : Tree) (H K : Set) (bs : List ℕ) → H ⊆ K → MeetsBytes t H bs → MeetsBytes t K bs
meets-more t H K bs h (e, q, m) = (e, q, record { chosen = m.chosen; in-value = m.in-value; held = λ u o. h u (m.held u o) })

-- held sets with the same members meet the same
module _ (t : Tree) (H K : Set) (same : H ≐ K) (bs : List ℕ) where
  pub same-t2 : MeetsT2 t H bs ↔ MeetsT2 t K bs
  same-t2 = (meets-more t H K bs (λ u. (same u).0), meets-more t K H bs (λ u. (same u).1))

  pub same-t1 : MeetsT1 t H bs ↔ MeetsT1 t K bs
  same-t1 = (⊎_elim inl (λ m. inr (same-t2.0 m)), ⊎_elim inl (λ m. inr (same-t2.1 m)))
