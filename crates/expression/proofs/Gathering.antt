-- The SET of a privilege, gathered term by term: what was read is in the set, and what is to follow will be. Assumes nothing.
use mathlib.Core.Path.{◌≡◌, refl, sym, ap, ◌∙◌, subst}
use mathlib.Core.Bool.{Bool}
use mathlib.Core.List.{List, [], ◌∷◌, ◌++◌, append_assoc, append-nil}
use mathlib.Core.Logic.{◌⊎◌, inl, inr, ⊎_elim, ◌↔◌}
use Prim.Native.Nat.{ℕ, ◌<◌, ◌≤◌}
use native.Mathlib.Omega.{arith}
use lib.ListN.{length, get_or, drop, length-append}
use lib.Seq.{drop-append_seam}
use Rattle.securon.specs.Sets.{Set, empty, ◌≐◌, marked}
use Rattle.logic.specs.Iff.{iff-trans}
use Rattle.tree.specs.declared.Tree.{Tree}
use Rattle.expression.specs.declared.Kind.TheVariants.{Privilege}
use Rattle.expression.specs.Expression.{Term, one, range, Expr, term, ◌AND◌, ◌OR◌, privilege_set}
use Rattle.expression.specs.Bytes.{bytes, Right, SET}
use Rattle.expression.specs.Scan.{cat, AllFit, bytes-some, from, from-drop}
use Rattle.expression.specs.Unique.{one-expression}
use Rattle.expression.specs.Fronts.{TermFront, AddsTerm}

-- a member of the SET of one of these
abbrev pub any_set : Tree → List Expr → Set
any_set t [] u = ⊥
any_set t (e ∷ es) u = privilege_set t e u ⊎ any_set t es u

-- of the bytes bs, those in `rest` are to follow
pub record Gathered (t : Tree) (bs : List ℕ) (r : List Bool) (rest : List ℕ) : Type 0 where
  pub depth : ℕ
  pub due : List Expr
  pub fit : AllFit Privilege t.n depth due
  pub follows : rest ≡ cat due
  pub are : (u : ℕ) → SET t bs u ↔ (marked r u ⊎ any_set t due u)

-- a byte of what follows
byte_of : {l m : List ℕ} (k : ℕ) → l ≡ m → get_or l k 0 ≡ get_or m k 0
byte_of k e = ap (λ (x : List ℕ). get_or x k 0) e

module _ (t : Tree) (bs : List ℕ) where
  pub gathered-start : (d : ℕ) (r : List Bool) → Right Privilege t.n d bs → marked r ≐ empty → Gathered t bs r bs
  gathered-start d r (inl e) none = record {
    depth = d;
    due = [];
    fit = tt;
    follows = e;
    are = λ u. ((λ w. absurd (bytes-some w.0 (sym w.1 ∙ e))), ⊎_elim (λ m. absurd ((none u).0 m)) (λ w. absurd w));
  }
  gathered-start d r (inr (x, ok, e)) none = record {
    depth = d;
    due = x ∷ [];
    fit = (ok, tt);
    follows = e ∙ sym (append-nil (bytes x));
    are = λ u. (
      (λ w. inr (inl (subst (λ (y : Expr). privilege_set t y u) (one-expression w.0 x (sym w.1 ∙ e)) w.2))),
      ⊎_elim (λ m. absurd ((none u).0 m)) (⊎_elim (λ w. (x, e, w)) (λ w. absurd w)),
    );
  }

  module _ {r : List Bool} {rest : List ℕ} (g : Gathered t bs r rest) where
    -- all read: this is the SET
    pub gathered-end : length rest ≡ 0 → marked r ≐ SET t bs
    gathered-end h u = go g.due (ap length (sym g.follows) ∙ h) (g.are u)
      where
        go : (es : List Expr) → length (cat es) ≡ 0 → SET t bs u ↔ (marked r u ⊎ any_set t es u) → marked r u ↔ SET t bs u
        go [] q a = ((λ m. a.1 (inl m)), λ w. ⊎_elim (λ m. m) (λ n. absurd n) (a.0 w))
        go (x ∷ es) q a = absurd (some x (omega (arith, length-append (bytes x) (cat es))))
          where
            some : (x : Expr) → length (bytes x) ≡ 0 → ⊥
            some (term (one s)) z = omega arith
            some (term (range s i j)) z = omega arith
            some (a AND b) z = omega arith
            some (a OR b) z = omega arith

    further : (k : ℕ) (p l : List ℕ) → rest ≡ p ++ l → length p ≡ k → from rest k ≡ l
    further k p l e q = from-drop rest k ∙ ap (λ (x : List ℕ). drop k x) e ∙ ap (λ (m : ℕ). drop m (p ++ l)) (sym q) ∙ drop-append_seam p l

    module _ (h : 0 < length rest) where
      -- AND is passed over
      pub gathered-and : get_or rest 0 0 ≡ 3 → Gathered t bs r (from rest 1)
      gathered-and c = go g.due g.fit g.follows g.are
        where
          go : (es : List Expr) → AllFit Privilege t.n g.depth es → rest ≡ cat es → ((u : ℕ) → SET t bs u ↔ (marked r u ⊎ any_set t es u))
              → Gathered t bs r (from rest 1)
          go [] ok e a = absurd (omega (arith, ap length e))
          go (term (one s) ∷ es) ok e a = absurd (omega (arith, byte_of 0 e))
          go (term (range s i j) ∷ es) ok e a = absurd (omega (arith, byte_of 0 e))
          go ((x OR y) ∷ es) ok e a = absurd ok.0.0
          go ((x AND y) ∷ es) ok e a = record {
            depth = g.depth;
            due = x ∷ y ∷ es;
            fit = (ok.0.0, (ok.0.1, ok.1));
            follows = further 1 (3 ∷ []) _ e refl ∙ append_assoc (bytes x) (bytes y) (cat es);
            are = λ u. iff-trans (a u) (
              ⊎_elim inl (⊎_elim (⊎_elim (λ m. inr (inl m)) (λ m. inr (inr (inl m)))) (λ m. inr (inr (inr m)))),
              ⊎_elim inl (⊎_elim (λ m. inr (inl (inl m))) (⊎_elim (λ m. inr (inl (inr m))) (λ m. inr (inr m)))),
            );
          }

      module _ (c : get_or rest 0 0 ≡ 3 → ⊥) where
        -- what is no AND is a term
        pub gathered-front : TermFront t.n rest
        gathered-front = go g.due g.fit g.follows
          where
            go : (es : List Expr) → AllFit Privilege t.n g.depth es → rest ≡ cat es → TermFront t.n rest
            go [] ok e = absurd (omega (arith, ap length e))
            go (term x ∷ es) ok e = record { kind = Privilege; depth = g.depth; term_is = x; tail = cat es; fits = ok.0; is = e }
            go ((x OR y) ∷ es) ok e = absurd ok.0.0
            go ((x AND y) ∷ es) ok e = absurd (c (byte_of 0 e))

        pub gathered-term : (s : List Bool) (w : ℕ) → AddsTerm t rest (marked r) (marked s)
            → (get_or rest 0 0 ≡ 1 → w ≡ 2) × ((get_or rest 0 0 ≡ 1 → ⊥) → w ≡ 4) → (w ≤ length rest) × Gathered t bs s (from rest w)
        gathered-term s w adds wide = go g.due g.fit g.follows g.are
          where
            made : (x : Term) (es : List Expr) → AllFit Privilege t.n g.depth es → rest ≡ bytes (term x) ++ cat es
                → ((u : ℕ) → SET t bs u ↔ (marked r u ⊎ any_set t (term x ∷ es) u)) → length (bytes (term x)) ≡ w
                → (w ≤ length rest) × Gathered t bs s (from rest w)
            made x es ok e a q = (
              omega (arith, ap length e, length-append (bytes (term x)) (cat es)),
              record {
                depth = g.depth;
                due = es;
                fit = ok;
                follows = further w (bytes (term x)) (cat es) e q;
                are = λ u. iff-trans (a u) (
                  ⊎_elim (λ m. inl ((adds x (cat es) e u).1 (inl m))) (⊎_elim (λ m. inl ((adds x (cat es) e u).1 (inr m))) inr),
                  ⊎_elim (λ m. ⊎_elim inl (λ n. inr (inl n)) ((adds x (cat es) e u).0 m)) (λ m. inr (inr m)),
                );
              },
            )

            go : (es : List Expr) → AllFit Privilege t.n g.depth es → rest ≡ cat es → ((u : ℕ) → SET t bs u ↔ (marked r u ⊎ any_set t es u))
                → (w ≤ length rest) × Gathered t bs s (from rest w)
            go [] ok e a = absurd (omega (arith, ap length e))
            go (term (one x) ∷ es) ok e a = made (one x) es ok.1 e a (sym (wide.0 (byte_of 0 e)))
            go (term (range x i j) ∷ es) ok e a = made (range x i j) es ok.1 e a (sym (wide.1 (λ q. omega (arith, byte_of 0 e))))
            go ((x OR y) ∷ es) ok e a = absurd ok.0.0
            go ((x AND y) ∷ es) ok e a = absurd (c (byte_of 0 e))
