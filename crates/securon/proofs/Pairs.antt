-- A flag over the pairs of two arrays of marks: what a fold over all of them gives. Assumes nothing.
use Rattle.std.specs.Prelude.{◌≡◌, refl, Bool, true, false, ◌&&◌, List, [], ◌∷◌, ◌↔◌, ℕ, zero, suc, length, get_or}
use Rattle.std.proofs.Common.{arith}
use Rattle.std.proofs.Common.{ap, ◌∙◌, Option}
use Rattle.std.specs.Fn.{Called}
use Rattle.std.specs.Iterator.{Drains}
use Rattle.std.specs.List.{fold, zip, FoldsTo}
use Rattle.std.proofs.lemmas.Fn.{fold_over}
use Rattle.std.proofs.lemmas.Iterator.{YieldsList}
use Rattle.std.proofs.lemmas.List.Sums.{fold-append}
use denote.Param.Members.{Mut}
use Rattle.logic.specs.Iff.{and-iff, iff-trans, iff-refl}

-- a test of two marks, what it says of them, and that it says so of any mark beside one that is off
module _ (test : Bool → Bool → Bool) (Says : Bool → Bool → Type 0) (says : (x y : Bool) → (test x y ≡ true) ↔ Says x y) (off : (y : Bool) → Says false y) where
  -- the flag with one more pair
  abbrev pub with_pair : Bool → Bool × Bool → Bool
  with_pair ok p = ok && test p.0 p.1

  -- so of every number
  abbrev Everywhere : List Bool → List Bool → Type 0
  Everywhere a b = (u : ℕ) → Says (get_or a u false) (get_or b u false)

  one-more : (x y : Bool) (a b : List Bool) → (Says x y × Everywhere a b) ↔ Everywhere (x ∷ a) (y ∷ b)
  one-more x y a b = (go, λ h. (h 0, λ u. h (suc u)))
    where
      go : Says x y × Everywhere a b → Everywhere (x ∷ a) (y ∷ b)
      go w zero = w.0
      go w (suc u) = w.1 u

  from_flag : (ok : Bool) (a b : List Bool) → length a ≡ length b → (fold with_pair ok (zip a b) ≡ true) ↔ ((ok ≡ true) × Everywhere a b)
  from_flag ok [] b e = ((λ t. (t, λ u. off (get_or b u false))), λ w. w.0)
  from_flag ok (x ∷ a) [] e = absurd (omega arith)
  from_flag ok (x ∷ a) (y ∷ b) e =
      let both = and-iff ok (test x y) iff-refl (says x y) in
      iff-trans (from_flag (with_pair ok (x, y)) a b (omega arith)) (
        (λ w. let h = both.0 w.0 in (h.0, (one-more x y a b).0 (h.1, w.1))),
        (λ w. let h = (one-more x y a b).1 w.1 in (both.1 (w.0, h.0), h.1)),
      )

  pub fold-pairs : (a b : List Bool) → length a ≡ length b → (fold with_pair true (zip a b) ≡ true) ↔ Everywhere a b
  fold-pairs a b e = iff-trans (from_flag true a b e) ((λ w. w.1), λ h. (refl, h))

  -- a fold over a zip of the two whose closure adds one pair to the flag
  pub folded : {S A F : Type 0} {steps : S → Option A → S → Type 0} {v : A → Bool × Bool} {s : S} {g : Mut F (Bool × (A × Unit {0})) Bool} {f : F} {r : Bool}
      (a b : List Bool) → length a ≡ length b → YieldsList steps v s (zip a b)
      → (xs : List A) × (f' : F) × Drains steps s xs × FoldsTo {P = F × Bool} (λ p x q. Called g p.0 (p.1, (x, tt)) q.1 q.0) (f, true) xs (f', r)
      → ((ok : Bool) (x : A) (next : Bool) (f' : F) → Called g f (ok, (x, tt)) next f' → (next ≡ with_pair ok (v x)) × (f' ≡ f))
      → (r ≡ true) ↔ Everywhere a b
  folded {steps = steps} {v = v} {s = s} {f = f} {r = r} a b e yields ran step =
      let all = fold_over steps v _ (λ ys ok. ok ≡ fold with_pair true ys) f
      (λ ys ok x next f' k j. let w = step ok x next f' j in (rw fold-append (w.0 ∙ ap (λ t. with_pair t (v x)) k), w.1))
      s (zip a b) true r yields.runs refl ran in
      rw all (fold-pairs a b e)
