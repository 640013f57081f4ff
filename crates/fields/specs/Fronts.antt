-- What is left behind taken bytes is one, too; taken bytes that are cut short end early. Assumes nothing.
use Rattle.std.specs.Prelude.{◌≡◌, refl, List, [], ◌∷◌, ◌++◌, ◌⊎◌, ℕ, length}
use Rattle.std.proofs.Common.{sym, ap, ◌∙◌, subst, append-nil, append_assoc, inl, inr, arith, length-append}
use Rattle.std.proofs.lemmas.List.{append_cancel_left}
use Rattle.answer.specs.Numbers.{ends_early}
use Rattle.fields.specs.Format.{Early, Front, Blamed, Format}

-- lists that are none, and that are not
pub nil-of : (l : List ℕ) → length l ≡ 0 → l ≡ []
nil-of [] e = refl
nil-of (x ∷ l) e = absurd (omega arith)

pub cons-nil : {x : ℕ} {r : List ℕ} → x ∷ r ≡ [] → ⊥
cons-nil e = let o : ◌≡◌ {A = ℕ} 0 1 = cc in omega arith

-- what follows something is not nothing
pub some_more : (q r : List ℕ) → (q ≡ [] → ⊥) → q ++ r ≡ [] → ⊥
some_more [] r w e = w refl
some_more (c ∷ q) r w e = cons-nil e

module _ {A : Type 0} (F : Format A) where
  pub front : (x y r q : List ℕ) (a b : A) → F.Takes x a → F.Takes y b → x ++ r ≡ y ++ q → (x ≡ y) × (a ≡ b) × (r ≡ q)
  front x y r q a b t u e =
      let w = F.one x y r q a b t u e in
      (w.0, w.1, append_cancel_left x r q (e ∙ ap (λ (l : List ℕ). l ++ q) (sym w.0)))

  -- of taken bytes every part from the front that is not all of them ends early
  pub cut : (p q : List ℕ) (a : A) → F.Takes (p ++ q) a → (q ≡ [] → ⊥) → F.Faults p ends_early (length p)
  cut p q a t some = go (F.total p)
    where
      long : (x r : List ℕ) (b : A) → p ≡ x ++ r → F.Takes x b → ⊥
      long x r b e u =
          let i = sym (append_assoc x r q) ∙ ap (λ (l : List ℕ). l ++ q) (sym e) ∙ sym (append-nil (p ++ q)) in
          let w = F.one x (p ++ q) (r ++ q) [] b a u t i in
          some (nil-of q (omega (arith, ap length w.0, ap length e, length-append x r, length-append p q)))

      stays : (n k : ℕ) → F.Faults p n k → Early p n k ⊎ F.Faults (p ++ q) n k → F.Faults p ends_early (length p)
      stays n k f (inl (i, j)) = subst (λ (m : ℕ). F.Faults p m (length p)) i (subst (λ (m : ℕ). F.Faults p n m) j f)
      stays n k f (inr g) = absurd (F.apart (p ++ q) [] a n k t (subst (λ (l : List ℕ). F.Faults l n k) (sym (append-nil (p ++ q))) g))

      go : Front F.Takes p ⊎ Blamed F.Faults p → F.Faults p ends_early (length p)
      go (inl (x, r, b, e, u)) = absurd (long x r b e u)
      go (inr (n, k, f)) = stays n k f (F.settled p q n k f)
