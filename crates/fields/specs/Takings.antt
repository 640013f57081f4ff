-- How taken bytes follow one another, and what they are: of so many formats, of a byte. Assumes nothing.
use Rattle.std.specs.Prelude.{◌≡◌, refl, List, [], ◌∷◌, ◌++◌, ℕ, zero, suc, ◌<◌, length, get_or}
use Rattle.std.proofs.Common.{sym, ap, ◌∙◌, subst, append-nil, arith, length-append}
use Rattle.std.proofs.Math.Decide.{dec_lt}
use Rattle.std.proofs.Math.ListN.{get_or-append}
use Rattle.std.proofs.lemmas.List.{get_or_at}
use Rattle.fields.specs.Format.{Refusal, Format, Some}
use Rattle.fields.specs.Means.{Test}
use Rattle.fields.specs.Combine.{give, ◌>>=◌, times}
use Rattle.fields.specs.Parts.{made, together, stretch, first, byte}
use Rattle.fields.specs.Fronts.{cons-nil}

module _ {A B : Type 0} (F : Format A) where
  -- if F takes a byte, so do F and what follows it
  pub then_some : (G : A → Format B) → Some F → Some (F >>= G)
  then_some G some b (y, z, a, e, t, u) = go y e t
    where
      go : (y : List ℕ) → [] ≡ y ++ z → F.Takes y a → ⊥
      go [] e t = some a t
      go (c ∷ y) e t = cons-nil (sym e)

  -- a value made of F's
  pub takes-made : (make : A → B) (x : List ℕ) (a : A) → F.Takes x a → (F >>= λ v. give (make v)).Takes x (make a)
  takes-made make x a t = (x, [], a, sym (append-nil x), t, (refl, refl))

  pub made-takes : (make : A → B) (x : List ℕ) (b : B) → (F >>= λ v. give (make v)).Takes x b → (a : A) × F.Takes x a × (make a ≡ b)
  made-takes make x b (y, z, a, e, t, (i, j)) =
      let w : x ≡ y = e ∙ ap (λ (l : List ℕ). y ++ l) i ∙ append-nil y in
      (a, subst (λ (l : List ℕ). F.Takes l a) (sym w) t, j)

-- of so many, as many values are said, each by its own
pub times-takes : {A : Type 0} (k : ℕ) (F : ℕ → Format A) (x : List ℕ) (vs : List A) → (times k F).Takes x vs
    → (length vs ≡ k) × ((i : ℕ) → i < k → (d : A) → (y : List ℕ) × (F i).Takes y (get_or vs i d))
times-takes zero F x vs (_, e) = (ap length (sym e), λ i h d. absurd (omega arith))
times-takes {A} (suc k) F x vs (y, z, us, e, t, u) =
    let (v, w, q) = made-takes (F k) (λ v. us ++ (v ∷ [])) z vs u in
    let (l, before) = times-takes k F y us t in
    (omega (arith, l, length-append us (v ∷ []), ap length q), λ i h d. go v w q l before i h d (dec_lt i k))
  where
    go : (v : A) → (F k).Takes z v → us ++ (v ∷ []) ≡ vs → length us ≡ k
        → ((i : ℕ) → i < k → (d : A) → (y : List ℕ) × (F i).Takes y (get_or us i d))
        → (i : ℕ) → i < suc k → (d : A) → Dec (i < k) → (y : List ℕ) × (F i).Takes y (get_or vs i d)
    go v w q l before i h d (yes b) =
        let same : get_or us i d ≡ get_or vs i d = sym (get_or-append us (v ∷ []) d i (omega arith)) ∙ ap (λ (a : List A). get_or a i d) q in
        let (y, s) = before i b d in
        (y, subst (λ (a : A). (F i).Takes y a) same s)
    go v w q l before i h d (no b) =
        let here : i ≡ k = omega arith in
        let same : v ≡ get_or vs i d = sym (get_or_at us v [] d i (l ∙ sym here)) ∙ ap (λ (a : List A). get_or a i d) q in
        (z, subst (λ (j : ℕ). (F j).Takes z (get_or vs i d)) (sym here) (subst (λ (a : A). (F k).Takes z a) same w))

module _ (t : Test ℕ) (refusal : Refusal) where
  pub byte-some : Some (byte t refusal)
  byte-some = then_some (stretch 1 (together 1 (made first t)) refusal) (λ l. give (first l)) (λ l w. omega (arith, w.0))

  pub takes-byte : (v : ℕ) → t.holds v → (byte t refusal).Takes (v ∷ []) v
  takes-byte v h = (v ∷ [], [], v ∷ [], refl, (refl, h, refl), (refl, refl))

  -- it is that byte, and in order
  pub byte-is : (x : List ℕ) (v : ℕ) → (byte t refusal).Takes x v → (x ≡ v ∷ []) × t.holds v
  byte-is x v (y, z, l, p, (u, k, q), (s, o)) =
      let w : first y ≡ v = ap first q ∙ o in
      (p ∙ ap (λ (c : List ℕ). y ++ c) s ∙ append-nil y ∙ only y u ∙ ap (λ (i : ℕ). i ∷ []) w, subst t.holds w k)
    where
      only : (y : List ℕ) → length y ≡ 1 → y ≡ get_or y 0 0 ∷ []
      only [] e = absurd (omega arith)
      only (c ∷ []) e = refl
      only (c ∷ b ∷ y) e = absurd (omega arith)
