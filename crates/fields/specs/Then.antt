-- One format and then another keeps the laws of a format. Assumes nothing.
use Rattle.std.specs.Prelude.{◌≡◌, refl, List, ◌++◌, ◌⊎◌, ℕ, ◌+◌, ◌≤◌, length}
use Rattle.std.proofs.Common.{sym, ap, ap₂, ◌∙◌, subst, append_assoc, inl, inr, arith, length-append}
use Rattle.fields.specs.Format.{Early, Number, Front, Blamed, Format}
use Rattle.fields.specs.Means.{ThenTakes, ThenFaults}
use Rattle.fields.specs.Fronts.{front}

module _ {A B : Type 0} (F : Format A) (G : A → Format B) where
  -- what both take, what both find at fault
  abbrev Takes : List ℕ → B → Type 0
  Takes = ThenTakes F G

  abbrev Faults : List ℕ → ℕ → ℕ → Type 0
  Faults = ThenFaults F G

  pub then_one : (x y r q : List ℕ) (a b : B) → Takes x a → Takes y b → x ++ r ≡ y ++ q → (x ≡ y) × (a ≡ b)
  then_one x y r q a b (x1, x2, c, e, f, g) (y1, y2, d, e', f', g') p =
      let left = sym (append_assoc x1 x2 r) ∙ ap (λ (l : List ℕ). l ++ r) (sym e) in
      let right = ap (λ (l : List ℕ). l ++ q) e' ∙ append_assoc y1 y2 q in
      let w = front F x1 y1 (x2 ++ r) (y2 ++ q) c d f f' (left ∙ p ∙ right) in
      let v = (G d).one x2 y2 r q a b (subst (λ (i : A). (G i).Takes x2 a) w.1 g) g' w.2 in
      (e ∙ ap₂ (λ (l m : List ℕ). l ++ m) w.0 v.0 ∙ sym e', v.1)

  pub then-apart : (x r : List ℕ) (b : B) (n k : ℕ) → Takes x b → Faults (x ++ r) n k → ⊥
  then-apart x r b n k (y, z, a, e, f, g) (inl h) =
      let i = ap (λ (l : List ℕ). l ++ r) e ∙ append_assoc y z r in
      F.apart y (z ++ r) a n k f (subst (λ (l : List ℕ). F.Faults l n k) i h)
  then-apart x r b n k (y, z, a, e, f, g) (inr (y', s, c, j, e', f', h, _)) =
      let i = sym (append_assoc y z r) ∙ ap (λ (l : List ℕ). l ++ r) (sym e) ∙ e' in
      let w = front F y y' (z ++ r) s a c f f' i in
      (G c).apart z r b n j (subst (λ (i : A). (G i).Takes z b) w.1 g) (subst (λ (l : List ℕ). (G c).Faults l n j) (sym w.2) h)

  -- where F is taken, it has no fault
  not_first : (bs y r : List ℕ) (a : A) (n k : ℕ) → bs ≡ y ++ r → F.Takes y a → F.Faults bs n k → ⊥
  not_first bs y r a n k e t f = F.apart y r a n k t (subst (λ (i : List ℕ). F.Faults i n k) e f)

  pub then_same : (bs : List ℕ) (n k m l : ℕ) → Faults bs n k → Faults bs m l → (n ≡ m) × (k ≡ l)
  then_same bs n k m l (inl f) (inl g) = F.same bs n k m l f g
  then_same bs n k m l (inl f) (inr (y, r, a, j, e, t, h, _)) = absurd (not_first bs y r a n k e t f)
  then_same bs n k m l (inr (y, r, a, j, e, t, h, _)) (inl f) = absurd (not_first bs y r a m l e t f)
  then_same bs n k m l (inr (y, r, a, j, e, t, h, p)) (inr (y', r', a', j', e', t', h', p')) =
      let w = front F y y' r r' a a' t t' (sym e ∙ e') in
      let there = subst (λ (i : List ℕ). (G a').Faults i n j) w.2 (subst (λ (i : A). (G i).Faults r n j) w.1 h) in
      let v = (G a').same r' n j m j' there h' in
      (v.0, p ∙ ap₂ (λ (i : List ℕ) (o : ℕ). length i + o) w.0 v.1 ∙ sym p')

  pub then_total : (bs : List ℕ) → Front Takes bs ⊎ Blamed Faults bs
  then_total bs = go (F.total bs)
    where
      next : (x r : List ℕ) (a : A) → bs ≡ x ++ r → F.Takes x a → Front (G a).Takes r ⊎ Blamed (G a).Faults r → Front Takes bs ⊎ Blamed Faults bs
      next x r a e t (inl (z, s, b, i, u)) =
          inl (x ++ z, s, b, e ∙ ap (λ (l : List ℕ). x ++ l) i ∙ sym (append_assoc x z s), (x, z, a, refl, t, u))
      next x r a e t (inr (n, k, f)) = inr (n, length x + k, inr (x, r, a, k, e, t, f, refl))

      go : Front F.Takes bs ⊎ Blamed F.Faults bs → Front Takes bs ⊎ Blamed Faults bs
      go (inl (x, r, a, e, t)) = next x r a e t ((G a).total r)
      go (inr (n, k, f)) = inr (n, k, inl f)

  pub then-settled : (bs r : List ℕ) (n k : ℕ) → Faults bs n k → Early bs n k ⊎ Faults (bs ++ r) n k
  then-settled bs r n k (inl f) = go (F.settled bs r n k f)
    where
      go : Early bs n k ⊎ F.Faults (bs ++ r) n k → Early bs n k ⊎ Faults (bs ++ r) n k
      go (inl e) = inl e
      go (inr g) = inr (inl g)
  then-settled bs r n k (inr (y, s, a, j, e, t, h, p)) = go ((G a).settled s r n j h)
    where
      go : Early s n j ⊎ (G a).Faults (s ++ r) n j → Early bs n k ⊎ Faults (bs ++ r) n k
      go (inl (i, o)) = inl (i, omega (arith, p, o, ap length e, length-append y s))
      go (inr g) = inr (inr (y, s ++ r, a, j, ap (λ (l : List ℕ). l ++ r) e ∙ append_assoc y s r, t, g, p))

  pub then-inside : (bs : List ℕ) (n k : ℕ) → Faults bs n k → Number n × (k ≤ length bs)
  then-inside bs n k (inl f) = F.inside bs n k f
  then-inside bs n k (inr (y, r, a, j, e, t, h, p)) =
      let w = (G a).inside r n j h in
      (w.0, omega (arith, w.1, p, ap length e, length-append y r))
