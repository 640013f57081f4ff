-- A format with nothing behind it keeps the laws of a document. Assumes nothing.
use Rattle.std.specs.Prelude.{◌≡◌, refl, List, [], ◌∷◌, ◌++◌, ◌⊎◌, ℕ, ◌≤◌, length}
use Rattle.std.proofs.Common.{sym, ap, ◌∙◌, subst, append-nil, append_assoc, inl, inr, arith, length-append}
use Rattle.answer.specs.Numbers.{left_over}
use Rattle.fields.specs.Format.{Early, Number, Front, Said, Blamed, Format}
use Rattle.fields.specs.Means.{AloneRefuses}
use Rattle.fields.specs.Fronts.{front, cons-nil, some_more}

module _ {A : Type 0} (F : Format A) where
  abbrev Refuses : List ℕ → ℕ → ℕ → Type 0
  Refuses = AloneRefuses F

  pub alone-apart : (bs : List ℕ) (a : A) (n k : ℕ) → F.Takes bs a → Refuses bs n k → ⊥
  alone-apart bs a n k t (inl f) = F.apart bs [] a n k t (subst (λ (l : List ℕ). F.Faults l n k) (sym (append-nil bs)) f)
  alone-apart bs a n k t (inr (x, r, b, e, u, some, _, _)) = some (sym (front F bs x [] r a b t u (append-nil bs ∙ e)).2)

  -- bytes that are left over behind taken ones have no other fault
  not-both : (bs x r : List ℕ) (a : A) (n k : ℕ) → bs ≡ x ++ r → F.Takes x a → F.Faults bs n k → ⊥
  not-both bs x r a n k e t f = F.apart x r a n k t (subst (λ (i : List ℕ). F.Faults i n k) e f)

  pub alone-same : (bs : List ℕ) (n k m l : ℕ) → Refuses bs n k → Refuses bs m l → (n ≡ m) × (k ≡ l)
  alone-same bs n k m l (inl f) (inl g) = F.same bs n k m l f g
  alone-same bs n k m l (inl f) (inr (x, r, a, e, t, _, _, _)) = absurd (not-both bs x r a n k e t f)
  alone-same bs n k m l (inr (x, r, a, e, t, _, _, _)) (inl f) = absurd (not-both bs x r a m l e t f)
  alone-same bs n k m l (inr (x, r, a, e, t, _, i, j)) (inr (y, q, b, f, u, _, i', j')) =
      (i ∙ sym i', j ∙ ap length (F.one x y r q a b t u (sym e ∙ f)).0 ∙ sym j')

  pub alone-total : (bs : List ℕ) → Said F.Takes bs ⊎ Blamed Refuses bs
  alone-total bs = go (F.total bs)
    where
      go : Front F.Takes bs ⊎ Blamed F.Faults bs → Said F.Takes bs ⊎ Blamed Refuses bs
      go (inl (x, [], a, e, t)) = inl (a, subst (λ (l : List ℕ). F.Takes l a) (sym (e ∙ append-nil x)) t)
      go (inl (x, c ∷ r, a, e, t)) = inr (left_over, length x, inr (x, c ∷ r, a, e, t, cons-nil, refl, refl))
      go (inr (n, k, f)) = inr (n, k, inl f)

  pub alone-settled : (bs r : List ℕ) (n k : ℕ) → Refuses bs n k → Early bs n k ⊎ Refuses (bs ++ r) n k
  alone-settled bs r n k (inr (x, q, a, e, t, some, i, j)) =
      let s = ap (λ (l : List ℕ). l ++ r) e ∙ append_assoc x q r in
      inr (inr (x, q ++ r, a, s, t, some_more q r some, i, j))
  alone-settled bs r n k (inl f) = go (F.settled bs r n k f)
    where
      go : Early bs n k ⊎ F.Faults (bs ++ r) n k → Early bs n k ⊎ Refuses (bs ++ r) n k
      go (inl e) = inl e
      go (inr g) = inr (inl g)

  pub alone-inside : (bs : List ℕ) (n k : ℕ) → Refuses bs n k → Number n × (k ≤ length bs)
  alone-inside bs n k (inl f) = F.inside bs n k f
  alone-inside bs n k (inr (x, r, a, e, t, _, i, j)) = (omega (arith, i), omega (arith, j, ap length e, length-append x r))
