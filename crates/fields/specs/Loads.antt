-- What a document leaves to its reader: one answer, a grant exactly for bytes that are taken, a refusal exactly where it stands. Assumes nothing.
use Rattle.std.specs.Prelude.{◌≡◌, refl, List, [], ◌++◌, ◌⊎◌, ◌↔◌, ℕ, length}
use Rattle.std.proofs.Common.{sym, ap₂, ◌∙◌, subst, inl, inr, arith}
use Rattle.answer.specs.Numbers.{done, ends_early, left_over}
use Rattle.answer.specs.declared.Answer.{Answer}
use Rattle.answer.specs.Answers.{Granted, Is}
use Rattle.fields.specs.Format.{Early, Said, Format, Document}
use Rattle.fields.specs.Document.{alone, Answers}
use Rattle.fields.specs.Fronts.{cut}

-- a number and a place make one answer
pub is_one : {a b : Answer} {n k : ℕ} → Is a n k → Is b n k → a ≡ b
is_one p q = ap₂ (λ (n k : ℕ). record { number = n; place = k }) (p.number ∙ sym q.number) (p.place ∙ sym q.place)

module _ {A : Type 0} (D : Document A) where
  -- how a reader gives it
  pub answers-done : (bs : List ℕ) (a : Answer) → Said D.Takes bs → Is a done 0 → Answers D bs a
  answers-done bs a t i = inl (t, i)

  pub answers-refused : (bs : List ℕ) (a : Answer) {n k : ℕ} → D.Refuses bs n k → Is a n k → Answers D bs a
  answers-refused bs a {n} {k} r i =
      let there = subst (λ (l : ℕ). D.Refuses bs n l) (sym i.place) r in
      inr (subst (λ (m : ℕ). D.Refuses bs m a.place) (sym i.number) there)

  pub one_answer : (bs : List ℕ) (a b : Answer) → Answers D bs a → Answers D bs b → a ≡ b
  one_answer bs a b (inl (v, p)) (inl (w, q)) = is_one p q
  one_answer bs a b (inl ((v, t), p)) (inr r) = absurd (D.apart bs v b.number b.place t r)
  one_answer bs a b (inr r) (inl ((v, t), p)) = absurd (D.apart bs v a.number a.place t r)
  one_answer bs a b (inr r) (inr s) =
      let w = D.same bs a.number a.place b.number b.place r s in
      ap₂ (λ (n k : ℕ). record { number = n; place = k }) w.0 w.1

  -- a refusal has a number other than 0
  pub not_done : (bs : List ℕ) (n k : ℕ) → D.Refuses bs n k → n ≡ done → ⊥
  not_done bs n k r e = omega (arith, (D.inside bs n k r).0.0, e)

  module _ (bs : List ℕ) (a : Answer) where
    -- granted exactly when the bytes say a value
    pub granted-exactly : Answers D bs a → Granted a ↔ Said D.Takes bs
    granted-exactly (inl (v, p)) = ((λ g. v), λ w. p.number)
    granted-exactly (inr r) = (
      (λ g. absurd (not_done bs a.number a.place r g)),
      λ w. absurd (D.apart bs w.0 a.number a.place w.1 r),
    )

    -- refused with that number and place exactly when that is the refusal
    pub refused-exactly : Answers D bs a → (n k : ℕ) → (n ≡ done → ⊥) → Is a n k ↔ D.Refuses bs n k
    refused-exactly (inl ((v, t), p)) n k some = ((λ i. absurd (some (sym i.number ∙ p.number))), λ r. absurd (D.apart bs v n k t r))
    refused-exactly (inr r) n k some = (
      (λ i. subst (λ (m : ℕ). D.Refuses bs m k) i.number (subst (λ (l : ℕ). D.Refuses bs a.number l) i.place r)),
      λ s. let w = D.same bs a.number a.place n k r s in record { number = w.0; place = w.1 },
    )

  -- a refusal other than 3 stays, whatever follows
  pub stays : (bs r : List ℕ) (n k : ℕ) → D.Refuses bs n k → (n ≡ ends_early → ⊥) → D.Refuses (bs ++ r) n k
  stays bs r n k f h = go (D.settled bs r n k f)
    where
      go : Early bs n k ⊎ D.Refuses (bs ++ r) n k → D.Refuses (bs ++ r) n k
      go (inl e) = absurd (h e.0)
      go (inr g) = g

module _ {A : Type 0} (F : Format A) where
  -- of bytes that are taken, every part from the front that is not all of them is refused with 3, at its length
  pub cut-refused : (p q : List ℕ) (v : A) → F.Takes (p ++ q) v → (q ≡ [] → ⊥) → (alone F).Refuses p ends_early (length p)
  cut-refused p q v t some = inl (cut F p q v t some)

  -- with bytes behind them, they are refused with 7, at the first of those
  pub over-refused : (x r : List ℕ) (v : A) → F.Takes x v → (r ≡ [] → ⊥) → (alone F).Refuses (x ++ r) left_over (length x)
  over-refused x r v t some = inr (x, r, v, refl, t, some, refl, refl)
