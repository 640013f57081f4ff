-- A stretch of m bytes keeps the laws of a format, and so do the ways of judging it those of a judging. Assumes nothing.
use Rattle.std.specs.Prelude.{◌≡◌, refl, List, ◌++◌, ◌⊎◌, ℕ, ◌+◌, ◌-◌, ◌<◌, ◌≤◌, length, take, drop}
use Rattle.std.proofs.Common.{sym, ap, ◌∙◌, subst, inl, inr, arith, length-append, length-take, take-append-drop, take_at, take_all, length-take-le}
use Rattle.std.proofs.Math.Decide.{dec_lt}
use Rattle.std.proofs.lemmas.List.{take-append-le}
use Rattle.std.proofs.Math.Seq.{take-append-add}
use Rattle.answer.specs.Numbers.{ends_early}
use Rattle.answer.specs.Faults.{CanBegin, FaultAt}
use Rattle.answer.specs.Laws.{one-fault, no-fault}
use Rattle.fields.specs.Format.{Early, Number, Refusal, Front, Blamed}
use Rattle.fields.specs.Means.{Judging, StretchTakes, StretchFaults, Test, WrongTogether, WrongByte}

module _ (m : ℕ) (J : Judging m) (refusal : Refusal) where
  abbrev Takes : List ℕ → List ℕ → Type 0
  Takes = StretchTakes m J refusal

  abbrev Faults : List ℕ → ℕ → ℕ → Type 0
  Faults = StretchFaults m J refusal

  pub stretch-one : (x y r q : List ℕ) (a b : List ℕ) → Takes x a → Takes y b → x ++ r ≡ y ++ q → (x ≡ y) × (a ≡ b)
  stretch-one x y r q a b (i, g, e) (j, h, f) p =
      let w : x ≡ y = sym (take_at x r m i) ∙ ap (take m) p ∙ take_at y q m j in
      (w, sym e ∙ w ∙ f)

  pub stretch-apart : (x r : List ℕ) (a : List ℕ) (n k : ℕ) → Takes x a → Faults (x ++ r) n k → ⊥
  stretch-apart x r a n k (i, g, e) (inl (w, _)) = J.not-both x k g (subst (λ (l : List ℕ). J.Wrong l k) (take_at x r m i) w)
  stretch-apart x r a n k (i, g, e) (inr (h, _, _)) = omega (arith, h, i, length-append x r)

  -- where they end before, all that is there is judged
  short : (bs : List ℕ) (k : ℕ) → length bs < m → J.Wrong (take m bs) k → J.Wrong bs k
  short bs k h w = subst (λ (l : List ℕ). J.Wrong l k) (take_all m bs (omega arith)) w

  pub stretch-same : (bs : List ℕ) (n k o l : ℕ) → Faults bs n k → Faults bs o l → (n ≡ o) × (k ≡ l)
  stretch-same bs n k o l (inl (w, e)) (inl (v, f)) = (e ∙ sym f, J.one_place (take m bs) k l w v)
  stretch-same bs n k o l (inl (w, e)) (inr (h, none, _)) = absurd (none k (short bs k h w))
  stretch-same bs n k o l (inr (h, none, _)) (inl (w, e)) = absurd (none l (short bs l h w))
  stretch-same bs n k o l (inr (h, _, e)) (inr (i, _, f)) = (e.0 ∙ sym f.0, e.1 ∙ sym f.1)

  pub stretch-total : (bs : List ℕ) → Front Takes bs ⊎ Blamed Faults bs
  stretch-total bs = go (dec_lt (length bs) m)
    where
      some : length bs < m → Dec ((k : ℕ) × J.Wrong bs k) → Front Takes bs ⊎ Blamed Faults bs
      some h (yes (k, w)) = inr (refusal.number, k, inl (subst (λ (l : List ℕ). J.Wrong l k) (sym (take_all m bs (omega arith))) w, refl))
      some h (no none) = inr (ends_early, length bs, inr (h, (λ j w. none (j, w)), (refl, refl)))

      full : length (take m bs) ≡ m → J.Good (take m bs) ⊎ ((k : ℕ) × J.Wrong (take m bs) k) → Front Takes bs ⊎ Blamed Faults bs
      full e (inl g) = inl (take m bs, drop m bs, take m bs, sym (take-append-drop m bs), (e, g, refl))
      full e (inr (k, w)) = inr (refusal.number, k, inl (w, refl))

      go : Dec (length bs < m) → Front Takes bs ⊎ Blamed Faults bs
      go (yes h) = some h (J.so_far bs h)
      go (no h) = let e = length-take-le m bs (omega arith) in full e (J.all_there (take m bs) e)

  pub stretch-settled : (bs r : List ℕ) (n k : ℕ) → Faults bs n k → Early bs n k ⊎ Faults (bs ++ r) n k
  stretch-settled bs r n k (inr (_, _, e)) = inl e
  stretch-settled bs r n k (inl (w, e)) = inr (inl (go (dec_lt (length bs) m), e))
    where
      go : Dec (length bs < m) → J.Wrong (take m (bs ++ r)) k
      go (yes h) =
          let i : length bs + (m - length bs) ≡ m = omega arith in
          let v = J.stays bs (take (m - length bs) r) k h (short bs k h w) in
          subst (λ (j : ℕ). J.Wrong (take j (bs ++ r)) k) i (subst (λ (l : List ℕ). J.Wrong l k) (sym (take-append-add bs r (m - length bs))) v)
      go (no h) = subst (λ (l : List ℕ). J.Wrong l k) (sym (take-append-le m bs r (omega arith))) w

  pub stretch-inside : (bs : List ℕ) (n k : ℕ) → Faults bs n k → Number n × (k ≤ length bs)
  stretch-inside bs n k (inl (w, e)) = (subst Number (sym e) refusal.listed, omega (arith, J.within (take m bs) k w, length-take m bs))
  stretch-inside bs n k (inr (_, _, e)) = (omega (arith, e.0), omega (arith, e.1))

-- all there, they are good, or wrong together
pub together-all : (m : ℕ) (t : Test (List ℕ)) (l : List ℕ) → length l ≡ m → Dec (t.holds l) → t.holds l ⊎ ((k : ℕ) × WrongTogether m t l k)
together-all m t l e (yes h) = inl h
together-all m t l e (no h) = inr (_, (e, h, refl))

-- two tests at once
pub both-decided : {P Q : Type 0} → Dec P → Dec Q → Dec (P × Q)
both-decided (yes p) (yes q) = yes (p, q)
both-decided (yes p) (no q) = no (λ w. q w.1)
both-decided (no p) q = no (λ w. p w.0)

-- judged one by one
module _ (m : ℕ) (Legal : List ℕ → Type 0) where
  pub byte-all : (l : List ℕ) → length l ≡ m → Legal l ⊎ ((k : ℕ) × FaultAt Legal l k) → Legal l ⊎ ((k : ℕ) × WrongByte m Legal l k)
  byte-all l e (inl g) = inl g
  byte-all l e (inr (k, f)) = inr (k, (f, inr e))

  pub byte-so-far : (l : List ℕ) → length l < m → Legal l ⊎ ((k : ℕ) × FaultAt Legal l k) → Dec ((k : ℕ) × WrongByte m Legal l k)
  byte-so-far l h (inl g) = no (λ w. no-fault Legal l g w.1.0)
  byte-so-far l h (inr (k, f)) = go (dec_lt k (length l))
    where
      other : length l ≤ k → (j : ℕ) → FaultAt Legal l j → (j < length l) ⊎ (length l ≡ m) → ⊥
      other i j g (inl o) = omega (arith, i, o, one-fault Legal l j k g f)
      other i j g (inr o) = omega (arith, h, o)

      go : Dec (k < length l) → Dec ((j : ℕ) × WrongByte m Legal l j)
      go (yes i) = yes (k, (f, inl i))
      go (no i) = no (λ w. other (omega arith) w.0 w.1.0 w.1.1)

  pub byte-stays : (l r : List ℕ) (k : ℕ) → length l < m → WrongByte m Legal l k → WrongByte m Legal (l ++ r) k
  byte-stays l r k h (f, inr e) = absurd (omega (arith, h, e))
  byte-stays l r k h (f, inl i) =
      let more : take (k + 1) (l ++ r) ≡ take (k + 1) l = take-append-le (k + 1) l r (omega arith) in
      let less : take k (l ++ r) ≡ take k l = take-append-le k l r (omega arith) in (
        record {
          within = omega (arith, i, length-append l r);
          before = subst (CanBegin Legal) (sym less) f.before;
          there = λ o b. f.there i (subst (CanBegin Legal) more b);
          at-end = λ e. absurd (omega (arith, e, i, length-append l r));
        },
        inl (omega (arith, i, length-append l r)),
      )
