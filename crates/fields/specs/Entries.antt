-- Entries to the end, each of at least a byte, keep the laws of a document. Assumes nothing.
use Rattle.std.specs.Prelude.{◌≡◌, refl, List, [], ◌∷◌, ◌++◌, ◌⊎◌, ℕ, zero, suc, ◌+◌, ◌≤◌, length}
use Rattle.std.proofs.Common.{sym, ap, ap₂, ◌∙◌, subst, append_assoc, inl, inr, arith, length-append}
use Rattle.fields.specs.Format.{Early, Number, Front, Said, Blamed, Format, Some}
use Rattle.fields.specs.Means.{Entries, none, more, EntryFaults, here, later}
use Rattle.fields.specs.Fronts.{front, cons-nil, some_more}

module _ {A : Type 0} (F : Format A) (some : Some F) where
  abbrev Takes : List ℕ → List A → Type 0
  Takes = Entries F

  abbrev Refuses : List ℕ → ℕ → ℕ → Type 0
  Refuses = EntryFaults F

  -- no bytes begin with no entry
  no-entry : (x r : List ℕ) (a : A) → [] ≡ x ++ r → F.Takes x a → ⊥
  no-entry [] r a e t = some a t
  no-entry (c ∷ x) r a e t = cons-nil (sym e)

  -- bytes that begin with an entry are not at fault there
  not-here : (bs x r : List ℕ) (a : A) (n k : ℕ) → bs ≡ x ++ r → F.Takes x a → F.Faults bs n k → ⊥
  not-here bs x r a n k e t f = F.apart x r a n k t (subst (λ (i : List ℕ). F.Faults i n k) e f)

  pub entries-one : (bs cs : List ℕ) (a b : List A) → bs ≡ cs → Takes bs a → Takes cs b → a ≡ b
  entries-one bs cs a b e none none = refl
  entries-one bs cs a b e none (more p t w) = absurd (no-entry _ _ _ (e ∙ p) t)
  entries-one bs cs a b e (more p t w) none = absurd (no-entry _ _ _ (sym e ∙ p) t)
  entries-one bs cs a b e (more {x = x} {r = r} {a = c} p t w) (more {x = y} {r = q} {a = d} s u v) =
      let f = front F x y r q c d t u (sym p ∙ e ∙ s) in
      ap₂ (λ (i : A) (l : List A). i ∷ l) f.1 (entries-one r q _ _ f.2 w v)

  pub entries-apart : (bs cs : List ℕ) (a : List A) (n k : ℕ) → bs ≡ cs → Takes bs a → Refuses cs n k → ⊥
  entries-apart bs cs a n k e none (here s f) = s (sym e)
  entries-apart bs cs a n k e none (later p t f _) = no-entry _ _ _ (e ∙ p) t
  entries-apart bs cs a n k e (more {x = x} {r = r} {a = c} p t w) (here s f) = not-here cs x r c n k (sym e ∙ p) t f
  entries-apart bs cs a n k e (more {x = x} {r = r} {a = c} p t w) (later {x = y} {r = q} {a = d} {j = j} s u f _) =
      entries-apart r q _ n j (front F x y r q c d t u (sym p ∙ e ∙ s)).2 w f

  pub entries-same : (bs cs : List ℕ) (n k m l : ℕ) → bs ≡ cs → Refuses bs n k → Refuses cs m l → (n ≡ m) × (k ≡ l)
  entries-same bs cs n k m l e (here s f) (here s' g) = F.same cs n k m l (subst (λ (i : List ℕ). F.Faults i n k) e f) g
  entries-same bs cs n k m l e (here s f) (later {x = y} {r = q} {a = d} p u g _) = absurd (not-here bs y q d n k (e ∙ p) u f)
  entries-same bs cs n k m l e (later {x = y} {r = q} {a = d} p u g _) (here s f) = absurd (not-here cs y q d m l (sym e ∙ p) u f)
  entries-same bs cs n k m l e (later {x = x} {r = r} {a = c} {j = j} p t f i) (later {x = y} {r = q} {a = d} {j = j'} s u g i') =
      let w = front F x y r q c d t u (sym p ∙ e ∙ s) in
      let v = entries-same r q n j m j' w.2 f g in
      (v.0, i ∙ ap₂ (λ (z : List ℕ) (o : ℕ). length z + o) w.0 v.1 ∙ sym i')

  -- by the number of bytes
  abbrev Comes : List ℕ → Type 0
  Comes bs = Said Takes bs ⊎ Blamed Refuses bs

  pub entries-total : (f : ℕ) (bs : List ℕ) → length bs ≤ f → Said (Entries F) bs ⊎ Blamed (EntryFaults F) bs
  entries-total zero [] h = inl ([], none)
  entries-total zero (c ∷ bs) h = absurd (omega arith)
  entries-total (suc f) [] h = inl ([], none)
  entries-total (suc f) (c ∷ bs) h = go (entries-total f) (F.total (c ∷ bs))
    where
      next : (x r : List ℕ) (a : A) → c ∷ bs ≡ x ++ r → F.Takes x a → Comes r → Comes (c ∷ bs)
      next x r a e t (inl (l, w)) = inl (a ∷ l, more e t w)
      next x r a e t (inr (n, k, w)) = inr (n, length x + k, later e t w refl)

      shorter : (x r : List ℕ) (a : A) → c ∷ bs ≡ x ++ r → F.Takes x a → length r ≤ f
      shorter [] r a e t = absurd (some a t)
      shorter (d ∷ x) r a e t = omega (arith, h, ap length e, length-append x r)

      go : ((l : List ℕ) → length l ≤ f → Comes l) → Front F.Takes (c ∷ bs) ⊎ Blamed F.Faults (c ∷ bs) → Comes (c ∷ bs)
      go fewer (inl (x, r, a, e, t)) = next x r a e t (fewer r (shorter x r a e t))
      go fewer (inr (n, k, w)) = inr (n, k, here cons-nil w)

  pub entries-settled : (bs r : List ℕ) (n k : ℕ) → Refuses bs n k → Early bs n k ⊎ Refuses (bs ++ r) n k
  entries-settled bs r n k (here s f) = go (F.settled bs r n k f)
    where
      go : Early bs n k ⊎ F.Faults (bs ++ r) n k → Early bs n k ⊎ Refuses (bs ++ r) n k
      go (inl e) = inl e
      go (inr g) = inr (here (some_more bs r s) g)
  entries-settled bs r n k (later {x = x} {r = q} {j = j} e t f p) = go (entries-settled q r n j f)
    where
      go : Early q n j ⊎ Refuses (q ++ r) n j → Early bs n k ⊎ Refuses (bs ++ r) n k
      go (inl (i, o)) = inl (i, omega (arith, p, o, ap length e, length-append x q))
      go (inr g) = inr (later (ap (λ (l : List ℕ). l ++ r) e ∙ append_assoc x q r) t g p)

  pub entries-inside : (bs : List ℕ) (n k : ℕ) → Refuses bs n k → Number n × (k ≤ length bs)
  entries-inside bs n k (here s f) = F.inside bs n k f
  entries-inside bs n k (later {x = x} {r = r} {j = j} e t f p) =
      let w = entries-inside r n j f in
      (w.0, omega (arith, w.1, p, ap length e, length-append x r))
