-- How large the number of a fault can be, how many bytes can be taken, and how far on a fault can be. Assumes nothing.
use Rattle.std.proofs.Common.{ap, inl, inr, arith, length-append, length-take}
use Rattle.std.specs.Prelude.{List, [], ◌∷◌, ◌++◌, ℕ, zero, suc, ◌+◌, ◌*◌, ◌<◌, ◌≤◌, length, take}
use Rattle.answer.specs.Numbers.{ends_early, left_over}
use Rattle.fields.specs.Format.{Refusal, Format}
use Rattle.fields.specs.Means.{Judging, Test}
use Rattle.fields.specs.Combine.{give, ◌>>=◌, times}
use Rattle.fields.specs.Parts.{made, together, stretch, valued}
use Rattle.fields.specs.Document.{alone}

-- every fault of F has a number below m
abbrev pub NumbersUnder : {A : Type 0} → ℕ → Format A → Type 0
NumbersUnder m F = (bs : List ℕ) (n k : ℕ) → F.Faults bs n k → n < m

-- F takes at most m bytes
abbrev pub AtMost : {A : Type 0} → ℕ → Format A → Type 0
AtMost {A} m F = (x : List ℕ) (a : A) → F.Takes x a → length x ≤ m

-- no fault of F is more than m bytes on
abbrev pub FaultsBy : {A : Type 0} → ℕ → Format A → Type 0
FaultsBy m F = (bs : List ℕ) (n k : ℕ) → F.Faults bs n k → k ≤ m

-- values that F says
abbrev pub SaidBy : {A : Type 0} → Format A → A → Type 0
SaidBy F a = (x : List ℕ) × F.Takes x a

module _ {A B : Type 0} (F : Format A) (G : A → Format B) where
  pub under-then : (m : ℕ) → NumbersUnder m F → ((a : A) → NumbersUnder m (G a)) → NumbersUnder m (F >>= G)
  under-then m f g bs n k (inl h) = f bs n k h
  under-then m f g bs n k (inr (y, r, a, j, e, t, h, p)) = g a r n j h

  pub most-then : (m l : ℕ) → AtMost m F → ((a : A) → SaidBy F a → AtMost l (G a)) → AtMost (m + l) (F >>= G)
  most-then m l f g x b (y, z, a, e, t, u) = omega (arith, ap length e, length-append y z, f y a t, g a (y, t) z b u)

  pub by-then : (m l : ℕ) → AtMost m F → FaultsBy m F → ((a : A) → SaidBy F a → FaultsBy l (G a)) → FaultsBy (m + l) (F >>= G)
  by-then m l t f g bs n k (inl h) = omega (arith, f bs n k h)
  by-then m l t f g bs n k (inr (y, r, a, j, e, u, h, p)) = omega (arith, t y a u, g a (y, u) r n j h)

module _ {A : Type 0} (F : ℕ → Format A) where
  pub under-times : (m k : ℕ) → ((i : ℕ) → NumbersUnder m (F i)) → NumbersUnder m (times k F)
  under-times m zero f = λ bs n j h. absurd h
  under-times m (suc k) f =
      let last : (xs : List A) → NumbersUnder m (F k >>= λ x. give (xs ++ (x ∷ []))) =
      λ xs. under-then (F k) (λ x. give (xs ++ (x ∷ []))) m (f k) (λ x bs n j h. absurd h) in
      under-then (times k F) (λ xs. F k >>= λ x. give (xs ++ (x ∷ []))) m (under-times m k f) last

  pub most-times : (m k : ℕ) → ((i : ℕ) → i < k → AtMost m (F i)) → AtMost (k * m) (times k F)
  most-times m zero f x a (e, _) = omega (arith, ap length e)
  most-times m (suc k) f x a (y, z, xs, e, t, (y', z', v, e', u, (i, _))) =
      let before = most-times m k (λ i h. f i (omega arith)) y xs t in
      omega (arith, before, f k (omega arith) y' v u, ap length e, ap length e', ap length i, length-append y z, length-append y' z')

  pub by-times : (m k : ℕ) → ((i : ℕ) → i < k → AtMost m (F i)) → ((i : ℕ) → i < k → FaultsBy m (F i)) → FaultsBy (k * m) (times k F)
  by-times m zero t f bs n j h = absurd h
  by-times m (suc k) t f bs n j (inl h) = omega (arith, by-times m k (λ i l. t i (omega arith)) (λ i l. f i (omega arith)) bs n j h)
  by-times m (suc k) t f bs n j (inr (y, r, xs, i, e, u, inl h, p)) =
      omega (arith, most-times m k (λ i l. t i (omega arith)) y xs u, f k (omega arith) r n i h)
  by-times m (suc k) t f bs n j (inr (y, r, xs, i, e, u, inr (_, _, _, _, _, _, h, _), p)) = absurd h

module _ (m : ℕ) (J : Judging m) (refusal : Refusal) where
  pub under-stretch : (l : ℕ) → refusal.number < l → ends_early < l → NumbersUnder l (stretch m J refusal)
  under-stretch l h i bs n k (inl (w, e)) = omega (arith, e)
  under-stretch l h i bs n k (inr (_, _, e)) = omega (arith, e.0)

  pub most-stretch : AtMost m (stretch m J refusal)
  most-stretch x a (e, _, _) = omega (arith, e)

  pub by-stretch : FaultsBy m (stretch m J refusal)
  by-stretch bs n k (inl (w, e)) = omega (arith, J.within (take m bs) k w, length-take m bs)
  by-stretch bs n k (inr (h, _, e)) = omega (arith, h, e.1)

module _ (m : ℕ) {A : Type 0} (make : List ℕ → A) (t : Test A) (refusal : Refusal) where
  abbrev judging : Judging m
  judging = together m (made make t)

  pub under-value : (l : ℕ) → refusal.number < l → ends_early < l → NumbersUnder l (valued m make t refusal)
  under-value l h i = under-then (stretch m judging refusal) (λ x. give (make x)) l (under-stretch m judging refusal l h i) (λ a bs n k f. absurd f)

  pub most-value : AtMost m (valued m make t refusal)
  most-value x a (y, z, v, e, u, (i, _)) = omega (arith, ap length e, ap length i, length-append y z, most-stretch m judging refusal y v u)

  pub by_value : FaultsBy m (valued m make t refusal)
  by_value bs n k (inl h) = by-stretch m judging refusal bs n k h
  by_value bs n k (inr (_, _, _, _, _, _, h, _)) = absurd h

-- with bytes left over
pub under-alone : {A : Type 0} (F : Format A) (m : ℕ) → left_over < m → NumbersUnder m F → (bs : List ℕ) (n k : ℕ) → (alone F).Refuses bs n k → n < m
under-alone F m h f bs n k (inl g) = f bs n k g
under-alone F m h f bs n k (inr (x, r, a, e, t, _, i, j)) = omega (arith, i)

pub by-alone : {A : Type 0} (F : Format A) (m : ℕ) → AtMost m F → FaultsBy m F → (bs : List ℕ) (n k : ℕ) → (alone F).Refuses bs n k → k ≤ m
by-alone F m t f bs n k (inl g) = f bs n k g
by-alone F m t f bs n k (inr (x, r, a, e, u, _, i, j)) = omega (arith, j, t x a u)
