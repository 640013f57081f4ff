-- The laws of marks, once over any number of them, and of sets with the same members. Assumes nothing.
use Rattle.std.specs.Prelude.{◌≡◌, refl, Bool, true, false, List, [], ◌∷◌, ◌⊎◌, ◌↔◌, ℕ, zero, suc, ◌+◌, ◌<◌, ◌≤◌, length, get_or, set, replicate}
use Rattle.std.proofs.Common.{sym, ◌∙◌, subst, inl, inr, ⊎_elim, suc-le-suc, zero-lt-suc, not-suc-le-zero, arith, length-set, get_or-set_same, get_or-set_other}
use Rattle.std.proofs.Common.{ext_get_or}
use Rattle.std.proofs.lemmas.Bool.{false≢true}
use Rattle.std.proofs.Math.Decide.{ℕ_discrete}
use Rattle.securon.specs.Sets.{Set, only, ◌∪◌, ◌⊆◌, ◌≐◌, Apart, marked}
use Rattle.logic.specs.Iff.{iff-trans}

-- who is marked stands among the marks
pub within : (l : List Bool) (u : ℕ) → marked l u → u < length l
within [] u e = absurd (false≢true e)
within (x ∷ l) zero e = zero-lt-suc (length l)
within (x ∷ l) (suc u) e = suc-le-suc (within l u e)

-- where every mark is off, nobody is marked
pub none-marked : (n u : ℕ) → marked (replicate n false) u → ⊥
none-marked zero u e = false≢true e
none-marked (suc n) zero e = false≢true e
none-marked (suc n) (suc u) e = none-marked n u e

-- one mark put on adds that one member
pub one-marked : (l : List Bool) (s : ℕ) → s < length l → marked (set l s true) ≐ marked l ∪ only s
one-marked l s h u = go (ℕ_discrete u s)
  where
    go : Dec (u ≡ s) → marked (set l s true) u ↔ (marked l u ⊎ (u ≡ s))
    go (yes e) = ((λ _. inr e), λ _. rw e (get_or-set_same l s true false h))
    go (no n) = (
      (λ m. inl (sym (get_or-set_other l s u true false n) ∙ m)),
      ⊎_elim (λ m. get_or-set_other l s u true false n ∙ m) (λ e. absurd (n e)),
    )

-- marks past the last are off
pub beyond : (l : List Bool) (u : ℕ) → length l ≤ u → marked l u → ⊥
beyond l u h m = omega (arith, within l u m)

-- r has the members of a and those of B below k
pub record Joined (a : List Bool) (B : Set) (r : List Bool) (k : ℕ) : Type 0 where
  pub long : length r ≡ length a
  pub are : (u : ℕ) → marked r u ↔ (marked a u ⊎ (B u × (u < k)))

pub joined-none : (a : List Bool) (B : Set) → Joined a B a 0
joined-none a B = record {
  long = refl;
  are = λ u. (inl, ⊎_elim (λ m. m) (λ w. absurd (not-suc-le-zero w.1)));
}

module _ {a : List Bool} {B : Set} {r : List Bool} {k : ℕ} (j : Joined a B r k) where
  pub joined-skip : (B k → ⊥) → Joined a B r (k + 1)
  joined-skip n = record {
    long = j.long;
    are = λ u. iff-trans (j.are u) (
      ⊎_elim inl (λ w. inr (w.0, omega (arith, w.1))),
      ⊎_elim inl (λ w. inr (w.0, go u w (ℕ_discrete u k))),
    );
  }
    where
      go : (u : ℕ) → B u × (u < k + 1) → Dec (u ≡ k) → u < k
      go u w (yes q) = absurd (n (subst B q w.0))
      go u w (no q) = omega (arith, w.1)

  pub joined-mark : k < length a → B k → Joined a B (set r k true) (k + 1)
  joined-mark h b = record {
    long = length-set r k true ∙ j.long;
    are = λ u. iff-trans (one-marked r k (omega (arith, j.long)) u) (
      ⊎_elim (λ m. ⊎_elim inl (λ w. inr (w.0, omega (arith, w.1))) ((j.are u).0 m)) (λ q. inr (subst B (sym q) b, omega arith)),
      ⊎_elim (λ m. inl ((j.are u).1 (inl m))) (λ w. go u w (ℕ_discrete u k)),
    );
  }
    where
      go : (u : ℕ) → B u × (u < k + 1) → Dec (u ≡ k) → marked r u ⊎ (u ≡ k)
      go u w (yes q) = inr q
      go u w (no q) = inl ((j.are u).1 (inr (w.0, omega (arith, w.1))))

  -- where nobody of B stands from k on, r is the union
  pub joined-all : ((u : ℕ) → B u → u < k) → marked r ≐ marked a ∪ B
  joined-all h u = iff-trans (j.are u) (⊎_elim inl (λ w. inr w.0), ⊎_elim inl (λ m. inr (m, h u m)))

-- two arrays of marks of one length with the same members are one: a promise that names a set's members leaves one set
pub one_set : (a b : List Bool) → length a ≡ length b → marked a ≐ marked b → a ≡ b
one_set a b e h = ext_get_or false a b e (λ u _. same (get_or a u false) (get_or b u false) (h u))
  where
    same : (x y : Bool) → (x ≡ true) ↔ (y ≡ true) → x ≡ y
    same true y i = sym (i.0 refl)
    same false true i = absurd (false≢true (i.1 refl))
    same false false i = refl

-- part and apart say of sets with the same members the same
module _ {A B C D : Set} (p : A ≐ B) (q : C ≐ D) where
  pub same-part : (A ⊆ C) ↔ (B ⊆ D)
  same-part = ((λ h u b. (q u).0 (h u ((p u).1 b))), λ h u a. (q u).1 (h u ((p u).0 a)))

  pub same-apart : Apart A C ↔ Apart B D
  same-apart = ((λ h u b d. h u ((p u).1 b) ((q u).1 d)), λ h u a c. h u ((p u).0 a) ((q u).0 c))
