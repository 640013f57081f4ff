-- Small laws of tests and of "exactly when". Assumes nothing.
use Rattle.std.specs.Prelude.{◌≡◌, refl, Bool, true, false, ◌&&◌, ◌||◌, ◌⊎◌, ◌↔◌, ℕ, ◌≤◌, eqb, leb}
use Rattle.std.proofs.Common.{sym, inl, inr, ⊎_elim, eqb-true, eq-eqb, leb-true, le-leb}
use Rattle.std.proofs.lemmas.Bool.{false≢true}

pub and-iff : (x y : Bool) {A B : Type 0} → (x ≡ true) ↔ A → (y ≡ true) ↔ B → ((x && y) ≡ true) ↔ (A × B)
and-iff true y f g = ((λ e. (f.0 refl, g.0 e)), λ w. g.1 w.1)
and-iff false y f g = ((λ e. absurd (false≢true e)), λ w. f.1 w.0)

pub or-iff : (x y : Bool) {A B : Type 0} → (x ≡ true) ↔ A → (y ≡ true) ↔ B → ((x || y) ≡ true) ↔ (A ⊎ B)
or-iff true y f g = ((λ e. inl (f.0 refl)), λ w. refl)
or-iff false y f g = ((λ e. inr (g.0 e)), ⊎_elim (λ a. absurd (false≢true (f.1 a))) g.1)

pub iff-refl : {A : Type 0} → A ↔ A
iff-refl = ((λ a. a), λ a. a)

pub iff-sym : {A B : Type 0} → A ↔ B → B ↔ A
iff-sym f = (f.1, f.0)

pub iff-trans : {A B C : Type 0} → A ↔ B → B ↔ C → A ↔ C
iff-trans f g = ((λ a. g.0 (f.0 a)), λ c. f.1 (g.1 c))

-- a test that is not true is false, and the other way round
pub not-then-false : {x : Bool} {A : Type 0} → (x ≡ true) ↔ A → x ≡ false → A → ⊥
not-then-false {x} f e a = false≢true (rw e at (f.1 a))

-- where the fact does not hold, the test is false
pub not-holds : (x : Bool) {A : Type 0} → (x ≡ true) ↔ A → (A → ⊥) → x ≡ false
not-holds true f n = absurd (n (f.0 refl))
not-holds false f n = refl

-- a test that says no, where the fact does not hold
pub no_iff : {A : Type 0} → (A → ⊥) → (false ≡ true) ↔ A
no_iff n = ((λ e. absurd (false≢true e)), λ a. absurd (n a))

-- and one that says yes
pub yes_iff : {A : Type 0} → A → (true ≡ true) ↔ A
yes_iff a = ((λ _. a), λ _. refl)

-- a number is zero, is at most another
pub zero-iff : (x : ℕ) → (eqb x 0 ≡ true) ↔ (x ≡ 0)
zero-iff x = (eqb-true x 0, eq-eqb x 0)

pub most-iff : (a b : ℕ) → (leb a b ≡ true) ↔ (a ≤ b)
most-iff a b = (leb-true a b, le-leb a b)

-- two tests of one fact say the same
pub one-test : (x y : Bool) {A : Type 0} → (x ≡ true) ↔ A → (y ≡ true) ↔ A → x ≡ y
one-test true y f g = sym (g.1 (f.0 refl))
one-test false true f g = absurd (false≢true (f.1 (g.0 refl)))
one-test false false f g = refl
