-- A flag that says of every number passed that a statement holds: what a loop over all of them keeps. Assumes nothing.
use Rattle.std.specs.Prelude.{◌≡◌, refl, Bool, true, false, ◌&&◌, ◌↔◌, ℕ, ◌+◌, ◌<◌, ◌≤◌}
use Rattle.std.proofs.Common.{subst, arith, below_none, below_more}
use Rattle.std.proofs.lemmas.Bool.{false≢true}
use Rattle.std.proofs.Math.Decide.{dec_lt}
use Rattle.logic.specs.Iff.{and-iff, iff-trans}

-- b says that P holds of every number below k
pub record Flag (P : ℕ → Type 0) (k : ℕ) (b : Bool) : Type 0 where
  pub says : (b ≡ true) ↔ ((u : ℕ) → u < k → P u)

pub flag-none : (P : ℕ → Type 0) → Flag P 0 true
flag-none P = record { says = ((λ _. below_none P), λ _. refl) }

module _ {P : ℕ → Type 0} {k : ℕ} {b : Bool} where
  pub flag-keep : Flag P k b → P k → Flag P (k + 1) b
  flag-keep f h = record {
    says = ((λ e. below_more P k (f.says.0 e) h), λ w. f.says.1 (λ u l. w u (omega arith)));
  }

  pub flag-drop : Flag P k b → (P k → ⊥) → Flag P (k + 1) false
  flag-drop f n = record { says = ((λ e. absurd (false≢true e)), λ w. absurd (n (w k (omega arith)))) }

  -- the flag speaks of every number, where those from k on need no test
  pub flag-all : Flag P k b → ((u : ℕ) → k ≤ u → P u) → (b ≡ true) ↔ ((u : ℕ) → P u)
  flag-all f beyond = ((λ e u. go e u (dec_lt u k)), λ w. f.says.1 (λ u l. w u))
    where
      go : b ≡ true → (u : ℕ) → Dec (u < k) → P u
      go e u (yes l) = f.says.0 e u l
      go e u (no n) = beyond u (omega arith)

  -- the flag and the test of the next number
  pub flag-and : {t : Bool} → Flag P k b → (t ≡ true) ↔ P k → Flag P (k + 1) (b && t)
  flag-and {t} f h = record {
    says = iff-trans (and-iff b t f.says h) (
      (λ w. below_more P k w.0 w.1),
      λ w. ((λ u l. w u (omega arith)), w k (omega arith)),
    );
  }

  -- the flag speaks of all of them where the loop has passed them all
  pub flag-end : {m : ℕ} → Flag P k b → k ≡ m → (b ≡ true) ↔ ((u : ℕ) → u < m → P u)
  flag-end {m} f e = subst (λ (j : ℕ). (b ≡ true) ↔ ((u : ℕ) → u < j → P u)) e f.says
