-- The mediating test, mode by mode: what is enough, and what it tells. Assumes nothing.
use Rattle.std.specs.Prelude.{◌≡◌, ◌↔◌, ℕ, ◌<◌}
use Rattle.std.proofs.Common.{⊎_elim, arith}
use Rattle.securon.specs.Sets.{Set, ◌⊆◌}
use Rattle.policy.specs.State.{write, execute}
use Rattle.rules.specs.Rules.{TakesContentOut, MediatesRow}

-- a write takes nothing out, and a mode over Execute neither
pub not-out : {mode : ℕ} → mode ≡ write → TakesContentOut mode → ⊥
not-out w = ⊎_elim (λ r. omega arith) (λ x. omega arith)

pub over-execute : {mode : ℕ} → execute < mode → TakesContentOut mode → ⊥
over-execute w = ⊎_elim (λ r. omega arith) (λ x. omega arith)

module _ {mode : ℕ} {m1 m2 e g : Set} where
  pub out-fits : TakesContentOut mode → ((e ⊆ m1) × (g ⊆ m2)) ↔ MediatesRow mode m1 m2 e g
  out-fits r = (
    (λ w. record {
      e-in-m1 = λ _. w.0;
      g-in-m2 = λ _. w.1;
      m1-in-e = λ h. absurd (not-out h r);
      m2-in-g = λ h. absurd (not-out h r);
    }),
    λ w. (w.e-in-m1 r, w.g-in-m2 r),
  )

  pub write-fits : mode ≡ write → ((m1 ⊆ e) × (m2 ⊆ g)) ↔ MediatesRow mode m1 m2 e g
  write-fits r = (
    (λ w. record {
      e-in-m1 = λ h. absurd (not-out r h);
      g-in-m2 = λ h. absurd (not-out r h);
      m1-in-e = λ _. w.0;
      m2-in-g = λ _. w.1;
    }),
    λ w. (w.m1-in-e r, w.m2-in-g r),
  )

  pub other_fits : (mode ≡ write → ⊥) → (TakesContentOut mode → ⊥) → MediatesRow mode m1 m2 e g
  other_fits w r = record { e-in-m1 = λ h. absurd (r h); g-in-m2 = λ h. absurd (r h); m1-in-e = λ h. absurd (w h); m2-in-g = λ h. absurd (w h) }
