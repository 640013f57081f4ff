-- The rules speak alike of sets that have the same members; and E and G stand at a file's odd places. Assumes nothing.
use Rattle.std.specs.Prelude.{◌≡◌, ◌↔◌, ℕ, ◌<◌, ◌%◌}
use Rattle.std.proofs.Common.{inl, inr, ⊎_elim, subst}
use Rattle.securon.specs.Sets.{Set, ◌⊆◌, ◌≐◌}
use Rattle.securon.specs.Laws.{same-part}
use Rattle.expression.specs.declared.Kind.{Kind}
use Rattle.expression.specs.declared.Kind.TheVariants.{Privilege}
use Rattle.shelf.specs.Shelf.{PartInOrder}
use Rattle.shelf.specs.Kept.{odd-kind}
use Rattle.policy.specs.declared.File.{File}
use Rattle.policy.specs.State.{file_places}
use Rattle.policy.specs.WellFormed.{FileInOrder}
use Rattle.policy.specs.Parts.{file-by-place}
use Rattle.rules.specs.Rules.{MediatesRow, EntersOrLeaves}

-- the mediating test, with sets that have the same members
pub same-mediates : {mode : ℕ} {m1 m2 e g n1 n2 f h : Set} → m1 ≐ n1 → m2 ≐ n2 → e ≐ f → g ≐ h → MediatesRow mode m1 m2 e g ↔ MediatesRow mode n1 n2 f h
same-mediates a b c d = (
  (λ w. record {
    e-in-m1 = λ r. (same-part c a).0 (w.e-in-m1 r);
    g-in-m2 = λ r. (same-part d b).0 (w.g-in-m2 r);
    m1-in-e = λ r. (same-part a c).0 (w.m1-in-e r);
    m2-in-g = λ r. (same-part b d).0 (w.m2-in-g r);
  }),
  (λ w. record {
    e-in-m1 = λ r. (same-part c a).1 (w.e-in-m1 r);
    g-in-m2 = λ r. (same-part d b).1 (w.g-in-m2 r);
    m1-in-e = λ r. (same-part a c).1 (w.m1-in-e r);
    m2-in-g = λ r. (same-part b d).1 (w.m2-in-g r);
  }),
)

-- a set that enters or leaves, where the three have the same members as others
pub same-altered : {A B C D S T : Set} → A ≐ C → B ≐ D → S ≐ T → (EntersOrLeaves A B ⊆ S) ↔ (EntersOrLeaves C D ⊆ T)
same-altered a b s = (
  (λ h u. ⊎_elim
      (λ m. (s u).0 (h u (inl ((b u).1 m.0, λ n. m.1 ((a u).0 n)))))
      (λ m. (s u).0 (h u (inr ((a u).1 m.0, λ n. m.1 ((b u).0 n)))))),
  λ h u. ⊎_elim
      (λ m. (s u).1 (h u (inl ((b u).0 m.0, λ n. m.1 ((a u).1 n)))))
      (λ m. (s u).1 (h u (inr ((a u).0 m.0, λ n. m.1 ((b u).1 n))))),
)

-- E and G stand at a file's odd places
pub odd_part : {n d : ℕ} {f : File} → FileInOrder n d f → (k : ℕ) → k < file_places → k % 2 ≡ 1 → PartInOrder Privilege n d f.lens f.bytes k
odd_part {n} {d} {f} o k l e = subst (λ (kind : Kind). PartInOrder kind n d f.lens f.bytes k) (odd-kind k e) (file-by-place o k l)
