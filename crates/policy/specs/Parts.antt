-- The parts of a role and of a file by name, and by the number of their place. Assumes nothing.
use Rattle.std.specs.Prelude.{◌≡◌, true, ℕ, ◌/◌, ◌%◌, ◌<◌}
use Rattle.std.proofs.Common.{sym, subst, arith}
use Rattle.std.proofs.Math.Decide.{dec_lt, ℕ_discrete}
use Rattle.expression.specs.declared.Kind.{Kind}
use Rattle.expression.specs.declared.Kind.TheVariants.{Privilege}
use Rattle.policy.specs.declared.Role.{Role}
use Rattle.policy.specs.declared.File.{File}
use Rattle.policy.specs.State.{role_places, file_places, v_plus_place, v_minus_place, t1_place, e_place, t2_place, g_place}
use Rattle.shelf.specs.Shelf.{PartInOrder}
use Rattle.policy.specs.WellFormed.{RoleInOrder, FileInOrder}
use Rattle.shelf.specs.Fine.{kind_at}
use Rattle.shelf.specs.Kept.{even-kind, odd-kind}

module _ {n d : ℕ} {r : Role} where
  pub role-by-place : RoleInOrder n d r → (k : ℕ) → k < role_places → PartInOrder Privilege n d r.lens r.bytes k
  role-by-place o k h = go (dec_lt k 10) (ℕ_discrete (k % 2) 0) (ℕ_discrete k 10) (ℕ_discrete k 11)
    where
      At : ℕ → Type 0
      At j = PartInOrder Privilege n d r.lens r.bytes j

      go : Dec (k < 10) → Dec (k % 2 ≡ 0) → Dec (k ≡ 10) → Dec (k ≡ 11) → PartInOrder Privilege n d r.lens r.bytes k
      go (yes l) (yes e) _ _ = let q : v_plus_place (k / 2) ≡ k = omega arith in subst At q (o.v-plus (k / 2) (omega arith))
      go (yes l) (no e) _ _ = let q : v_minus_place (k / 2) ≡ k = omega arith in subst At q (o.v-minus (k / 2) (omega arith))
      go (no l) _ (yes e) _ = subst At (sym e) o.m1
      go (no l) _ (no a) (yes e) = subst At (sym e) o.m2
      go (no l) _ (no a) (no b) = let q : 12 ≡ k = omega arith in subst At q o.b

  pub role-by-name : ((k : ℕ) → k < role_places → PartInOrder Privilege n d r.lens r.bytes k) → RoleInOrder n d r
  role-by-name p = record {
    v-plus = λ m h. p (v_plus_place m) (omega arith);
    v-minus = λ m h. p (v_minus_place m) (omega arith);
    m1 = p 10 (omega arith);
    m2 = p 11 (omega arith);
    b = p 12 (omega arith);
  }

module _ {n d : ℕ} {f : File} where
  named : (k : ℕ) {kind : Kind} → kind_at true k ≡ kind → PartInOrder (kind_at true k) n d f.lens f.bytes k → PartInOrder kind n d f.lens f.bytes k
  named k e p = subst (λ (j : Kind). PartInOrder j n d f.lens f.bytes k) e p

  pub file-by-name : ((k : ℕ) → k < file_places → PartInOrder (kind_at true k) n d f.lens f.bytes k) → FileInOrder n d f
  file-by-name p = record {
    t1 = λ m h. named (t1_place m) (even-kind (t1_place m) (omega arith)) (p (t1_place m) (omega arith));
    e = λ m h. named (e_place m) (odd-kind (e_place m) (omega arith)) (p (e_place m) (omega arith));
    t2 = λ m h. named (t2_place m) (even-kind (t2_place m) (omega arith)) (p (t2_place m) (omega arith));
    g = λ m h. named (g_place m) (odd-kind (g_place m) (omega arith)) (p (g_place m) (omega arith));
  }

  placed : {j k : ℕ} {kind : Kind} → kind_at true k ≡ kind → j ≡ k
      → PartInOrder kind n d f.lens f.bytes j
      → PartInOrder (kind_at true k) n d f.lens f.bytes k
  placed {j} {k} {kind} e q p =
      subst (λ (x : Kind). PartInOrder x n d f.lens f.bytes k) (sym e) (subst (λ (i : ℕ). PartInOrder kind n d f.lens f.bytes i) q p)

  pub file-by-place : FileInOrder n d f → (k : ℕ) → k < file_places → PartInOrder (kind_at true k) n d f.lens f.bytes k
  file-by-place o k h = go (ℕ_discrete (k % 4) 0) (ℕ_discrete (k % 4) 1) (ℕ_discrete (k % 4) 2)
    where
      go : Dec (k % 4 ≡ 0) → Dec (k % 4 ≡ 1) → Dec (k % 4 ≡ 2) → PartInOrder (kind_at true k) n d f.lens f.bytes k
      go (yes a) _ _ = placed (even-kind k (omega arith)) (omega arith) (o.t1 (k / 4) (omega arith))
      go (no a) (yes b) _ = placed (odd-kind k (omega arith)) (omega arith) (o.e (k / 4) (omega arith))
      go (no a) (no b) (yes c) = placed (even-kind k (omega arith)) (omega arith) (o.t2 (k / 4) (omega arith))
      go (no a) (no b) (no c) = placed (odd-kind k (omega arith)) (omega arith) (o.g (k / 4) (omega arith))
