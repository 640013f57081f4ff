-- A small policy over the root alone, for worked examples, by the load of its image: three roles, four files, and what their parts are. Assumes nothing.
use Rattle.std.specs.Prelude.{◌≡◌, refl, Bool, true, false, ◌&&◌, ◌||◌, cond, ℕ, ◌<◌, eqb}
use mathlib.Core.List.{List, [], ◌∷◌, flat_map}
use Rattle.std.proofs.Common.{inl, inr, arith, lit<, lit≤}
use Rattle.tree.specs.Tree.{IsDepth}
use Rattle.tree.specs.Depth.{depth_of, largest, level_of}
use Rattle.expression.specs.declared.Kind.{Kind}
use Rattle.expression.specs.Expression.{one, term}
use Rattle.expression.specs.Bytes.{InOrder}
use Rattle.policy.specs.declared.Role.{Role}
use Rattle.policy.specs.declared.File.{File}
use Rattle.policy.specs.declared.State.{State}
use Rattle.policy.specs.State.{Free, By, read, write, execute, change_protection, fresh_state, with_hold, with_e_g, hold_of, role_at, file_at, role_part}
use Rattle.policy.specs.State.{file_part}
use Rattle.policy.specs.State.{v_plus_place, v_minus_place, m1_place, m2_place, b_place, t1_place, e_place, t2_place, g_place}
use Rattle.shelf.specs.Shelf.{put_bytes, padded}
use Rattle.policy.specs.WellFormed.{WellFormed}
use Rattle.policy.specs.Fresh.{root-depth}
use Rattle.image.specs.Image.{tree_of, image}
use Rattle.image.specs.Load.{as_role, as_file, state_of}
use Rattle.image.specs.Made.{state-well-formed}
use Rattle.image.specs.Written.{Draft, drafted, written, DraftInOrder, written-image}
use Rattle.machine.specs.Machine.{load, Step}
use Rattle.claims.specs.Steps.{granted}

-- {0}, the root, as an expression
abbrev pub root : List ℕ
root = 1 ∷ 0 ∷ []

-- role 0 reads with {0}, mediates {0} and may bypass {0}; role 1 has nothing; role 2 reads with {0}
abbrev role_has : ℕ → ℕ → Bool
role_has i k = (eqb i 0 && (eqb k (v_plus_place read) || (eqb k m1_place || eqb k b_place))) || (eqb i 2 && eqb k (v_plus_place read))

-- files 0 and 1 have E = {0} in their Read row; file 2 has nothing; file 3 has T1 = {0} there
abbrev file_has : ℕ → ℕ → Bool
file_has i k = ((eqb i 0 || eqb i 1) && eqb k (e_place read)) || (eqb i 3 && eqb k (t1_place read))

abbrev draft : Draft
draft = record {
  others = 0;
  parent = λ i. 0;
  nroles = 3;
  role = λ i k. cond (role_has i k) root [];
  nfiles = 4;
  file = λ i k. cond (file_has i k) root [];
}

in_order : (kind : Kind) (b : Bool) → InOrder kind 1 0 (cond b root [])
in_order kind true = (lit≤ tt, inr (term (one 0), lit< tt, refl))
in_order kind false = (lit≤ tt, inl refl)

draft-in-order : DraftInOrder draft
unfolding tree_of depth_of largest level_of
draft-in-order = record {
  few-securons = lit≤ tt;
  parents-smaller = λ i h. absurd (omega arith);
  few-roles = lit≤ tt;
  few-files = lit≤ tt;
  roles = λ i h k l. in_order _ (role_has i k);
  files = λ i h k l. in_order _ (file_has i k);
}

-- its image, and the state that it makes
abbrev pub sample_image : List ℕ
sample_image = written draft

unfoldable pub sample : State
sample = state_of (drafted draft)

image-takes : image.Takes sample_image (drafted draft)
image-takes = written-image draft draft-in-order

-- the load of the image into the fresh state is granted and leaves the sample
pub sample-loads : Step fresh_state (load sample_image) granted sample
unfolding sample
sample-loads = record {
  answers = inl ((drafted draft, image-takes), record { number = refl; place = refl });
  leaves = record { on-grant = λ g. (drafted draft, image-takes, refl); on-refusal = λ n. absurd (n refl) };
}

pub sample-well-formed : WellFormed sample
unfolding sample
sample-well-formed = state-well-formed sample_image (drafted draft) image-takes

-- ---- its parts, computed
pub sample-depth : IsDepth sample.tree 0
unfolding sample tree_of
sample-depth = root-depth

pub sample-root : 0 < sample.tree.n
unfolding sample tree_of
sample-root = lit< tt

pub sample-free : hold_of sample 0 ≡ Free
unfolding sample
sample-free = refl

pub sample-counts : (sample.nroles ≡ 3) × (sample.nfiles ≡ 4)
unfolding sample
sample-counts = (refl, refl)

-- a slot that was held and ended is free again, and then held by another
pub freed-again : (x y : ℕ) → with_hold (with_hold (with_hold sample 0 (By x)) 0 Free) 0 (By y) ≡ with_hold sample 0 (By y)
unfolding sample
freed-again x y = refl

-- a part is empty in the rows beside the Read row: Write, Execute, Change Protection
abbrev pub NoneBeside : (ℕ → List ℕ) → Type 0
NoneBeside part = (part write ≡ []) × (part execute ≡ []) × (part change_protection ≡ [])

-- the parts of a role of the sample, and those of a file
pub record RoleParts (r : Role) (reading mediating bypassing : List ℕ) : Type 0 where
  pub v-plus : role_part r (v_plus_place read) ≡ reading
  pub v-minus : role_part r (v_minus_place read) ≡ []
  pub other-plus : NoneBeside (λ mode. role_part r (v_plus_place mode))
  pub other-minus : NoneBeside (λ mode. role_part r (v_minus_place mode))
  pub m1 : role_part r m1_place ≡ mediating
  pub m2 : role_part r m2_place ≡ []
  pub b : role_part r b_place ≡ bypassing

pub record FileParts (f : File) (mutable indelible : List ℕ) : Type 0 where
  pub t1 : file_part f (t1_place read) ≡ mutable
  pub e : file_part f (e_place read) ≡ indelible
  pub t2 : file_part f (t2_place read) ≡ []
  pub g : file_part f (g_place read) ≡ []
  pub other-t1 : NoneBeside (λ mode. file_part f (t1_place mode))
  pub other-e : NoneBeside (λ mode. file_part f (e_place mode))
  pub other-t2 : NoneBeside (λ mode. file_part f (t2_place mode))
  pub other-g : NoneBeside (λ mode. file_part f (g_place mode))

pub sample-role0 : RoleParts (role_at sample 0) root root root
unfolding sample as_role padded flat_map
sample-role0 = record {
  v-plus = refl;
  v-minus = refl;
  other-plus = (refl, refl, refl);
  other-minus = (refl, refl, refl);
  m1 = refl;
  m2 = refl;
  b = refl;
}

pub sample-role1 : RoleParts (role_at sample 1) [] [] []
unfolding sample as_role padded flat_map
sample-role1 = record {
  v-plus = refl;
  v-minus = refl;
  other-plus = (refl, refl, refl);
  other-minus = (refl, refl, refl);
  m1 = refl;
  m2 = refl;
  b = refl;
}

pub sample-role2 : RoleParts (role_at sample 2) root [] []
unfolding sample as_role padded flat_map
sample-role2 = record {
  v-plus = refl;
  v-minus = refl;
  other-plus = (refl, refl, refl);
  other-minus = (refl, refl, refl);
  m1 = refl;
  m2 = refl;
  b = refl;
}

pub sample-file0 : FileParts (file_at sample 0) [] root
unfolding sample as_file padded flat_map
sample-file0 = record {
  t1 = refl;
  e = refl;
  t2 = refl;
  g = refl;
  other-t1 = (refl, refl, refl);
  other-e = (refl, refl, refl);
  other-t2 = (refl, refl, refl);
  other-g = (refl, refl, refl);
}

pub sample-file1 : FileParts (file_at sample 1) [] root
unfolding sample as_file padded flat_map
sample-file1 = record {
  t1 = refl;
  e = refl;
  t2 = refl;
  g = refl;
  other-t1 = (refl, refl, refl);
  other-e = (refl, refl, refl);
  other-t2 = (refl, refl, refl);
  other-g = (refl, refl, refl);
}

pub sample-file2 : FileParts (file_at sample 2) [] []
unfolding sample as_file padded flat_map
sample-file2 = record {
  t1 = refl;
  e = refl;
  t2 = refl;
  g = refl;
  other-t1 = (refl, refl, refl);
  other-e = (refl, refl, refl);
  other-t2 = (refl, refl, refl);
  other-g = (refl, refl, refl);
}

pub sample-file3 : FileParts (file_at sample 3) root []
unfolding sample as_file padded flat_map
sample-file3 = record {
  t1 = refl;
  e = refl;
  t2 = refl;
  g = refl;
  other-t1 = (refl, refl, refl);
  other-e = (refl, refl, refl);
  other-t2 = (refl, refl, refl);
  other-g = (refl, refl, refl);
}

-- the sample with slot 0 held by a role; then, with role 0, after a bypass that gives file 2 the E of file 0, and after one that takes file 1's E away.
-- A hold alters no role and no file, a bypass no role and no other file
abbrev pub held_by : ℕ → State
held_by role = with_hold sample 0 (By role)

abbrev pub raised : State
raised = with_e_g (held_by 0) 2 read root []

abbrev pub lowered : State
lowered = with_e_g (held_by 0) 1 read [] []

pub raised-file0 : FileParts (file_at raised 0) [] root
unfolding sample as_file padded put_bytes flat_map
raised-file0 = sample-file0

pub raised-file2 : FileParts (file_at raised 2) [] root
unfolding sample as_file padded put_bytes flat_map
raised-file2 = record {
  t1 = refl;
  e = refl;
  t2 = refl;
  g = refl;
  other-t1 = (refl, refl, refl);
  other-e = (refl, refl, refl);
  other-t2 = (refl, refl, refl);
  other-g = (refl, refl, refl);
}

pub lowered-file0 : FileParts (file_at lowered 0) [] root
unfolding sample as_file padded put_bytes flat_map
lowered-file0 = sample-file0

pub lowered-file1 : FileParts (file_at lowered 1) [] []
unfolding sample as_file padded put_bytes flat_map
lowered-file1 = record {
  t1 = refl;
  e = refl;
  t2 = refl;
  g = refl;
  other-t1 = (refl, refl, refl);
  other-e = (refl, refl, refl);
  other-t2 = (refl, refl, refl);
  other-g = (refl, refl, refl);
}
