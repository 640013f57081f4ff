-- A well-formed state stays so where a slot is set, and where two expressions in order are stored. Assumes nothing.
use Rattle.std.specs.Prelude.{◌≡◌, true, List, ℕ, ◌+◌, ◌<◌}
use Rattle.std.proofs.Common.{sym, ap, ◌∙◌, subst, arith, length-set, get_or-set_same, get_or-set_other}
use Rattle.std.proofs.Math.Decide.{ℕ_discrete}
use Rattle.tree.specs.Tree.{IsDepth}
use Rattle.expression.specs.declared.Kind.{Kind}
use Rattle.expression.specs.declared.Kind.TheVariants.{Privilege, Protection}
use Rattle.expression.specs.Bytes.{InOrder}
use Rattle.shelf.specs.Fine.{kind_at, ShelfFine}
use Rattle.shelf.specs.Kept.{even-kind, odd-kind, put-places, put-fine}
use Rattle.policy.specs.declared.State.{State}
use Rattle.policy.specs.State.{slot_count, IsMode, file_places, Hold, Free, By, held_in, slot_with, file_at, hold_of, RolePresent}
use Rattle.policy.specs.State.{Present, put_pair, with_hold, with_pair, with_t1_t2, with_e_g, t1_place, e_place}
use Rattle.policy.specs.WellFormed.{WellFormed}
use Rattle.policy.specs.Whole.{free-held, held-written, file-used, all-used, all_set, fine-well-formed, well-formed-fine}

module _ (s : State) (w : WellFormed s) where
  -- a slot is set to hold what is no absent role
  pub hold-kept : (i : ℕ) → i < slot_count → (h : Hold) → ((r : ℕ) → h ≡ By r → RolePresent s r) → WellFormed (with_hold s i h)
  hold-kept i l h present = record {
    room = record {
      parents = w.room.parents;
      roles = w.room.roles;
      role-places = w.room.role-places;
      files = w.room.files;
      file-places = w.room.file-places;
      slots = length-set s.slots i (slot_with h) ∙ w.room.slots;
    };
    tree = w.tree;
    role-count = w.role-count;
    file-count = w.file-count;
    depth = w.depth;
    is-depth = w.is-depth;
    roles-in-order = w.roles-in-order;
    files-in-order = w.files-in-order;
    held-present = λ j r e. go j r e (ℕ_discrete j i);
    unused-zero = record {
      root = w.unused-zero.root;
      parents = w.unused-zero.parents;
      role-bytes = w.unused-zero.role-bytes;
      roles = w.unused-zero.roles;
      file-bytes = w.unused-zero.file-bytes;
      files = w.unused-zero.files;
    };
  }
    where
      go : (j r : ℕ) → hold_of (with_hold s i h) j ≡ By r → Dec (j ≡ i) → RolePresent s r
      go j r e (yes q) =
          let there = get_or-set_same s.slots i (slot_with h) 0 (omega (arith, w.room.slots)) in
          let here = ap (λ (k : ℕ). hold_of (with_hold s i h) k) q ∙ ap held_in there ∙ held-written h in
          present r (sym here ∙ e)
      go j r e (no n) = w.held-present j r (sym (ap held_in (get_or-set_other s.slots i j (slot_with h) 0 n)) ∙ e)

  -- begin: the slot holds a role that is present
  pub by-kept : (i r : ℕ) → i < slot_count → RolePresent s r → WellFormed (with_hold s i (By r))
  by-kept i r l p = hold-kept i l (By r) (λ q e. let same : r ≡ q = cc in subst (RolePresent s) same p)

  -- end: the slot is free
  pub free-kept : (i : ℕ) → i < slot_count → WellFormed (with_hold s i Free)
  free-kept i l = hold-kept i l Free (λ q e. absurd (free-held e))

  module _ (d : ℕ) (deep : IsDepth s.tree d) (file : ℕ) (present : Present s file) where
    -- two expressions are stored that are in order for the kinds of their places
    pub pair-kept : (k : ℕ) (x y : List ℕ) → k + 2 < file_places
        → InOrder (kind_at true k) s.tree.n d x → InOrder (kind_at true (k + 2)) s.tree.n d y → WellFormed (with_pair s file k x y)
    pair-kept k x y h o q =
        let all = well-formed-fine s d deep w in
        let few : file < 32 = omega (arith, w.file-count) in
        let room = w.room.file-places file few in
        let first = put-places room k (omega arith) x o.0 in
        let old = file_at s file in
        let was : ShelfFine true s.tree.n d old.lens old.bytes =
        λ j l. all-used all.files file j (file-used s present) few (omega (arith, room.lengths)) in
        let fine = put-fine room k (omega arith) x o.0 true _ _ was o in
        let both = put-fine first (k + 2) h y q.0 true _ _ fine q in
        let new = put_pair old k x y in
        fine-well-formed (with_pair s file k x y) d deep (record {
          tree = all.tree;
          role-count = all.role-count;
          file-count = all.file-count;
          roles = all.roles;
          files = all_set all.files file (file-used s present) few new (put-places first (k + 2) h y q.0) both;
          slots = all.slots;
        })

    module _ (mode : ℕ) (few : IsMode mode) (x y : List ℕ) where
      -- change: T1 and T2 are stored
      pub t1t2-kept : InOrder Protection s.tree.n d x → InOrder Protection s.tree.n d y → WellFormed (with_t1_t2 s file mode x y)
      t1t2-kept o q = pair-kept (t1_place mode) x y (omega arith)
          (subst (λ (kind : Kind). InOrder kind s.tree.n d x) (sym (even-kind (t1_place mode) (omega arith))) o)
          (subst (λ (kind : Kind). InOrder kind s.tree.n d y) (sym (even-kind (t1_place mode + 2) (omega arith))) q)

      -- bypass: E and G are stored
      pub eg-kept : InOrder Privilege s.tree.n d x → InOrder Privilege s.tree.n d y → WellFormed (with_e_g s file mode x y)
      eg-kept o q = pair-kept (e_place mode) x y (omega arith)
          (subst (λ (kind : Kind). InOrder kind s.tree.n d x) (sym (odd-kind (e_place mode) (omega arith))) o)
          (subst (λ (kind : Kind). InOrder kind s.tree.n d y) (sym (odd-kind (e_place mode + 2) (omega arith))) q)
