-- A state is well formed exactly if it is fine part by part. Assumes nothing.
use Rattle.std.specs.Prelude.{◌≡◌, refl, Bool, true, false, List, ℕ, ◌<◌, length, get_or, set}
use Rattle.std.proofs.Common.{sym, ap, ◌∙◌, subst, arith, ltb-true, lt-ltb, le-ltb, length-set, get_or-set_same, get_or-set_other}
use Rattle.std.proofs.lemmas.Bool.{false≢true}
use Rattle.std.proofs.Math.Decide.{dec_lt, ℕ_discrete}
use Rattle.std.proofs.Math.ListN.{get_or-eq_default}
use Rattle.tree.specs.Tree.{IsDepth}
use Rattle.tree.specs.Laws.{one-depth}
use Rattle.expression.specs.declared.Kind.{Kind}
use Rattle.shelf.specs.Shelf.{HasPlaces, PartInOrder, ZeroShelf}
use Rattle.shelf.specs.Fine.{kind_at, PlaceFine, ShelfFine}
use Rattle.policy.specs.declared.State.{State}
use Rattle.policy.specs.State.{slot_count, Hold, Free, By, held_in, slot_with, hold_of, Taken, role_in, role_of, RolePresent, Present}
use Rattle.policy.specs.WellFormed.{WellFormed}
use Rattle.policy.specs.Fine.{Shelving, OneIs, AllAre, role_used, file_used, StateFine}
use Rattle.policy.specs.Parts.{role-by-place, role-by-name, file-by-place, file-by-name}

-- a free slot holds no role
pub free-held : {r : ℕ} → Free ≡ By r → ⊥
free-held e = let z : ◌≡◌ {A = ℕ} 0 1 = cc in omega arith

-- a slot that is not free holds the role of its session
pub holds_role : (h : Hold) → (h ≡ Free → ⊥) → h ≡ By (role_in h)
holds_role Free n = absurd (n refl)
holds_role (By r) n = refl

pub session-holds : (s : State) (slot : ℕ) → Taken s slot → hold_of s slot ≡ By (role_of s slot)
session-holds s slot t = holds_role (hold_of s slot) t

-- what is written into a slot reads as written
pub held-written : (h : Hold) → held_in (slot_with h) ≡ h
held-written Free = refl
held-written (By r) = refl

-- roles or files, some of them used
module _ {X : Type 0} {k : Shelving X} {used : ℕ → Bool} {n d : ℕ} {xs : List X} where
  pub all-used : AllAre k used n d xs → (i j : ℕ) → used i ≡ true → i < k.most → j < k.places
      → PlaceFine (kind_at k.file j) n d (k.lens_of (get_or xs i k.off)) (k.bytes_of (get_or xs i k.off)) j
  all-used a i j h m l = let it = a.each i m in it.is.fine h j (omega (arith, it.room.lengths))

  pub all-unused : AllAre k used n d xs → (i : ℕ) → used i ≡ false → ZeroShelf (k.lens_of (get_or xs i k.off)) (k.bytes_of (get_or xs i k.off))
  all-unused a i h = go (dec_lt i k.most)
    where
      go : Dec (i < k.most) → ZeroShelf (k.lens_of (get_or xs i k.off)) (k.bytes_of (get_or xs i k.off))
      go (yes l) = (a.each i l).is.zero h
      go (no m) =
          let none = get_or-eq_default xs k.off {n = i} (omega (arith, a.room)) in
          subst (λ (x : X). ZeroShelf (k.lens_of x) (k.bytes_of x)) (sym none) k.nothing

  pub all_are : length xs ≡ k.most
      → ((i : ℕ) → i < k.most → HasPlaces k.places (k.lens_of (get_or xs i k.off)) (k.bytes_of (get_or xs i k.off)))
      → ((i j : ℕ) → used i ≡ true → j < k.places
      → PlaceFine (kind_at k.file j) n d (k.lens_of (get_or xs i k.off)) (k.bytes_of (get_or xs i k.off)) j)
      → ((i : ℕ) → used i ≡ false → ZeroShelf (k.lens_of (get_or xs i k.off)) (k.bytes_of (get_or xs i k.off)))
      → AllAre k used n d xs
  all_are long room fine zero = record {
    room = long;
    each = λ i h. record {
      room = room i h;
      is = record { fine = λ e j l. fine i j e (omega (arith, (room i h).lengths)); zero = zero i };
    };
  }

  -- one that is used is replaced by one that is fine
  pub all_set : AllAre k used n d xs → (i : ℕ) → used i ≡ true → i < k.most → (x : X)
      → HasPlaces k.places (k.lens_of x) (k.bytes_of x) → ShelfFine k.file n d (k.lens_of x) (k.bytes_of x) → AllAre k used n d (set xs i x)
  all_set a i h m x room fine = record {
    room = length-set xs i x ∙ a.room;
    each = λ j l. go j l (ℕ_discrete j i);
  }
    where
      go : (j : ℕ) → j < k.most → Dec (j ≡ i) → OneIs k (used j) n d (get_or (set xs i x) j k.off)
      go j l (yes e) =
          let there : get_or (set xs i x) i k.off ≡ x = get_or-set_same xs i x k.off (omega (arith, a.room)) in
          let here : get_or (set xs i x) j k.off ≡ x = ap (λ (q : ℕ). get_or (set xs i x) q k.off) e ∙ there in
          let is = ap used e ∙ h in
          subst (OneIs k (used j) n d) (sym here) (record {
            room = room;
            is = record { fine = λ _. fine; zero = λ q. absurd (false≢true (sym q ∙ is)) };
          })
      go j l (no q) = subst (OneIs k (used j) n d) (sym (get_or-set_other xs i j x k.off q)) (a.each j l)

module _ (s : State) where
  -- who is there, by the test and by the predicate
  pub role-used : {i : ℕ} → RolePresent s i → role_used s i ≡ true
  role-used {i} h = lt-ltb i s.nroles h

  pub role-unused : {i : ℕ} → (RolePresent s i → ⊥) → role_used s i ≡ false
  role-unused {i} h = le-ltb i s.nroles (omega arith)

  pub used-role : {i : ℕ} → role_used s i ≡ true → RolePresent s i
  used-role {i} e = ltb-true i s.nroles e

  pub unused-role : {i : ℕ} → role_used s i ≡ false → RolePresent s i → ⊥
  unused-role {i} e h = false≢true (sym e ∙ role-used h)

  pub file-used : {i : ℕ} → Present s i → file_used s i ≡ true
  file-used {i} h = lt-ltb i s.nfiles h

  pub file-unused : {i : ℕ} → (Present s i → ⊥) → file_used s i ≡ false
  file-unused {i} h = le-ltb i s.nfiles (omega arith)

  pub used-file : {i : ℕ} → file_used s i ≡ true → Present s i
  used-file {i} e = ltb-true i s.nfiles e

  pub unused-file : {i : ℕ} → file_used s i ≡ false → Present s i → ⊥
  unused-file {i} e h = false≢true (sym e ∙ file-used h)

module _ (s : State) (d : ℕ) (deep : IsDepth s.tree d) where
  pub fine-well-formed : StateFine s d → WellFormed s
  fine-well-formed f = record {
    room = record {
      parents = f.tree.room;
      roles = f.roles.room;
      role-places = λ i h. (f.roles.each i h).room;
      files = f.files.room;
      file-places = λ i h. (f.files.each i h).room;
      slots = f.slots.room;
    };
    tree = f.tree.is-tree;
    role-count = f.role-count;
    file-count = f.file-count;
    depth = d;
    is-depth = deep;
    roles-in-order = λ i h. role-by-name (λ k l. (all-used f.roles i k (role-used s h) (omega arith) l).part);
    files-in-order = λ i h. file-by-name (λ k l. (all-used f.files i k (file-used s h) (omega arith) l).part);
    held-present = λ i r e. held i r e (dec_lt i slot_count);
    unused-zero = record {
      root = f.tree.root;
      parents = f.tree.past;
      role-bytes = λ i k h l. (all-used f.roles i k (role-used s h) (omega arith) l).past;
      roles = λ i h. all-unused f.roles i (role-unused s h);
      file-bytes = λ i k h l. (all-used f.files i k (file-used s h) (omega arith) l).past;
      files = λ i h. all-unused f.files i (file-unused s h);
    };
  }
    where
      held : (i r : ℕ) → hold_of s i ≡ By r → Dec (i < slot_count) → RolePresent s r
      held i r e (yes l) = f.slots.each i l r e
      held i r e (no n) =
          let free = get_or-eq_default s.slots 0 {n = i} (omega (arith, f.slots.room)) in
          absurd (free-held (sym (ap held_in free) ∙ e))

  pub well-formed-fine : WellFormed s → StateFine s d
  well-formed-fine w = record {
    tree = record { room = w.room.parents; is-tree = w.tree; root = w.unused-zero.root; past = w.unused-zero.parents };
    role-count = w.role-count;
    file-count = w.file-count;
    roles = all_are w.room.roles w.room.role-places
        (λ i j e l.
        let h = used-role s e in
        record { part = deeper (role-by-place (w.roles-in-order i h) j l); past = w.unused-zero.role-bytes i j h l })
        (λ i e. w.unused-zero.roles i (unused-role s e));
    files = all_are w.room.files w.room.file-places
        (λ i j e l.
        let h = used-file s e in
        record { part = deeper (file-by-place (w.files-in-order i h) j l); past = w.unused-zero.file-bytes i j h l })
        (λ i e. w.unused-zero.files i (unused-file s e));
    slots = record { room = w.room.slots; each = λ i h r e. w.held-present i r e };
  }
    where
      -- a tree has one depth
      deeper : {kind : Kind} {n k : ℕ} {lens bytes : List ℕ} → PartInOrder kind n w.depth lens bytes k → PartInOrder kind n d lens bytes k
      deeper {kind} {n} {k} {lens} {bytes} p = subst (λ (x : ℕ). PartInOrder kind n x lens bytes k) (one-depth w.is-depth deep) p
