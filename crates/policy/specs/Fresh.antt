-- The fresh state is well formed. Assumes nothing.
use Rattle.std.specs.Prelude.{◌≡◌, refl, ℕ, zero, suc, ◌*◌, ltb, get_or, replicate}
use Rattle.std.proofs.Common.{sym, subst, arith, ltb-true}
use Rattle.std.proofs.lemmas.List.{length-replicate, get_or-replicate}
use Rattle.securon.specs.Sets.{set_room}
use Rattle.tree.specs.Tree.{root, IsDepth}
use Rattle.tree.specs.Laws.{one-level}
use Rattle.expression.specs.Bytes.{longest}
use Rattle.policy.specs.State.{slot_count, role_places, file_places, no_role, no_file, root_alone, fresh_state}
use Rattle.shelf.specs.Shelf.{HasPlaces, ZeroShelf}
use Rattle.policy.specs.WellFormed.{WellFormed}
use Rattle.policy.specs.Fine.{SlotIs, Shelving, role_shelves, file_shelves, OneIs, AllAre}
use Rattle.policy.specs.Whole.{free-held, fine-well-formed}

-- zero, however many
zeros-at : (n i : ℕ) → ◌≡◌ {A = ℕ} (get_or (replicate n 0) i 0) 0
zeros-at zero i = refl
zeros-at (suc n) zero = refl
zeros-at (suc n) (suc i) = zeros-at n i

-- a shelf of zeros
pub zero-places : (places : ℕ) → HasPlaces places (replicate places 0) (replicate (longest * places) 0)
zero-places places = record { lengths = length-replicate {A = ℕ} places 0; room = length-replicate {A = ℕ} (longest * places) 0 }

pub zero-shelf : (places : ℕ) → ZeroShelf (replicate places 0) (replicate (longest * places) 0)
zero-shelf places = record { lengths = zeros-at places; room = zeros-at (longest * places) }

-- none is used, and all are zero
all-zero : {X : Type 0} (k : Shelving X) (n d : ℕ) (x : X) → HasPlaces k.places (k.lens_of x) (k.bytes_of x) → ZeroShelf (k.lens_of x) (k.bytes_of x)
    → AllAre k (λ i. ltb i 0) n d (replicate k.most x)
all-zero k n d x room none = record {
  room = length-replicate k.most x;
  each = λ i h. subst (OneIs k (ltb i 0) n d) (sym (get_or-replicate k.most i x k.off h)) (record {
    room = room;
    is = record { fine = λ e. absurd (omega (arith, ltb-true i 0 e)); zero = λ _. none };
  });
}

-- the root alone has depth 0
pub root-depth : IsDepth root_alone 0
root-depth = record {
  deepest = (0, omega arith, root);
  largest = λ u k h l. let e : u ≡ 0 = omega arith in omega (arith, one-level l root e);
}

pub fresh-well-formed : WellFormed fresh_state
fresh-well-formed = fine-well-formed fresh_state 0 root-depth (record {
  tree = record {
    room = length-replicate {A = ℕ} set_room 0;
    is-tree = record { count = (omega arith, omega arith); smaller = λ u p h. absurd (omega arith) };
    root = refl;
    past = λ u h. zeros-at set_room u;
  };
  role-count = omega arith;
  file-count = omega arith;
  roles = all-zero role_shelves 1 0 no_role (zero-places role_places) (zero-shelf role_places);
  files = all-zero file_shelves 1 0 no_file (zero-places file_places) (zero-shelf file_places);
  slots = record {
    room = length-replicate {A = ℕ} slot_count 0;
    each = λ i h. subst (SlotIs 0) (sym (get_or-replicate {A = ℕ} slot_count i 0 0 h)) (λ r e. absurd (free-held e));
  };
})
