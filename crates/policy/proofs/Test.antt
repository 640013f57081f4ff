-- The examination of a state, from the tests of its parts. Assumes nothing.
use mathlib.Core.Path.{◌≡◌, sym, subst}
use mathlib.Core.Bool.{Bool, true, ◌&&◌}
use mathlib.Core.Logic.{◌↔◌}
use Prim.Native.Nat.{ℕ}
use lib.Dec.{leb}
use Rattle.logic.specs.Iff.{and-iff, iff-trans, most-iff}
use Rattle.tree.specs.Grown.{Leveled}
use Rattle.tree.specs.declared.Tree.{Tree}
use Rattle.tree.specs.Tree.{LevelsOf}
use Rattle.policy.specs.declared.State.{State}
use Rattle.policy.specs.State.{most_roles, most_files}
use Rattle.policy.specs.WellFormed.{WellFormed}
use Rattle.policy.specs.Fine.{TreeFine, PartsFine, role_shelves, file_shelves, role_used, file_used, AllAre, SlotsAre}
use Rattle.policy.specs.Whole.{fine-well-formed, well-formed-fine}

-- the tests of the parts, together
pub tested : (s : State) (n d : ℕ) {a b c : Bool} → (a ≡ true) ↔ AllAre role_shelves (role_used s) n d s.roles
    → (b ≡ true) ↔ AllAre file_shelves (file_used s) n d s.files → (c ≡ true) ↔ SlotsAre s.nroles s.slots
    → ((leb s.nroles most_roles && leb s.nfiles most_files && a && b && c) ≡ true) ↔ PartsFine s n d
tested s n d roles files slots =
    let counts = and-iff _ _ (most-iff s.nroles most_roles) (most-iff s.nfiles most_files) in
    iff-trans (and-iff _ _ (and-iff _ _ (and-iff _ _ counts roles) files) slots) (
      (λ w. record { role-count = w.0.0.0.0; file-count = w.0.0.0.1; roles = w.0.0.1; files = w.0.1; slots = w.1 }),
      λ w. ((((w.role-count, w.file-count), w.roles), w.files), w.slots),
    )

-- the tree, and all else
module _ (s : State) {g : Leveled} (is : (g.tree ≡ s.tree) × LevelsOf s.tree g.levels) where
  abbrev Parts : Tree → Type 0
  Parts t = PartsFine s t.n g.levels.depth.0

  pub whole : TreeFine s.tree → Parts g.tree → WellFormed s
  whole tree w =
      let p = subst Parts is.0 w in
      fine-well-formed s _ is.1.depth (record {
        tree = tree;
        role-count = p.role-count;
        file-count = p.file-count;
        roles = p.roles;
        files = p.files;
        slots = p.slots;
      })

  pub all-parts : WellFormed s → Parts g.tree
  all-parts w =
      let f = well-formed-fine s _ is.1.depth w in
      subst Parts (sym is.0) (record { role-count = f.role-count; file-count = f.file-count; roles = f.roles; files = f.files; slots = f.slots })

pub tree-told : {s : State} → WellFormed s → TreeFine s.tree
tree-told w = record { room = w.room.parents; is-tree = w.tree; root = w.unused-zero.root; past = w.unused-zero.parents }
