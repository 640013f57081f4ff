-- The parents that no securon has. Assumes nothing.
use mathlib.Core.Path.{◌≡◌, sym, ap, ◌∙◌}
use mathlib.Core.Bool.{Bool, true, ◌&&◌}
use mathlib.Core.Logic.{◌↔◌}
use Prim.Native.Nat.{ℕ, ◌+◌, ◌-◌}
use native.Mathlib.Omega.{arith}
use lib.Dec.{eqb}
use lib.ListN.{length, get_or, take, drop, length-drop}
use lib.Seq.{get_or-drop, take_all}
use Rattle.logic.specs.Iff.{and-iff, iff-trans, zero-iff}
use Rattle.securon.specs.Sets.{set_room}
use Rattle.tree.specs.declared.Tree.{Tree}
use Rattle.tree.specs.Tree.{IsTree}
use Rattle.shelf.specs.Shelf.{AllZero}
use Rattle.policy.specs.Fine.{TreeFine}

module _ (t : Tree) (long : length t.parent ≡ set_room) (tree : IsTree t) where
  rest : take (set_room - t.n) (drop t.n t.parent) ≡ drop t.n t.parent
  rest = take_all (set_room - t.n) (drop t.n t.parent) (omega (arith, length-drop t.n t.parent))

  -- the root's parent and the part of the parents from n up, each tested
  pub tree-rest : (y : Bool)
      → (y ≡ true) ↔ AllZero (take (set_room - t.n) (drop t.n t.parent))
      → ((eqb (get_or t.parent 0 0) 0 && y) ≡ true) ↔ TreeFine t
  tree-rest y f = iff-trans (and-iff _ y (zero-iff (get_or t.parent 0 0)) f) (
    (λ w. record {
      room = long;
      is-tree = tree;
      root = w.0;
      past = λ u h.
          let e : t.n + (u - t.n) ≡ u = omega arith in
          ap (λ (k : ℕ). get_or t.parent k 0) (sym e) ∙ sym (get_or-drop t.n t.parent (u - t.n) 0) ∙ (rw rest at w.1) (u - t.n);
    }),
    λ w. (w.root, rw rest (λ i. get_or-drop t.n t.parent i 0 ∙ w.past (t.n + i) (omega arith))),
  )
