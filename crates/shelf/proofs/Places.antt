-- One place of a shelf: what its tests tell. Assumes nothing.
use mathlib.Core.Path.{◌≡◌, sym, ap, ◌∙◌, subst}
use mathlib.Core.Bool.{Bool, true, false, ◌&&◌, false≢true}
use mathlib.Core.List.{List}
use mathlib.Core.Logic.{◌↔◌}
use Prim.Native.Nat.{ℕ, ◌+◌, ◌*◌, ◌-◌, ◌≤◌}
use native.Mathlib.Omega.{arith}
use lib.ListN.{get_or, take, drop}
use Rattle.logic.specs.Iff.{and-iff, iff-trans}
use Rattle.expression.specs.declared.Kind.{Kind}
use Rattle.expression.specs.Bytes.{longest, InOrder}
use Rattle.shelf.specs.Shelf.{HasPlaces, stored_at, room_past, AllZero, ZeroShelf}
use Rattle.shelf.specs.Fine.{PlaceFine, ShelfFine, ShelfIs}

module _ (kind : Kind) (n d : ℕ) (lens bytes : List ℕ) (k m : ℕ) (e : m ≡ get_or lens k 0) where
  -- the bytes past the expression
  abbrev others : List ℕ
  others = take ((longest * k + longest) - (longest * k + m)) (drop (longest * k + m) bytes)

  pub place-both : m ≤ longest → {told : Kind} → told ≡ kind → (x y : Bool)
      → (x ≡ true) ↔ InOrder told n d (stored_at lens bytes k) → (y ≡ true) ↔ AllZero others
      → ((x && y) ≡ true) ↔ PlaceFine kind n d lens bytes k
  place-both h {told} t x y f g =
      let q : (longest * k + longest) - (longest * k + m) ≡ longest - m = omega arith in
      let past : others ≡ room_past lens bytes k = ap (λ (i : ℕ). take i (drop (longest * k + m) bytes)) q
      ∙ ap (λ (i : ℕ). take (longest - i) (drop (longest * k + i) bytes)) e in
      let stored : Kind → Type 0 = λ j. InOrder j n d (stored_at lens bytes k) in
      iff-trans (and-iff x y f g) (
        (λ w. record { part = record { short = omega arith; in_order = subst stored t w.0 }; past = subst AllZero past w.1 }),
        λ w. (subst stored (sym t) w.part.in_order, subst AllZero (sym past) w.past),
      )

-- a shelf that is there, and one that is not
module _ {used file : Bool} {places n d : ℕ} {lens bytes : List ℕ} (room : HasPlaces places lens bytes) where
  pub one-used : used ≡ true → ShelfFine file n d lens bytes ↔ ShelfIs used file places n d lens bytes
  one-used u = (
    (λ w. record { room = room; is = record { fine = λ _. w; zero = λ e. absurd (false≢true (sym e ∙ u)) } }),
    λ w. w.is.fine u,
  )

  pub one-unused : used ≡ false → ZeroShelf lens bytes ↔ ShelfIs used file places n d lens bytes
  one-unused u = (
    (λ w. record { room = room; is = record { fine = λ e. absurd (false≢true (sym u ∙ e)); zero = λ _. w } }),
    λ w. w.is.zero u,
  )
