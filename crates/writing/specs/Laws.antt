-- The laws of what is written, one part after the other. Assumes nothing.
use Rattle.std.specs.Prelude.{◌≡◌, refl, List, [], ◌∷◌, ◌++◌, ℕ, ◌+◌, ◌-◌, ◌<◌, ◌≤◌, length, take, drop, set}
use Rattle.std.proofs.Common.{sym, ap, ◌∙◌, subst, append_assoc, append-nil, zero-add, add-one, arith, length-set, length-append, take-append-drop}
use Rattle.std.proofs.Common.{take-suc-set, drop-set-lt, drop-drop}
use Rattle.writing.specs.Writing.{WrittenAt, RoomFor}

-- lists that are the same from k on are the same from further on
pub drop_more : (x y : List ℕ) (k j : ℕ) → k ≤ j → drop k x ≡ drop k y → drop j x ≡ drop j y
drop_more x y k j h e =
    let i : k + (j - k) ≡ j = omega arith in
    subst (λ (z : ℕ). drop z x ≡ drop z y) i (sym (drop-drop (j - k) k x) ∙ ap (drop (j - k)) e ∙ drop-drop (j - k) k y)

pub none_written : (d : List ℕ) (at : ℕ) → WrittenAt d at [] d at
none_written d at = record { next = omega arith; is = sym (append-nil (take at d)); rest = refl; long = refl }

pub one_written : (d : List ℕ) (at x : ℕ) → at < length d → WrittenAt d at (x ∷ []) (set d at x) (at + 1)
one_written d at x h = record {
  next = refl;
  is = ap (λ (n : ℕ). take n (set d at x)) (add-one at) ∙ take-suc-set d at x h;
  rest = drop-set-lt (at + 1) d at x (omega arith);
  long = length-set d at x;
}

pub then-written : {d m e : List ℕ} {at p r : ℕ} {v w : List ℕ} → WrittenAt d at v m p → WrittenAt m p w e r → WrittenAt d at (v ++ w) e r
then-written {d} {m} {e} {at} {p} {r} {v} {w} f g = record {
  next = omega (arith, f.next, g.next, length-append v w);
  is = g.is ∙ ap (λ (z : List ℕ). z ++ w) f.is ∙ append_assoc (take at d) v w;
  rest = g.rest ∙ drop_more m d p r (omega (arith, g.next)) f.rest;
  long = g.long ∙ f.long;
}

-- the same by another name
pub same-written : {d e : List ℕ} {at r : ℕ} {v w : List ℕ} → v ≡ w → WrittenAt d at v e r → WrittenAt d at w e r
same-written {d} {e} {at} {r} h f = subst (λ (l : List ℕ). WrittenAt d at l e r) h f

-- what is written at the front fills it
pub front-written : {d e : List ℕ} {w : List ℕ} {r : ℕ} → WrittenAt d 0 w e r → e ≡ w ++ drop (length w) d
front-written {d} {e} {w} {r} f =
    sym (take-append-drop r e) ∙ ap (λ (z : List ℕ). z ++ drop r e) f.is ∙ ap (λ (z : List ℕ). w ++ z) f.rest
    ∙ ap (λ (k : ℕ). w ++ drop k d) (f.next ∙ zero-add (length w))

-- room for one part and another is room for the other once the one is written
pub room_next : {d m : List ℕ} {at p : ℕ} {v : List ℕ} (w : List ℕ) → RoomFor d at (v ++ w) → WrittenAt d at v m p → RoomFor m p w
room_next {v = v} w h f = omega (arith, h, length-append v w, f.next, f.long)
