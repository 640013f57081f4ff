-- A shelf that is fine stays so where an expression in order is put at a place; a shelf of zeros is fine;
-- a place of a store reads as stored, the others as before. Assumes nothing.
use Rattle.std.specs.Prelude.{◌≡◌, refl, Bool, true, List, ℕ, ◌+◌, ◌*◌, ◌-◌, ◌<◌, ◌≤◌, ◌%◌, length, get_or, take, drop, set}
use Rattle.std.proofs.Common.{sym, ap, ◌∙◌, subst, inl, arith, eq-eqb, ne_eqb, length-set, get_or-set_same, get_or-set_other}
use Rattle.std.proofs.Math.Decide.{ℕ_discrete}
use Rattle.expression.specs.declared.Kind.TheVariants.{Privilege, Protection}
use Rattle.expression.specs.Bytes.{longest, InOrder}
use Rattle.shelf.specs.Shelf.{HasPlaces, AllZero, ZeroShelf, stored_at, put_bytes}
use Rattle.shelf.specs.Fine.{kind_if, kind_at, PlaceFine, ShelfFine}
use Rattle.shelf.specs.Laws.{zero-part, put-length, stored-put, past-put, stored_other, past-other}

-- T1 and T2 stand at a file's even places, E and G at its odd ones
pub even-kind : (k : ℕ) → k % 2 ≡ 0 → kind_at true k ≡ Protection
even-kind k h = ap kind_if (eq-eqb (k % 2) 0 h)

pub odd-kind : (k : ℕ) → k % 2 ≡ 1 → kind_at true k ≡ Privilege
odd-kind k h = ap kind_if (ne_eqb (k % 2) 0 (λ e. omega arith))

-- x is put at place k of a shelf
module _ {places : ℕ} {lens bytes : List ℕ} (p : HasPlaces places lens bytes) (k : ℕ) (h : k < places) (x : List ℕ) (hx : length x ≤ longest) where
  -- the shelf has its room as before
  pub put-places : HasPlaces places (set lens k (length x)) (put_bytes bytes k x)
  put-places = record {
    lengths = length-set lens k (length x) ∙ p.lengths;
    room = put-length bytes k x hx (omega (arith, p.room)) ∙ p.room;
  }

  -- and is fine, where x is in order for the kind of its place
  pub put-fine : (file : Bool) (n d : ℕ) → ShelfFine file n d lens bytes
      → InOrder (kind_at file k) n d x
      → ShelfFine file n d (set lens k (length x)) (put_bytes bytes k x)
  put-fine file n d f o j l = go (ℕ_discrete j k)
    where
      here : PlaceFine (kind_at file k) n d (set lens k (length x)) (put_bytes bytes k x) k
      here =
          let b : longest * k + longest ≤ length bytes = omega (arith, p.room) in
          let g : k < length lens = omega (arith, p.lengths) in
          record {
            part = record {
              short = omega (arith, get_or-set_same lens k (length x) 0 g);
              in_order = subst (InOrder (kind_at file k) n d) (sym (stored-put bytes k x hx b lens g)) o;
            };
            past = past-put bytes k x hx b lens g;
          }

      there : (j ≡ k → ⊥) → PlaceFine (kind_at file j) n d (set lens k (length x)) (put_bytes bytes k x) j
      there m =
          let b : longest * k + longest ≤ length bytes = omega (arith, p.room) in
          let g : j < length lens = omega (arith, length-set lens k (length x)) in
          let c : longest * j + longest ≤ length bytes = omega (arith, p.room, p.lengths) in
          let was = f j g in
          record {
            part = record {
              short = omega (arith, get_or-set_other lens k j (length x) 0 m, was.part.short);
              in_order = subst (InOrder (kind_at file j) n d) (sym (stored_other bytes k x hx b lens j m was.part.short c)) was.part.in_order;
            };
            past = subst AllZero (sym (past-other bytes k x hx b lens j m was.part.short c)) was.past;
          }

      go : Dec (j ≡ k) → PlaceFine (kind_at file j) n d (set lens k (length x)) (put_bytes bytes k x) j
      go (yes e) = subst (λ (i : ℕ). PlaceFine (kind_at file i) n d (set lens k (length x)) (put_bytes bytes k x) i) (sym e) here
      go (no m) = there m

  -- what is put reads as put, every other place as before
  pub put-here : stored_at (set lens k (length x)) (put_bytes bytes k x) k ≡ x
  put-here = stored-put bytes k x hx (omega (arith, p.room)) lens (omega (arith, p.lengths))

  pub put-there : (j : ℕ) → j < places → (j ≡ k → ⊥) → get_or lens j 0 ≤ longest
      → stored_at (set lens k (length x)) (put_bytes bytes k x) j ≡ stored_at lens bytes j
  put-there j m n short = stored_other bytes k x hx (omega (arith, p.room)) lens j n short (omega (arith, p.room))

-- a shelf of zeros is fine: every expression has length 0
pub zero-fine : (file : Bool) (n d : ℕ) {lens bytes : List ℕ} → ZeroShelf lens bytes → ShelfFine file n d lens bytes
zero-fine file n d {lens} {bytes} z k l =
    let none : get_or lens k 0 ≡ 0 = z.lengths k in
    record {
      part = record {
        short = omega arith;
        in_order = subst (λ (m : ℕ). InOrder (kind_at file k) n d (take m (drop (longest * k) bytes))) (sym none) (omega arith, inl refl);
      };
      past = zero-part bytes (longest * k + get_or lens k 0) (longest - get_or lens k 0) z.room;
    }
