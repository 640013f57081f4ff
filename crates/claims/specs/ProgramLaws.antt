-- Every well-formed state is one that code can hold, and every request that code can make is one that `machine::serve` can be given. Assumes nothing.
use Rattle.std.specs.Prelude.{◌≡◌, refl, Bool, true, false, List, [], ◌∷◌, ◌++◌, ℕ, zero, suc, ◌+◌, ◌*◌, ◌-◌, ◌<◌, ◌≤◌, ◌/◌, ◌%◌, ◌^◌, length, get_or, take}
use Rattle.std.specs.Prelude.{drop}
use Rattle.std.proofs.Common.{sym, ap, ◌∙◌, subst, inl, inr, arith, get_or-take, get_or-drop}
use Rattle.std.proofs.Math.Decide.{dec_lt, ℕ_discrete}
use Rattle.std.proofs.Math.ListN.{get_or-eq_default}
use Rattle.tree.specs.declared.Tree.{Tree}
use Rattle.tree.specs.Tree.{HasLevel, root, child, IsTree, IsDepth, SmallerBelow}
use Rattle.expression.specs.declared.Kind.{Kind}
use Rattle.expression.specs.Expression.{Expr, term, one, range, ◌AND◌, ◌OR◌}
use Rattle.expression.specs.Bytes.{longest, bytes, Fits, Right}
use Rattle.shelf.specs.Shelf.{HasPlaces, stored_at, ZeroShelf}
use Rattle.shelf.specs.Fine.{PlaceFine, ShelfFine, kind_at}
use Rattle.shelf.specs.Laws.{past_end}
use Rattle.policy.specs.declared.State.{State}
use Rattle.policy.specs.State.{held_in}
use Rattle.policy.specs.WellFormed.{WellFormed}
use Rattle.policy.specs.Fine.{Shelving, role_shelves, file_shelves, AllAre, role_used, file_used}
use Rattle.policy.specs.Whole.{well-formed-fine}
use Rattle.machine.specs.Machine.{Request, load, begin, end, ask, change, bypass}
use Rattle.machine.specs.Served.{request_of}
use Rattle.claims.specs.Programs.{AllUnder, ShelfOfBytes, CodeState, CodeRequest}

-- ---- numbers below m, element by element
abbrev Under : ℕ → List ℕ → Type 0
Under m [] = Unit {0}
Under m (x ∷ xs) = (x < m) × Under m xs

under-append : (m : ℕ) (xs ys : List ℕ) → Under m xs → Under m ys → Under m (xs ++ ys)
under-append m [] ys p q = q
under-append m (x ∷ xs) ys p q = (p.0, under-append m xs ys p.1 q)

under_at : (m : ℕ) → 0 < m → (l : List ℕ) → Under m l → AllUnder m l
under_at m z [] u i = z
under_at m z (x ∷ xs) u zero = u.0
under_at m z (x ∷ xs) u (suc i) = under_at m z xs u.1 i

-- ---- the bytes of an expression that fits are bytes
module _ (kind : Kind) (n d : ℕ) (few : n ≤ 64) (low : d < 64) where
  bytes-under : (e : Expr) → Fits kind n d e → Under 256 (bytes e)
  bytes-under (term (one s)) f = (omega arith, (omega arith, tt))
  bytes-under (term (range s i j)) f = (omega arith, (omega (arith, f.0), (omega (arith, f.1, f.2), (omega (arith, f.2), tt))))
  bytes-under (a AND b) f = (omega arith, under-append 256 (bytes a) (bytes b) (bytes-under a f.0) (bytes-under b f.1))
  bytes-under (a OR b) f = (omega arith, under-append 256 (bytes a) (bytes b) (bytes-under a f.1) (bytes-under b f.2))

  right-under : (bs : List ℕ) → Right kind n d bs → AllUnder 256 bs
  right-under bs (inl e) i = rw e (omega arith)
  right-under bs (inr (e, f, q)) i = rw q (under_at 256 (omega arith) (bytes e) (bytes-under e f) i)

-- ---- a level is at most its securon's number, so a depth is below the count
level-below : {p : List ℕ} {u k n : ℕ} → SmallerBelow p n → u < n → HasLevel p u k → k ≤ u
level-below s h root = omega arith
level-below {u = u} s h (child z l) = let small = s u z h in omega (arith, level-below s (omega arith) l)

depth_below : {t : Tree} {d : ℕ} → IsTree t → IsDepth t d → d < 64
depth_below t i = let (u, h, l) = i.deepest in omega (arith, level-below t.smaller h l, t.count.1)

-- ---- a shelf that is fine, or zero, is one of bytes: each byte is of an expression, or past one
module _ (places n d : ℕ) (few : n ≤ 64) (low : d < 64) (file : Bool) (lens bytes : List ℕ) (room : HasPlaces places lens bytes)
    (fine : ShelfFine file n d lens bytes) where
  place-under : (k o : ℕ) → k < places → o < longest → get_or bytes (longest * k + o) 0 < 256
  place-under k o h l = go (dec_lt o (get_or lens k 0))
    where
      it : PlaceFine (kind_at file k) n d lens bytes k
      it = fine k (omega (arith, room.lengths))

      go : Dec (o < get_or lens k 0) → get_or bytes (longest * k + o) 0 < 256
      go (yes q) =
          let same = get_or-take (get_or lens k 0) (drop (longest * k) bytes) o 0 q ∙ get_or-drop (longest * k) bytes o 0 in
          rw (sym same) (right-under (kind_at file k) n d few low (stored_at lens bytes k) it.part.in_order.1 o)
      go (no q) =
          let m = get_or lens k 0 in
          let same =
          get_or-take (longest - m) (drop (longest * k + m) bytes) (o - m) 0 (omega arith)
          ∙ get_or-drop (longest * k + m) bytes (o - m) 0 in
          let at : longest * k + m + (o - m) ≡ longest * k + o = omega arith in
          let none : get_or bytes (longest * k + o) 0 ≡ 0 = ap (λ (j : ℕ). get_or bytes j 0) (sym at) ∙ sym same ∙ it.past (o - m) in
          omega arith

  fine-bytes : ShelfOfBytes lens bytes
  fine-bytes = record { lengths = λ k. short k (dec_lt k places); room = λ j. under j (dec_lt (j / 48) places) }
    where
      short : (k : ℕ) → Dec (k < places) → get_or lens k 0 < 256
      short k (yes h) = omega (arith, (fine k (omega (arith, room.lengths))).part.short)
      short k (no q) = let off : get_or lens k 0 ≡ 0 = past_end lens k (omega (arith, room.lengths)) in omega arith

      under : (j : ℕ) → Dec (j / 48 < places) → get_or bytes j 0 < 256
      under j (yes h) =
          let at : 48 * (j / 48) + j % 48 ≡ j = omega arith in
          subst (λ (i : ℕ). get_or bytes i 0 < 256) at (place-under (j / 48) (j % 48) h (omega arith))
      under j (no q) = let off : get_or bytes j 0 ≡ 0 = past_end bytes j (omega (arith, room.room)) in omega arith

zero-bytes : {lens bytes : List ℕ} → ZeroShelf lens bytes → ShelfOfBytes lens bytes
zero-bytes z = record { lengths = λ i. rw (z.lengths i) (omega arith); room = λ i. rw (z.room i) (omega arith) }

module _ {X : Type 0} (k : Shelving X) (used : ℕ → Bool) (n d : ℕ) (few : n ≤ 64) (low : d < 64) (xs : List X) (all : AllAre k used n d xs) where
  shelf-bytes : (i : ℕ) → ShelfOfBytes (k.lens_of (get_or xs i k.off)) (k.bytes_of (get_or xs i k.off))
  shelf-bytes i = go (dec_lt i k.most) (used i) refl
    where
      go : Dec (i < k.most) → (b : Bool) → used i ≡ b → ShelfOfBytes (k.lens_of (get_or xs i k.off)) (k.bytes_of (get_or xs i k.off))
      go (yes h) true e = fine-bytes k.places n d few low k.file _ _ (all.each i h).room ((all.each i h).is.fine e)
      go (yes h) false e = zero-bytes ((all.each i h).is.zero e)
      go (no q) b e =
          let off : get_or xs i k.off ≡ k.off = get_or-eq_default xs k.off (omega (arith, all.room)) in
          subst (λ (x : X). ShelfOfBytes (k.lens_of x) (k.bytes_of x)) (sym off) (zero-bytes k.nothing)

-- every well-formed state is one that code can hold
pub well-formed-code : {s : State} → WellFormed s → CodeState s
well-formed-code {s} w =
    let all = well-formed-fine s w.depth w.is-depth w in
    let few = w.tree.count.1 in
    let low = depth_below w.tree w.is-depth in
    record {
      room = w.room;
      securons = omega (arith, few);
      parents = λ u. parent u (dec_lt u s.tree.n) (ℕ_discrete u 0);
      role-count = omega (arith, w.role-count);
      roles = shelf-bytes role_shelves (role_used s) s.tree.n w.depth few low s.roles all.roles;
      file-count = omega (arith, w.file-count);
      files = shelf-bytes file_shelves (file_used s) s.tree.n w.depth few low s.files all.files;
      slots = λ i. slot i (get_or s.slots i 0) refl;
    }
  where
    parent : (u : ℕ) → Dec (u < s.tree.n) → Dec (u ≡ 0) → get_or s.tree.parent u 0 < 256
    parent u h (yes z) = rw (z, w.unused-zero.root) (omega arith)
    parent u (yes h) (no z) = omega (arith, w.tree.smaller u (omega arith) h, w.tree.count.1)
    parent u (no h) (no z) = rw (w.unused-zero.parents u (omega arith)) (omega arith)

    slot : (i x : ℕ) → get_or s.slots i 0 ≡ x → get_or s.slots i 0 < 2 ^ 16
    slot i zero e = rw e (omega arith)
    slot i (suc r) e = rw e (omega (arith, w.held-present i r (ap held_in e), w.role-count))

-- a request as `machine::serve` is given it: four bytes, and two slices of bytes
pub record AsServed (q : Request) : Type 0 where
  pub code : ℕ
  pub slot : ℕ
  pub a : ℕ
  pub b : ℕ
  pub x : List ℕ
  pub y : List ℕ
  pub is : request_of code slot a b x y ≡ q
  pub are-bytes : (code < 256) × (slot < 256) × (a < 256) × (b < 256) × AllUnder 256 x × AllUnder 256 y

nothing : AllUnder 256 []
nothing i = omega arith

pub every-request-is-served : (q : Request) → CodeRequest q → AsServed q
every-request-is-served (load image) h = record {
  code = 0;
  slot = 0;
  a = 0;
  b = 0;
  x = image;
  y = [];
  is = refl;
  are-bytes = (omega arith, omega arith, omega arith, omega arith, h, nothing);
}
every-request-is-served (begin slot role) h = record {
  code = 1;
  slot = slot;
  a = role;
  b = 0;
  x = [];
  y = [];
  is = refl;
  are-bytes = (omega arith, h.0, h.1, omega arith, nothing, nothing);
}
every-request-is-served (end slot) h = record {
  code = 2;
  slot = slot;
  a = 0;
  b = 0;
  x = [];
  y = [];
  is = refl;
  are-bytes = (omega arith, h, omega arith, omega arith, nothing, nothing);
}
every-request-is-served (ask slot file mode) h = record {
  code = 3;
  slot = slot;
  a = file;
  b = mode;
  x = [];
  y = [];
  is = refl;
  are-bytes = (omega arith, h.0, h.1, h.2, nothing, nothing);
}
every-request-is-served (change slot file mode t1 t2) h = record {
  code = 4;
  slot = slot;
  a = file;
  b = mode;
  x = t1;
  y = t2;
  is = refl;
  are-bytes = (omega arith, h.0, h.1, h.2, h.3, h.4);
}
every-request-is-served (bypass slot file mode e g) h = record {
  code = 5;
  slot = slot;
  a = file;
  b = mode;
  x = e;
  y = g;
  is = refl;
  are-bytes = (omega arith, h.0, h.1, h.2, h.3, h.4);
}
