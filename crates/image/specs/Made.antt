-- The state that the policy of an image makes is well formed. Assumes nothing.
use Rattle.std.specs.Prelude.{◌≡◌, refl, Bool, true, false, ℕ, zero, suc, ◌+◌, ◌*◌, ◌-◌, ◌<◌, ltb, length, take, drop, get_or, replicate}
use Rattle.std.proofs.Common.{sym, ap, ap₂, ◌∙◌, subst, subst₂, arith, ltb-true, ltb-false, length-append, take_at, drop-drop}
use mathlib.Core.List.{List, [], ◌∷◌, ◌++◌, map, flat_map, append_assoc}
use Rattle.std.proofs.Math.Decide.{dec_lt}
use Rattle.std.proofs.lemmas.List.{length-map, length-replicate, get_or-replicate, get_or_at}
use Rattle.std.proofs.Math.ListN.{get_or-append}
use Rattle.std.proofs.Math.Seq.{drop-append-add, drop-append_seam}
use Rattle.tree.specs.Depth.{depth_of}
use Rattle.tree.specs.DepthLaws.{depth_is}
use Rattle.expression.specs.declared.Kind.{Kind}
use Rattle.expression.specs.declared.Kind.TheVariants.{Privilege}
use Rattle.expression.specs.Bytes.{longest, InOrder}
use Rattle.shelf.specs.Shelf.{HasPlaces, AllZero, ZeroShelf, stored_at, room_past, padded}
use Rattle.shelf.specs.Fine.{kind_at, ShelfFine}
use Rattle.shelf.specs.Laws.{length-padded}
use Rattle.policy.specs.State.{most_roles, most_files, slot_count, role_places, file_places, Free, slot_with, no_role, no_file}
use Rattle.policy.specs.WellFormed.{WellFormed}
use Rattle.policy.specs.Fine.{SlotIs, SlotsAre, Shelving, role_shelves, file_shelves, OneIs, AllAre, role_used, file_used}
use Rattle.policy.specs.Fresh.{zero-places, zero-shelf}
use Rattle.policy.specs.Whole.{free-held, fine-well-formed}
use Rattle.image.specs.Image.{Expressions, Policy, version1, filled, each, role_kinds, file_kinds, image}
use Rattle.image.specs.Load.{as_role, as_file, state_of}
use Rattle.image.specs.Reading.{Short, kinds_of}
use Rattle.image.specs.Filled.{length-filled, filled_at, filled-past}
use Rattle.image.specs.Taken.{InPlace, AllInPlace, PolicyFine, image-fine}

-- so many bytes has the room of a shelf
pub room-length : (xs : Expressions) → Short xs → length (flat_map padded xs) ≡ longest * length xs
unfolding flat_map
room-length [] short = refl
room-length (x ∷ xs) short =
    let rest = room-length xs (λ k h. short (suc k) (omega arith)) in
    omega (arith, rest, length-append (padded x) (flat_map padded xs), length-padded x (short 0 (omega arith)))

-- from place k on stands expression k, with zero up to 48, and then the others
from_place : (xs : Expressions) → Short xs → (k : ℕ) → k < length xs
    → drop (longest * k) (flat_map padded xs) ≡ padded (get_or xs k []) ++ flat_map padded (drop (suc k) xs)
unfolding flat_map
from_place [] short k h = absurd (omega arith)
from_place (x ∷ xs) short zero h = refl
from_place (x ∷ xs) short (suc k) h =
    let e : longest * suc k ≡ length (padded x) + longest * k = omega (arith, length-padded x (short 0 (omega arith))) in
    ap (λ (i : ℕ). drop i (padded x ++ flat_map padded xs)) e
    ∙ drop-append-add (padded x) (flat_map padded xs) (longest * k)
    ∙ from_place xs (λ j l. short (suc j) (omega arith)) k (omega arith)

-- the element at i of a list made element by element
pub map_at : {A B : Type 0} (f : A → B) (l : List A) (i : ℕ) (d : A) (e : B) → i < length l → get_or (map f l) i e ≡ f (get_or l i d)
map_at f [] i d e h = absurd (omega arith)
map_at f (x ∷ l) zero d e h = refl
map_at f (x ∷ l) (suc i) d e h = map_at f l i d e (omega arith)

module _ (xs : Expressions) (short : Short xs) (k : ℕ) (h : k < length xs) where
  abbrev x : List ℕ
  x = get_or xs k []

  abbrev rest : List ℕ
  rest = flat_map padded (drop (suc k) xs)

  abbrev zeros : List ℕ
  zeros = replicate (longest - length x) 0

  from-here : drop (longest * k) (flat_map padded xs) ≡ x ++ (zeros ++ rest)
  unfolding padded
  from-here = from_place xs short k h ∙ append_assoc x zeros rest

  len_is : get_or (map length xs) k 0 ≡ length x
  len_is = map_at length xs k [] 0 h

  -- it is stored at its place
  pub stored_is : stored_at (map length xs) (flat_map padded xs) k ≡ x
  stored_is = ap₂ (λ (i : ℕ) (l : List ℕ). take i l) len_is from-here ∙ take_at x (zeros ++ rest) (length x) refl

  -- and past it is zero
  past-here : take (longest - length x) (drop (longest * k + length x) (flat_map padded xs)) ≡ zeros
  past-here =
      let behind = sym (drop-drop (length x) (longest * k) (flat_map padded xs)) ∙ ap (drop (length x)) from-here ∙ drop-append_seam x (zeros ++ rest) in
      ap (take (longest - length x)) behind
      ∙ take_at zeros rest (longest - length x) (length-replicate {A = ℕ} (longest - length x) 0)

  pub past-zero : AllZero (room_past (map length xs) (flat_map padded xs) k)
  past-zero i =
      let e : room_past (map length xs) (flat_map padded xs) k ≡ zeros =
      ap (λ (m : ℕ). take (longest - m) (drop (longest * k + m) (flat_map padded xs))) len_is ∙ past-here in
      ap (λ (l : List ℕ). get_or l i 0) e ∙ (zero-shelf (longest - length x)).lengths i

-- place by place, these kinds are those of a shelf
abbrev pub Kinds : Bool → List Kind → Type 0
Kinds file kinds = (k : ℕ) → k < length kinds → get_or kinds k Privilege ≡ kind_at file k

each-length : {A : Type 0} (n : ℕ) (f : ℕ → A) → length (each n (λ i. f i ∷ [])) ≡ n
each-length zero f = refl
each-length (suc n) f = omega (arith, each-length n f, length-append (each n (λ i. f i ∷ [])) (f n ∷ []))

each_at : {A : Type 0} (n : ℕ) (f : ℕ → A) (d : A) (k : ℕ) → k < n → get_or (each n (λ i. f i ∷ [])) k d ≡ f k
each_at zero f d k h = absurd (omega arith)
each_at {A} (suc n) f d k h = go (each_at n f d k) (dec_lt k n)
  where
    go : (k < n → get_or (each n (λ i. f i ∷ [])) k d ≡ f k) → Dec (k < n) → get_or (each n (λ i. f i ∷ []) ++ (f n ∷ [])) k d ≡ f k
    go before (yes l) = get_or-append (each n (λ i. f i ∷ [])) (f n ∷ []) d k (omega (arith, each-length n f)) ∙ before l
    go before (no l) =
        let e : k ≡ n = omega arith in
        get_or_at (each n (λ i. f i ∷ [])) (f n) [] d k (each-length n f ∙ sym e) ∙ ap f (sym e)

role-kinds : Kinds false role_kinds
role-kinds k h = each_at role_places (kind_at false) Privilege k (omega arith)

file-kinds : Kinds true file_kinds
file-kinds k h = each_at file_places (kind_at true) Privilege k (omega arith)

pub kinds-are : (file : Bool) → Kinds file (kinds_of file)
kinds-are true = file-kinds
kinds-are false = role-kinds

-- a shelf of expressions in order for their places is fine
module _ (file : Bool) (kinds : List Kind) (are : Kinds file kinds) (n d : ℕ) (xs : Expressions) (w : InPlace kinds n d xs) where
  short-all : Short xs
  short-all k h = (w.in_order k (omega (arith, w.count))).0

  pub made-places : HasPlaces (length kinds) (map length xs) (flat_map padded xs)
  made-places = record {
    lengths = length-map xs length ∙ w.count;
    room = room-length xs short-all ∙ ap (λ (i : ℕ). longest * i) w.count;
  }

  pub made-fine : ShelfFine file n d (map length xs) (flat_map padded xs)
  made-fine k h =
      let l : k < length xs = omega (arith, h, length-map xs length) in
      let i : k < length kinds = omega (arith, w.count) in
      let order = subst₂ (λ (kind : Kind) (y : List ℕ). InOrder kind n d y) (are k i) (sym (stored_is xs short-all k l)) (w.in_order k i) in
      record {
        part = record { short = omega (arith, short-all k l, len_is xs short-all k l); in_order = order };
        past = past-zero xs short-all k l;
      }

-- all roles or all files: those of the policy are used, and the others zero
module _ {X : Type 0} (s : Shelving X) (make : Expressions → X) (none : X)
    (lens-is : (xs : Expressions) → s.lens_of (make xs) ≡ map length xs) (bytes-is : (xs : Expressions) → s.bytes_of (make xs) ≡ flat_map padded xs)
    (none-places : HasPlaces s.places (s.lens_of none) (s.bytes_of none)) (none-zero : ZeroShelf (s.lens_of none) (s.bytes_of none))
    (kinds : List Kind) (are : Kinds s.file kinds) (long : length kinds ≡ s.places) (n d : ℕ) (rows : List Expressions)
    (w : AllInPlace s.most kinds n d rows)
  where
    abbrev all : List X
    all = filled s.most none (map make rows)

    used : (i : ℕ) → i < length rows → get_or all i s.off ≡ make (get_or rows i [])
    used i h = filled_at s.most none (map make rows) i s.off (omega (arith, length-map rows make)) ∙ map_at make rows i [] s.off h

    one-used : (b : Bool) (xs : Expressions) → InPlace kinds n d xs → (b ≡ false → ⊥) → OneIs s b n d (make xs)
    one-used b xs v not-zero = record {
      room = subst₂ (HasPlaces s.places) (sym (lens-is xs)) (sym (bytes-is xs))
          (subst (λ (i : ℕ). HasPlaces i (map length xs) (flat_map padded xs)) long (made-places s.file kinds are n d xs v));
      is = record {
        fine = λ _. subst₂ (ShelfFine s.file n d) (sym (lens-is xs)) (sym (bytes-is xs)) (made-fine s.file kinds are n d xs v);
        zero = λ e. absurd (not-zero e);
      };
    }

    pub all_made : AllAre s (λ i. ltb i (length rows)) n d all
    all_made = record {
      room = length-filled s.most none (map make rows) (omega (arith, w.few, length-map rows make));
      each = λ i h. go i h (dec_lt i (length rows));
    }
      where
        go : (i : ℕ) → i < s.most → Dec (i < length rows) → OneIs s (ltb i (length rows)) n d (get_or all i s.off)
        go i h (yes l) =
            let one = one-used (ltb i (length rows)) (get_or rows i []) (w.each i l) (λ e. omega (arith, ltb-false i (length rows) e)) in
            subst (OneIs s (ltb i (length rows)) n d) (sym (used i l)) one
        go i h (no l) =
            let past = filled-past s.most none (map make rows) i s.off (omega (arith, length-map rows make)) h in
            subst (OneIs s (ltb i (length rows)) n d) (sym past) (record {
              room = none-places;
              is = record { fine = λ e. absurd (omega (arith, ltb-true i (length rows) e)); zero = λ _. none-zero };
            })

-- no slot holds a role
free-slots : (count : ℕ) → SlotsAre count (replicate slot_count (slot_with Free))
free-slots count = record {
  room = length-replicate slot_count (slot_with Free);
  each = λ i h. subst (SlotIs count) (sym (get_or-replicate slot_count i (slot_with Free) 0 h)) (λ r e. absurd (free-held e));
}

role-lens : (xs : Expressions) → (as_role xs).lens ≡ map length xs
unfolding as_role
role-lens xs = refl

role-room : (xs : Expressions) → (as_role xs).bytes ≡ flat_map padded xs
unfolding as_role
role-room xs = refl

file-lens : (xs : Expressions) → (as_file xs).lens ≡ map length xs
unfolding as_file
file-lens xs = refl

file-room : (xs : Expressions) → (as_file xs).bytes ≡ flat_map padded xs
unfolding as_file
file-room xs = refl

-- the state of a policy of version 1
module _ (p : Policy) (f : PolicyFine version1 p) where
  abbrev n : ℕ
  n = p.tree.n

  abbrev d : ℕ
  d = depth_of p.tree

  roles-made : AllAre role_shelves (role_used (state_of p)) n d (filled most_roles no_role (map as_role p.roles))
  roles-made =
      let place = zero-places role_places in
      all_made role_shelves as_role no_role role-lens role-room place (zero-shelf role_places) role_kinds role-kinds refl n d p.roles f.roles

  files-made : AllAre file_shelves (file_used (state_of p)) n d (filled most_files no_file (map as_file p.files))
  files-made =
      let place = zero-places file_places in
      all_made file_shelves as_file no_file file-lens file-room place (zero-shelf file_places) file_kinds file-kinds refl n d p.files f.files

  pub made-well-formed : WellFormed (state_of p)
  made-well-formed = fine-well-formed (state_of p) d (depth_is p.tree f.tree.is-tree) (record {
    tree = f.tree;
    role-count = f.roles.few;
    file-count = f.files.few;
    roles = roles-made;
    files = files-made;
    slots = free-slots (length p.roles);
  })

-- the state that the policy of an image makes
pub state-well-formed : (bytes : List ℕ) (p : Policy) → image.Takes bytes p → WellFormed (state_of p)
state-well-formed bytes p t = made-well-formed p (image-fine bytes p t)
