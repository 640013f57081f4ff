-- The parents, and the roles or files, one after another: what was read fills the room from its front. Assumes nothing.
use mathlib.Core.Path.{◌≡◌, refl, sym, ap, ap₂, ◌∙◌, subst}
use mathlib.Core.List.{List, [], ◌∷◌, ◌++◌, map, map-append, append-nil}
use mathlib.Core.Logic.{◌↔◌}
use Prim.Native.Nat.{ℕ, suc, ◌+◌, ◌-◌, ◌<◌, ◌≤◌}
use native.Mathlib.Decide.{dec_lt}
use native.Mathlib.Omega.{arith}
use lib.ListN.{length, take, drop, get_or, set, replicate, length-append, length-map, length-replicate, get_or-append, replicate-append-replicate}
use lib.Seq.{get_or_at, take_at, drop-append_seam}
use Rattle.std.specs.Prelude.{Result}
use Rattle.std.specs.declared.result.Result.TheVariants.{Ok, Err}
use Rattle.answer.specs.Numbers.{parent_wrong}
use Rattle.securon.specs.Sets.{set_room}
use Rattle.tree.specs.declared.Tree.{Tree}
use Rattle.tree.specs.Tree.{InRange, IsTree}
use Rattle.fields.specs.declared.Read.{Read}
use Rattle.fields.specs.declared.Refused.{Refused}
use Rattle.fields.specs.Format.{Format}
use Rattle.fields.specs.Combine.{times}
use Rattle.fields.specs.Parts.{between, below, byte}
use Rattle.fields.specs.Reading.{Met, read_to, Reads, NumberRead}
use Rattle.fields.specs.Readings.{byte-as, reads-give, reads_more, times-refused}
use Rattle.image.specs.Image.{Expressions, no_parent, parent_bytes, filled, tree_of}
use Rattle.image.specs.Reading.{ReadsAs, TreeMade, TreeRead, RowsMade}
use Rattle.image.specs.Filled.{filled_more}
use Rattle.image.specs.Taken.{tree-fine}

-- of so many that are all the same, those at the front and those behind
module _ {A : Type 0} (m n : ℕ) (x : A) (h : m ≤ n) where
  same-seam : replicate n x ≡ replicate m x ++ replicate (n - m) x
  same-seam = let e : n ≡ m + (n - m) = omega arith in ap (λ (i : ℕ). replicate i x) e ∙ sym (replicate-append-replicate m (n - m) x)

  same-front : take m (replicate n x) ≡ replicate m x
  same-front = ap (take m) same-seam ∙ take_at (replicate m x) (replicate (n - m) x) m (length-replicate m x)

  same-behind : drop m (replicate n x) ≡ replicate (n - m) x
  same-behind =
      let l : m ≡ length (replicate m x) = sym (length-replicate m x) in
      ap (drop m) same-seam ∙ ap (λ (i : ℕ). drop i (replicate m x ++ replicate (n - m) x)) l ∙ drop-append_seam (replicate m x) (replicate (n - m) x)

-- room that is full, before what else there is
filled-full : {A : Type 0} (m n : ℕ) (x : A) (xs : List A) → length xs ≡ m → m ≤ n → filled m x xs ++ drop m (replicate n x) ≡ filled n x xs
filled-full m n x xs l h =
    let none : m - length xs ≡ 0 = omega arith in
    let rest : n - m ≡ n - length xs = omega arith in
    ap₂ (λ (k : ℕ) (r : List _). (xs ++ replicate k x) ++ r) none (same-behind m n x h ∙ ap (λ (k : ℕ). replicate k x) rest)
    ∙ ap (λ (r : List _). r ++ replicate (n - length xs) x) (append-nil xs)

-- the parents of the first k securons behind the root, each smaller than its securon
pub record Grows (n : ℕ) (bs : List ℕ) (from : Result ℕ Refused) (k : ℕ) (ups : List ℕ) (next : ℕ) : Type 0 where
  pub ps : List ℕ
  pub count : length ps ≡ k
  pub smaller : (i : ℕ) → i < length ps → get_or ps i 0 < i + 1
  pub reads : Reads (parent_bytes k) bs from (read_to ps next)
  pub is : ups ≡ filled (n - 1) 0 ps

module _ (n : ℕ) (bs : List ℕ) where
  pub grows_none : InRange n → {at : ℕ} → Grows n bs (Ok at) 0 (take (n - 1) (replicate (set_room - 1) 0)) at
  unfolding parent_bytes
  grows_none range {at} = record {
    ps = [];
    count = refl;
    smaller = λ i h. absurd (omega arith);
    reads = reads-give [] bs at;
    is = let e : n - 1 ≡ n - 1 - 0 = omega arith in same-front (n - 1) (set_room - 1) 0 (omega (arith, range.1)) ∙ ap (λ (k : ℕ). replicate k 0) e;
  }

  pub grows-room : InRange n → length {A = ℕ} (take (n - 1) (replicate (set_room - 1) 0)) ≡ n - 1
  grows-room range = ap (length {A = ℕ}) (same-front (n - 1) (set_room - 1) 0 (omega (arith, range.1))) ∙ length-replicate {A = ℕ} (n - 1) 0

  module _ {from : Result ℕ Refused} {k : ℕ} {ups : List ℕ} {next : ℕ} (g : Grows n bs from k ups next) where
    abbrev each : ℕ → Format ℕ
    each i = byte (below (i + 1)) no_parent

    one : (o : Met ℕ) → NumberRead byte bs (Ok next) 0 k parent_wrong o → Reads (each k) bs (Ok next) o
    one o w =
        let same : (x : ℕ) → (between 0 k).holds x ↔ (below (k + 1)).holds x =
        λ x. ((λ i. omega (arith, i.1)), λ i. (omega arith, omega (arith, i))) in
        byte-as (between 0 k) (below (k + 1)) same no_parent bs (Ok next) o (w.reads no_parent.listed)

    pub grows-more : k < n - 1 → {r : Read ℕ} → NumberRead byte bs (Ok next) 0 k parent_wrong (Ok r)
        → Grows n bs from (k + 1) (set ups k r.value) r.next
    unfolding parent_bytes
    grows-more h {r} w =
        let v = r.value in
        let long = length-append g.ps (v ∷ []) in
        record {
          ps = g.ps ++ (v ∷ []);
          count = omega (arith, g.count, long);
          smaller = λ i l. go i (omega (arith, l, long)) (dec_lt i (length g.ps));
          reads = reads_more each bs from k g.ps next v r.next g.reads (one (Ok r) w);
          is = ap (λ (l : List ℕ). set l k v) g.is ∙ filled_more (n - 1) 0 g.ps k v g.count h;
        }
      where
        go : (i : ℕ) → i < length g.ps + 1 → Dec (i < length g.ps) → get_or (g.ps ++ (r.value ∷ [])) i 0 < i + 1
        go i l (yes b) = omega (arith, get_or-append g.ps (r.value ∷ []) 0 i b, g.smaller i b)
        go i l (no b) = omega (arith, get_or_at g.ps r.value [] 0 i (omega arith), w.in_range.1, g.count)

    pub grows-refused : k < n - 1 → {e : Refused} → NumberRead byte bs (Ok next) 0 k parent_wrong (Err e) → TreeRead n bs from (Err e)
    unfolding parent_bytes
    grows-refused h {e} w = times-refused each bs from k (n - 1) g.ps next e h g.reads (one (Err e) w)

    pub grows-tree : InRange n → k ≡ n - 1
        → TreeMade n bs from (record { n = n; parent = 0 ∷ (ups ++ drop (n - 1) (replicate (set_room - 1) 0)) }) next
    unfolding tree_of
    grows-tree range all =
        let full = filled-full (n - 1) (set_room - 1) 0 g.ps (g.count ∙ all) (omega (arith, range.1)) in
        let room : set_room - 1 - length g.ps ≡ set_room - suc (length g.ps) = omega arith in
        let parent : 0 ∷ (ups ++ drop (n - 1) (replicate (set_room - 1) 0)) ≡ filled set_room 0 (0 ∷ g.ps) =
        ap (λ (l : List ℕ). 0 ∷ (l ++ drop (n - 1) (replicate (set_room - 1) 0))) g.is
        ∙ ap (λ (l : List ℕ). 0 ∷ l) full
        ∙ ap (λ (i : ℕ). 0 ∷ (g.ps ++ replicate i 0)) room in
        let n-is : n ≡ suc (length g.ps) = omega (arith, g.count, all, range.0) in
        let is : ◌≡◌ {A = Tree} (record { n = n; parent = 0 ∷ (ups ++ drop (n - 1) (replicate (set_room - 1) 0)) }) (tree_of g.ps) =
        ap₂ (λ (i : ℕ) (l : List ℕ). record { n = i; parent = l }) n-is parent in
        record {
          parents = g.ps;
          reads = subst (λ (i : ℕ). Reads (parent_bytes i) bs from (read_to g.ps next)) all g.reads;
          is = is;
          count = g.count ∙ all;
          grown = subst IsTree (sym is) (tree-fine g.ps (omega (arith, n-is, range.1)) g.smaller).is-tree;
        }

-- roles or files
module _ {X : Type 0} (make : Expressions → X) (none : X) (most : ℕ) (F : Format Expressions) (bs : List ℕ) where
  pub rows_none : {at : ℕ} → RowsMade make none most F 0 bs (Ok at) (replicate most none) at
  rows_none {at} = record {
    rows = [];
    reads = reads-give [] bs at;
    is = let e : most ≡ most - 0 = omega arith in ap (λ (k : ℕ). replicate k none) e;
    many = refl;
  }

  -- rows of zero, of which so many are read
  pub rows-begin : {at : ℕ} {room : List X} → room ≡ replicate (length room) none → most ≤ length room
      → (length (take most room) ≡ most) × RowsMade make none most F 0 bs (Ok at) (take most room) at
  rows-begin {at} {room} zero fits =
      let front = ap (take most) zero ∙ same-front most (length room) none fits in (
        ap length front ∙ length-replicate most none,
        subst (λ (all : List X). RowsMade make none most F 0 bs (Ok at) all at) (sym front) rows_none,
      )

  module _ {from : Result ℕ Refused} {i : ℕ} {all : List X} {next : ℕ} (p : RowsMade make none most F i bs from all next) where
    pub rows_more : i < most → {r : Read X} → ReadsAs F make bs (Ok next) (Ok r)
        → RowsMade make none most F (i + 1) bs from (set all i r.value) r.next
    rows_more h {r} (xs, f, is) =
        let rows = p.rows in
        let one = filled_more most none (map make rows) i r.value (length-map rows make ∙ p.many) h in
        let joined : map make rows ++ (r.value ∷ []) ≡ map make (rows ++ (xs ∷ [])) =
        ap (λ (y : X). map make rows ++ (y ∷ [])) is ∙ sym (map-append make rows (xs ∷ [])) in
        record {
          rows = rows ++ (xs ∷ []);
          reads = reads_more (λ k. F) bs from i rows next xs r.next p.reads f;
          is = ap (λ (l : List X). set l i r.value) p.is ∙ one ∙ ap (filled most none) joined;
          many = omega (arith, p.many, length-append rows (xs ∷ []));
        }

    pub rows-refused : i < most → (e : Refused) → ReadsAs F make bs (Ok next) (Err e) → Reads (times most (λ k. F)) bs from (Err e)
    rows-refused h e f = times-refused (λ k. F) bs from i most p.rows next e h p.reads f

    -- all of them, at the front of the room
    pub rows_all : i ≡ most → {room : List X} → room ≡ replicate (length room) none → most ≤ length room
        → RowsMade make none (length room) F most bs from (all ++ drop most room) next
    rows_all count {room} zero fits =
        let long = length-map p.rows make ∙ p.many ∙ count in
        record {
          rows = p.rows;
          reads = subst (λ (k : ℕ). Reads (times k (λ k. F)) bs from (read_to p.rows next)) count p.reads;
          is = ap₂ (λ (l r : List X). l ++ drop most r) p.is zero ∙ filled-full most (length room) none (map make p.rows) long fits;
          many = p.many ∙ count;
        }
