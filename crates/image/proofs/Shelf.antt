-- A shelf holds expressions: what is put at a place joins those that it holds; how they are read, place after place. Assumes nothing.
use mathlib.Core.Path.{◌≡◌, refl, sym, ap, ap₂, ◌∙◌, subst, subst₂}
use mathlib.Core.Bool.{Bool}
use mathlib.Core.List.{List, [], ◌∷◌, ◌++◌, map, flat_map, append_assoc}
use Prim.Native.Nat.{ℕ, zero, suc, ◌+◌, ◌*◌, ◌-◌, ◌<◌, ◌≤◌}
use native.Mathlib.Decide.{ℕ_discrete}
use native.Mathlib.Numerals.{add-one}
use native.Mathlib.Omega.{arith}
use lib.ListN.{length, take, drop, get_or, set, replicate, length-map, length-set, length-replicate, get_or-replicate, replicate-append-replicate}
use lib.Seq.{take_all, take-suc-set, take-append-add, drop-append-add, get_or-set_same, get_or-set_other}
use Rattle.answer.specs.Numbers.{expression_wrong}
use Rattle.expression.specs.declared.Kind.{Kind}
use Rattle.expression.specs.declared.Kind.TheVariants.{Privilege}
use Rattle.expression.specs.Bytes.{longest}
use Rattle.policy.specs.declared.Role.{Role}
use Rattle.policy.specs.declared.File.{File}
use Rattle.shelf.specs.Shelf.{padded, put_bytes, PutAt}
use Rattle.shelf.specs.Fine.{kind_at}
use Rattle.shelf.specs.Laws.{length-padded}
use Rattle.std.specs.Prelude.{Result}
use Rattle.std.specs.declared.result.Result.TheVariants.{Ok, Err}
use Rattle.fields.specs.declared.Read.{Read}
use Rattle.fields.specs.declared.Refused.{Refused}
use Rattle.fields.specs.Format.{Format}
use Rattle.fields.specs.Combine.{times}
use Rattle.fields.specs.Parts.{between, byte}
use Rattle.fields.specs.Reading.{Met, read_to, Reads, ReadsSome, NumberRead}
use Rattle.fields.specs.Readings.{reads-give, reads_then, then-refused, reads_more, times-refused}
use Rattle.image.specs.Image.{Expressions, no_expression, stated, expression, shelf}
use Rattle.image.specs.Reading.{ReadsAs, Short, Holds, Stocked, PutRead, kinds_of, ShelfRead}
use Rattle.image.specs.Load.{as_role, as_file}
use Rattle.image.specs.Made.{room-length, kinds-are}
use Rattle.image.proofs.Stated.{Found, stated-found}

-- x put at place k of a shelf that holds xs
map-set : (xs : Expressions) (k : ℕ) (x : List ℕ) → set (map length xs) k (length x) ≡ map length (set xs k x)
map-set [] k x = refl
map-set (y ∷ xs) zero x = refl
map-set (y ∷ xs) (suc k) x = ap (λ (l : List ℕ). length y ∷ l) (map-set xs k x)

put-set : (xs : Expressions) → Short xs → (k : ℕ) → k < length xs → (x : List ℕ) → put_bytes (flat_map padded xs) k x ≡ flat_map padded (set xs k x)
unfolding flat_map put_bytes
put-set [] short k h x = absurd (omega arith)
put-set (y ∷ xs) short zero h x =
    let l = length-padded y (short 0 (omega arith)) in
    let e : longest * 0 + longest ≡ length (padded y) + 0 = omega (arith, l) in
    ap (λ (i : ℕ). padded x ++ drop i (padded y ++ flat_map padded xs)) e
    ∙ ap (λ (r : List ℕ). padded x ++ r) (drop-append-add (padded y) (flat_map padded xs) 0)
put-set (y ∷ xs) short (suc k) h x =
    let l = length-padded y (short 0 (omega arith)) in
    let rest = flat_map padded xs in
    let front : longest * suc k ≡ length (padded y) + longest * k = omega (arith, l) in
    let back : longest * suc k + longest ≡ length (padded y) + (longest * k + longest) = omega (arith, l) in
    let head = ap (λ (i : ℕ). take i (padded y ++ rest)) front ∙ take-append-add (padded y) rest (longest * k) in
    let tail = ap (λ (i : ℕ). drop i (padded y ++ rest)) back ∙ drop-append-add (padded y) rest (longest * k + longest) in
    ap₂ (λ (a b : List ℕ). (a ++ padded x) ++ b) head tail
    ∙ ap (λ (a : List ℕ). a ++ drop (longest * k + longest) rest) (append_assoc (padded y) (take (longest * k) rest) (padded x))
    ∙ append_assoc (padded y) (take (longest * k) rest ++ padded x) (drop (longest * k + longest) rest)
    ∙ ap (λ (r : List ℕ). padded y ++ r) (put-set xs (λ i j. short (suc i) (omega arith)) k (omega arith) x)

module _ {xs : Expressions} {lens bytes : List ℕ} (holds : Holds xs lens bytes) where
  -- the room of such a shelf
  pub holds-lengths : length lens ≡ length xs
  holds-lengths = ap length holds.lengths ∙ length-map xs length

  pub holds-room : length bytes ≡ longest * length xs
  holds-room = ap length holds.room ∙ room-length xs holds.short

  pub holds-put : (k : ℕ) → k < length xs → (x : List ℕ) → length x ≤ longest → {lens' bytes' : List ℕ} → PutAt lens bytes k x lens' bytes'
      → Holds (set xs k x) lens' bytes'
  holds-put k h x few w = record {
    short = λ j l. go j l (ℕ_discrete j k);
    lengths = w.lengths ∙ ap (λ (l : List ℕ). set l k (length x)) holds.lengths ∙ map-set xs k x;
    room = w.stored ∙ ap (λ (b : List ℕ). put_bytes b k x) holds.room ∙ put-set xs holds.short k h x;
  }
    where
      go : (j : ℕ) → j < length (set xs k x) → Dec (j ≡ k) → length (get_or (set xs k x) j []) ≤ longest
      go j l (yes e) =
          let same : get_or (set xs k x) j [] ≡ x = ap (λ (i : ℕ). get_or (set xs k x) i []) e ∙ get_or-set_same xs k x [] h in
          omega (arith, few, ap length same)
      go j l (no n) = omega (arith, ap length (get_or-set_other xs k j x [] n), holds.short j (omega (arith, length-set xs k x)))

pub stocked-room : {places : ℕ} {lens bytes : List ℕ} → Stocked places lens bytes → length bytes ≡ longest * places
stocked-room s = holds-room s.holds ∙ ap (λ (i : ℕ). longest * i) s.count

-- a shelf of zeros holds expressions of length 0
zero-lengths : (places : ℕ) → ◌≡◌ {A = List ℕ} (replicate places 0) (map length (replicate {A = List ℕ} places []))
zero-lengths zero = refl
zero-lengths (suc k) = ap (λ (l : List ℕ). 0 ∷ l) (zero-lengths k)

zero_room : (places : ℕ) → ◌≡◌ {A = List ℕ} (replicate (longest * places) 0) (flat_map padded (replicate {A = List ℕ} places []))
unfolding flat_map padded
zero_room zero = refl
zero_room (suc k) =
    let e : longest * suc k ≡ longest + longest * k = omega arith in
    ap (λ (i : ℕ). replicate i 0) e
    ∙ sym (replicate-append-replicate {A = ℕ} longest (longest * k) 0)
    ∙ ap (λ (l : List ℕ). replicate longest 0 ++ l) (zero_room k)

pub stocked-none : (places : ℕ) → Stocked places (replicate places 0) (replicate (longest * places) 0)
stocked-none places =
    let long : length (replicate {A = List ℕ} places []) ≡ places = length-replicate {A = List ℕ} places [] in
    record {
      all = replicate {A = List ℕ} places [];
      count = long;
      holds = record {
        short = λ k h. omega (arith, ap length (get_or-replicate {A = List ℕ} places k [] [] (omega (arith, long))));
        lengths = zero-lengths places;
        room = zero_room places;
      };
    }

-- an expression with its length byte: where either is refused nothing is stored, else it is stored
module _ (kind : Kind) (n d : ℕ) (bs : List ℕ) {from : Result ℕ Refused} where
  pub part-led : {e : Refused} → NumberRead byte bs from 0 longest expression_wrong (Err e) → (k : ℕ) {lens bytes : List ℕ}
      → PutRead kind n d bs from k lens bytes lens bytes (Err e)
  unfolding expression
  part-led {e} lead k =
      (then-refused (byte (between 0 longest) no_expression) (stated kind (n - 1) d) bs from e (lead.reads no_expression.listed), refl, refl)

  module _ {r : Read ℕ} (lead : NumberRead byte bs from 0 longest expression_wrong (Ok r)) where
    abbrev Rest : Format (List ℕ)
    Rest = stated kind (n - 1) d r.value

    led : (o : Met (List ℕ)) → Reads Rest bs (Ok r.next) o → Reads (expression kind (n - 1) d) bs from o
    unfolding expression
    led o f =
        reads_then (byte (between 0 longest) no_expression) (stated kind (n - 1) d) bs from r.value r.next o (lead.reads no_expression.listed) f

    pub part-refused : (e : Refused) → ReadsSome Rest bs (Ok r.next) (Err e) → (k : ℕ) {lens bytes : List ℕ}
        → PutRead kind n d bs from k lens bytes lens bytes (Err e)
    part-refused e w k = (led (Err e) w, refl, refl)

    -- the bytes of the expression
    pub part-found : (end : ℕ) (w : ReadsSome Rest bs (Ok r.next) (Ok end)) → Found r.value bs r.next end w.0
    part-found end w = stated-found kind (n - 1) d r.value bs r.next {end = end} lead.in_range.2 w

    pub part-stored : (k end : ℕ) → ReadsSome Rest bs (Ok r.next) (Ok end) → {lens bytes lens' bytes' : List ℕ}
        → PutAt lens bytes k (take (end - r.next) (drop r.next bs)) lens' bytes' → PutRead kind n d bs from k lens bytes lens' bytes' (Ok end)
    part-stored k end w {lens} {bytes} {lens'} {bytes'} put xs holds h =
        let found = part-found end w in
        let v = w.0 in
        let stored = subst (λ (x : List ℕ). PutAt lens bytes k x lens' bytes') found.is put in
        (v, led (read_to v end) w.1, holds-put holds k h v (omega (arith, found.long, lead.in_range.1)) stored)

-- the places passed: the shelf has its room, and what it holds there is what was read
pub record Passed (file : Bool) (n d : ℕ) (bs : List ℕ) (from : Result ℕ Refused) (k : ℕ) (lens bytes : List ℕ) (next : ℕ) : Type 0 where
  pub stock : Stocked (length (kinds_of file)) lens bytes
  pub reads : Reads (times k (λ i. expression (get_or (kinds_of file) i Privilege) (n - 1) d)) bs from (read_to (take k stock.all) next)

module _ (file : Bool) (n d : ℕ) (bs : List ℕ) where
  abbrev each : ℕ → Format (List ℕ)
  each i = expression (get_or (kinds_of file) i Privilege) (n - 1) d

  pub passed_none : {at : ℕ} {lens bytes : List ℕ} → Stocked (length (kinds_of file)) lens bytes → Passed file n d bs (Ok at) 0 lens bytes at
  passed_none {at} s = record { stock = s; reads = reads-give [] bs at }

  module _ {from : Result ℕ Refused} {k : ℕ} {lens bytes : List ℕ} {next : ℕ} (p : Passed file n d bs from k lens bytes next) where
    -- the room of the shelf
    pub passed-lengths : length lens ≡ length (kinds_of file)
    passed-lengths = holds-lengths p.stock.holds ∙ p.stock.count

    pub passed-room : length bytes ≡ longest * length (kinds_of file)
    passed-room = stocked-room p.stock

    module _ (h : k < length (kinds_of file)) {kind : Kind} (e : kind ≡ kind_at file k) where
      of-kind : (o : Met (List ℕ)) → Reads (expression kind (n - 1) d) bs (Ok next) o → Reads (each k) bs (Ok next) o
      of-kind o f = subst (λ (q : Kind). Reads (expression q (n - 1) d) bs (Ok next) o) (e ∙ sym (kinds-are file k h)) f

      -- one place more, or its refusal
      pub passed-more : {lens' bytes' : List ℕ} (next' : ℕ) → PutRead kind n d bs (Ok next) k lens bytes lens' bytes' (Ok next')
          → Passed file n d bs from (k + 1) lens' bytes' next'
      passed-more next' part =
          let xs = p.stock.all in
          let l : k < length xs = omega (arith, p.stock.count) in
          let (v, f, holds) = part xs p.stock.holds l in
          let one = of-kind (read_to v next') f in
          let all : take k xs ++ (v ∷ []) ≡ take (k + 1) (set xs k v) = sym (ap (λ (i : ℕ). take i (set xs k v)) (add-one k) ∙ take-suc-set xs k v l) in
          record {
            stock = record { all = set xs k v; count = length-set xs k v ∙ p.stock.count; holds = holds };
            reads = subst (λ (vs : Expressions). Reads (times (k + 1) each) bs from (read_to vs next')) all
                (reads_more each bs from k (take k xs) next v next' p.reads one);
          }

      pub passed-refused : {lens' bytes' : List ℕ} (r : Refused) → PutRead kind n d bs (Ok next) k lens bytes lens' bytes' (Err r)
          → ShelfRead (shelf (kinds_of file) (n - 1) d) bs from lens' bytes' (Err r)
      unfolding shelf
      passed-refused r (f, l, b) =
          let xs = p.stock.all in
          let holds = subst₂ (Holds xs) (sym l) (sym b) p.stock.holds in
          (times-refused each bs from k (length (kinds_of file)) (take k xs) next r h p.reads (of-kind (Err r) f), (xs, holds))

    pub passed-all : k ≡ length (kinds_of file) → ShelfRead (shelf (kinds_of file) (n - 1) d) bs from lens bytes (Ok next)
    unfolding shelf
    passed-all e =
        let xs = p.stock.all in
        let all : take k xs ≡ xs = take_all k xs (omega (arith, p.stock.count)) in
        let read = subst (λ (vs : Expressions). Reads (times k each) bs from (read_to vs next)) all p.reads in
        (xs, subst (λ (i : ℕ). Reads (times i each) bs from (read_to xs next)) e read, p.stock.holds)

-- a role and a file are such shelves
module _ (F : Format Expressions) (bs : List ℕ) (from : Result ℕ Refused) (next : ℕ) {lens bytes : List ℕ} where
  pub role-read : ShelfRead F bs from lens bytes (Ok next) → ReadsAs F as_role bs from (read_to (record { lens = lens; bytes = bytes }) next)
  unfolding as_role
  role-read (xs, f, holds) = (xs, f, ap₂ {C = Role} (λ (l b : List ℕ). record { lens = l; bytes = b }) holds.lengths holds.room)

  pub file-read : ShelfRead F bs from lens bytes (Ok next) → ReadsAs F as_file bs from (read_to (record { lens = lens; bytes = bytes }) next)
  unfolding as_file
  file-read (xs, f, holds) = (xs, f, ap₂ {C = File} (λ (l b : List ℕ). record { lens = l; bytes = b }) holds.lengths holds.room)
