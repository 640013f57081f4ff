-- What comes of the stated bytes of an expression, by what their scan finds; and what is known of them where they are read. Assumes nothing.
use mathlib.Core.Path.{◌≡◌, refl, sym, ap, ◌∙◌, subst}
use mathlib.Core.List.{List}
use mathlib.Core.Logic.{◌⊎◌, inl, inr}
use Prim.Native.Nat.{ℕ, suc, ◌+◌, ◌-◌, ◌<◌, ◌≤◌}
use native.Mathlib.Omega.{arith}
use lib.ListN.{length, take, drop, length-append, length-drop}
use lib.Seq.{take_at, take_all, length-take-le}
use Rattle.answer.specs.Numbers.{ends_early, expression_wrong}
use Rattle.answer.specs.Faults.{FaultAt}
use Rattle.expression.specs.declared.Kind.{Kind}
use Rattle.expression.specs.Bytes.{Right}
use Rattle.expression.specs.Total.{judged}
use Rattle.order.specs.declared.Scanned.{Scanned}
use Rattle.order.specs.declared.Scanned.TheVariants.{Whole, Short, Fault}
use Rattle.order.specs.Order.{Finds}
use Rattle.std.specs.declared.result.Result.TheVariants.{Ok}
use Rattle.fields.specs.Reading.{Met, read_to, refused_at, Comes, Reads, ReadsSome}
use Rattle.fields.specs.Readings.{reads_at, reads-from, legal-there, fault-there, fault-so-far, none_so_far}
use Rattle.image.specs.Image.{no_expression, stated}

module _ (kind : Kind) (n d m : ℕ) (some : 0 < n) (bs : List ℕ) (at : ℕ) where
  abbrev Legal : List ℕ → Type 0
  Legal = Right kind (suc (n - 1)) d

  abbrev judge : (l : List ℕ) → Legal l ⊎ ((k : ℕ) × FaultAt Legal l k)
  judge = judged kind (suc (n - 1)) d (omega arith)

  -- it comes out so
  comes : (o : Met (List ℕ)) → Comes (stated kind (n - 1) d m) bs at o → Reads (stated kind (n - 1) d m) bs (Ok at) o
  comes o w = reads_at (stated kind (n - 1) d m) bs o refl (λ _. w)

  -- the scan of l, over one securon more than there are parents
  scanned : {l x : List ℕ} {found f : Scanned} → l ≡ x → found ≡ f → Finds kind n d l found → Finds kind (suc (n - 1)) d x f
  scanned {l} {x} {found} {f} p q w =
      let e : n ≡ suc (n - 1) = omega arith in
      subst (λ (y : List ℕ). Finds kind (suc (n - 1)) d y f) p (subst (Finds kind (suc (n - 1)) d l) q (subst (λ (i : ℕ). Finds kind i d l found) e w))

  -- they are all there
  module _ (h : at + m ≤ length bs) where
    abbrev FindsAll : Scanned → Type 0
    FindsAll = Finds kind n d (take (at + m - at) (drop at bs))

    all-part : take (at + m - at) (drop at bs) ≡ take m (drop at bs)
    all-part = let e : at + m - at ≡ m = omega arith in ap (λ (i : ℕ). take i (drop at bs)) e

    all-length : length (take m (drop at bs)) ≡ m
    all-length = length-take-le m (drop at bs) (omega (arith, length-drop at bs))

    pub all_whole : {found : Scanned} → found ≡ Whole → FindsAll found → ReadsSome (stated kind (n - 1) d m) bs (Ok at) (Ok (at + m))
    all_whole e w = (take m (drop at bs), comes _ (legal-there m Legal judge no_expression bs at h (scanned all-part e w)))

    pub all_short : {found : Scanned} → found ≡ Short → FindsAll found → ReadsSome (stated kind (n - 1) d m) bs (Ok at) (refused_at expression_wrong (at + m))
    all_short e w =
        let end = subst (FaultAt Legal (take m (drop at bs))) all-length (scanned all-part e w) in
        comes _ (fault-there m Legal judge no_expression bs at m h end)

    pub all-fault : {found : Scanned} {k : ℕ} → found ≡ Fault k → FindsAll found
        → (k < m) × ReadsSome (stated kind (n - 1) d m) bs (Ok at) (refused_at expression_wrong (at + k))
    all-fault {k = k} e w =
        let (l, f) = scanned {x = take m (drop at bs)} {f = Fault k} all-part e w in
        (omega (arith, l, all-length), comes _ (fault-there m Legal judge no_expression bs at k h f))

  -- the image ends before the stated end
  module _ (h : at ≤ length bs) (l : length bs < at + m) where
    abbrev FindsCut : Scanned → Type 0
    FindsCut = Finds kind n d (take (length bs - at) (drop at bs))

    cut-part : take (length bs - at) (drop at bs) ≡ drop at bs
    cut-part = take_all (length bs - at) (drop at bs) (omega (arith, length-drop at bs))

    pub cut-whole : {found : Scanned} → found ≡ Whole → FindsCut found → ReadsSome (stated kind (n - 1) d m) bs (Ok at) (refused_at ends_early (length bs))
    cut-whole e w = comes _ (none_so_far m Legal judge no_expression bs at h l (inl (scanned cut-part e w)))

    pub cut_short : {found : Scanned} → found ≡ Short → FindsCut found → ReadsSome (stated kind (n - 1) d m) bs (Ok at) (refused_at ends_early (length bs))
    cut_short e w = comes _ (none_so_far m Legal judge no_expression bs at h l (inr (scanned cut-part e w)))

    pub cut-fault : {found : Scanned} {k : ℕ} → found ≡ Fault k → FindsCut found
        → (at + k < length bs) × ReadsSome (stated kind (n - 1) d m) bs (Ok at) (refused_at expression_wrong (at + k))
    cut-fault {k = k} e w =
        let (i, f) = scanned {x = drop at bs} {f = Fault k} cut-part e w in
        (omega (arith, i, length-drop at bs), comes _ (fault-so-far m Legal judge no_expression bs at k h l i f))

-- stated bytes that are read: where they stand, and that they are the value
pub record Found (m : ℕ) (bs : List ℕ) (at end : ℕ) (v : List ℕ) : Type 0 where
  pub start : at ≤ end
  pub within : end ≤ length bs
  pub long : length v ≡ m
  pub is : take (end - at) (drop at bs) ≡ v

pub stated-found : (kind : Kind) (parents d m : ℕ) (bs : List ℕ) (at : ℕ) {end : ℕ} → at ≤ length bs
    → (w : ReadsSome (stated kind parents d m) bs (Ok at) (Ok end)) → Found m bs at end w.0
stated-found kind parents d m bs at {end} h w =
    let (x, r, p, (l, _, q), i) = reads-from (stated kind parents d m) bs at {o = read_to w.0 end} refl w.1 h in
    record {
      start = omega (arith, i);
      within = omega (arith, i, ap length p, length-append x r, length-drop at bs);
      long = ap length (sym q) ∙ l;
      is = ap (take (end - at)) p ∙ take_at x r (end - at) (omega (arith, i)) ∙ q;
    }
