-- `insert` meets its contract: each byte stands where the byte between leaves it. Assumes nothing.
use mathlib.Core.Path.{◌≡◌, sym, ap, ◌∙◌}
use mathlib.Core.List.{List, ◌∷◌, ◌++◌}
use Prim.Native.Nat.{ℕ, suc, ◌+◌, ◌-◌, ◌<◌}
use native.Mathlib.Decide.{dec_lt}
use native.Mathlib.Omega.{arith}
use lib.ListN.{length, take, get_or, set, length-set, length-append, get_or-append}
use lib.Seq.{get_or-take, get_or-append-add, get_or_at, ext_get_or, length-take-le, get_or-set_same, get_or-set_other}
use borrow.Author.Rules.{rules}
use Rattle.std.specs.List.{CopiedTo, SameBelow}
use Rattle.text.specs.Kept.{HowMany, Kept}
use Rattle.text.specs.declared.made.Made.{Made}
use Rattle.text.proofs.made.Made.insert.Goals as goal

module _ (m : Made) (start x : ℕ) (r : List ℕ) (l : length m.bytes ≡ 48) (same : length r ≡ length m.bytes) (u : m.count < 48)
    (up : CopiedTo m.bytes r start (start + 1) (m.count - start)) (below : SameBelow m.bytes r (start + 1))
    (v w : List ℕ) (at : HowMany start v) (k : Kept m (v ++ w)) where
  all : m.count ≡ length v + length w
  all = omega (arith, k.count, length-append v w)

  seam : start ≡ length v
  seam = omega (arith, all, at)

  old : (j : ℕ) → j < m.count → get_or m.bytes j 0 ≡ get_or (v ++ w) j 0
  old j h = sym (get_or-take m.count m.bytes j 0 h) ∙ ap (λ (z : List ℕ). get_or z j 0) (k.holds (omega arith))

  each : (j : ℕ) → j < m.count + 1 → Dec (j < start) → Dec (start < j) → get_or (set r start x) j 0 ≡ get_or (v ++ (x ∷ w)) j 0
  each j h (yes q) d =
      get_or-set_other r start j x 0 (λ e. omega arith) ∙ below j 0 (omega arith) ∙ old j (omega (arith, seam, all))
      ∙ get_or-append v w 0 j (omega (arith, seam)) ∙ sym (get_or-append v (x ∷ w) 0 j (omega (arith, seam)))
  each j h (no q) (yes p) =
      let t : ℕ = j - 1 - start in
      let e : start + (j - (start + 1)) ≡ length v + t = omega (arith, seam) in
      let g : length v + suc t ≡ j = omega (arith, seam) in
      get_or-set_other r start j x 0 (λ e. omega arith) ∙ up j 0 (omega arith) (omega arith) ∙ old (start + (j - (start + 1))) (omega arith)
      ∙ ap (λ (z : ℕ). get_or (v ++ w) z 0) e ∙ get_or-append-add v w t 0 ∙ sym (get_or-append-add v (x ∷ w) (suc t) 0)
      ∙ ap (λ (z : ℕ). get_or (v ++ (x ∷ w)) z 0) g
  each j h (no q) (no p) =
      let e : j ≡ start = omega arith in
      ap (λ (z : ℕ). get_or (set r start x) z 0) e ∙ get_or-set_same r start x 0 (omega (arith, seam, all))
      ∙ sym (get_or_at v x w 0 j (omega (arith, seam)))

  inserted : (n : ℕ) → n ≡ m.count + 1 → take n (set r start x) ≡ v ++ (x ∷ w)
  inserted n e =
      let c : n ≡ length (v ++ (x ∷ w)) = omega (arith, all, length-append v (x ∷ w)) in
      let d : length (take n (set r start x)) ≡ n = length-take-le n (set r start x) (omega (arith, length-set r start x)) in
      ext_get_or 0 _ _ (d ∙ c)
      (λ j h. let q : j < n = omega arith in get_or-take n (set r start x) j 0 q ∙ each j (omega arith) (dec_lt j start) (dec_lt start j))

pub returns-then-n-lt-LONGEST : goal.returns-then-n-lt-LONGEST
returns-then-n-lt-LONGEST c = λ v w at k.
    let m = c.args.self.now in
    let l : length m.bytes ≡ 48 = search rules in
    let n : c.saturating_add-self.result ≡ m.count + 1 = omega arith in
    let i = c.copy_within.ensures.by_index in
    let h : take c.saturating_add-self.result (set c.copy_within.new.self c.args.start c.args.x) ≡ v ++ (c.args.x ∷ w) =
    inserted m c.args.start c.args.x _ l c.copy_within.ensures.len c.if-n-lt-LONGEST.true i.0 i.1 v w at k _ n in
    record {
      count = omega (arith, k.count, length-append v w, length-append v (c.args.x ∷ w));
      holds = λ _. h;
    }
