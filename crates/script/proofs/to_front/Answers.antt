-- `script::to_front` meets its contract: the part is the same with both ends clipped. Assumes nothing.
use mathlib.Core.Path.{◌≡◌, sym, ap, ap₂, ◌∙◌}
use mathlib.Core.List.{List, ◌++◌}
use Prim.Native.Nat.{ℕ, ◌+◌, ◌-◌, ◌≤◌, min}
use native.Mathlib.Decide.{dec_le}
use native.Mathlib.Omega.{arith}
use lib.ListN.{length, take, drop, length-take, drop_of_length-le}
use lib.Seq.{slice, length-slice, take_all}
use Rattle.std.proofs.lemmas.List.{drop-take}
use Rattle.script.proofs.to_front.Goals as goal

clipped : (l : List ℕ) (at n : ℕ) → slice (min at (min n (length l))) (min n (length l)) l ≡ slice at n l
clipped l at n =
    ap (drop (min at (min n (length l)))) same ∙ go (dec_le at (min n (length l)))
  where
    same : take (min n (length l)) l ≡ take n l
    same = front (dec_le n (length l))
      where
        front : Dec (n ≤ length l) → take (min n (length l)) l ≡ take n l
        front (yes h) = let e : min n (length l) ≡ n = omega arith in ap (λ (k : ℕ). take k l) e
        front (no h) = take_all (min n (length l)) l (omega arith) ∙ sym (take_all n l (omega arith))

    go : Dec (at ≤ min n (length l)) → drop (min at (min n (length l))) (take n l) ≡ drop at (take n l)
    go (yes h) = let e : min at (min n (length l)) ≡ at = omega arith in ap (λ (k : ℕ). drop k (take n l)) e
    go (no h) =
        let t = length-take n l in
        drop_of_length-le (take n l) {i = min at (min n (length l))} (omega arith) ∙ sym (drop_of_length-le (take n l) {i = at} (omega arith))

pub returns : goal.returns
returns c =
    let l = c.args.window.now in
    let end = c.min-end.result in
    let from = c.min-from.result in
    let to = c.min-end.ensures in
    let same = ap₂ (λ (f e : ℕ). slice f e l) (c.min-from.ensures ∙ ap (min c.args.at) to) to ∙ clipped l c.args.at c.args.n in
    let all : from + (end - from) ≡ end = omega (arith, c.min-from.ensures) in
    let moved : take (end - from) (drop from l) ≡ slice from end l =
    sym (drop-take from (end - from) l) ∙ ap (λ (k : ℕ). drop from (take k l)) all in
    let none : 0 + (end - from) ≡ end - from = omega arith in
    let long = length-slice from end l (omega (arith, to)) in
    record {
      count = sym long ∙ ap length same;
      is =
          c.copy_within.ensures.after ∙ ap (λ (k : ℕ). take (end - from) (drop from l) ++ drop k l) none
          ∙ ap (λ (p : List ℕ). p ++ drop (end - from) l) (moved ∙ same);
    }
