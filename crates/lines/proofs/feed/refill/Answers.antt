-- `refill` fills the window behind what it holds with the bytes that come next, and ends: each turn but the last reads some bytes. The measure is the room
-- that is left. Assumes nothing.
use Rattle.std.proofs.Common.{◌≡◌, ℕ, ◌+◌, ◌≤◌, List, ◌++◌, length, take, drop, sym, ap, ◌∙◌, subst, arith, rules}
use lib.Seq.{length-take-le, take-append-add, take-append-le}
use borrow.Rule.Slice.PartMut.{put_mid, post_of}
use Rattle.std.proofs.KnownBytes.{Consumes-trans}
use Rattle.std.proofs.lemmas.List.{drop-append-le}
use Rattle.std.proofs.lemmas.Slice.{take-put_mid_below}
use Rattle.std.specs.Io.KnownBytes.{Consumes}
use Rattle.lines.proofs.feed.refill.Goals as goal

-- what was read stands behind what the window held
read-behind : (w b : List ℕ) (n held k got : ℕ) → n ≤ held → held ≤ length w → got ≤ length b
    → drop n (take held w) ++ take got b ≡ drop n (take (held + got) (put_mid held k w b))
read-behind w b n held k got ahead within h =
    let l = length-take-le held w within in
    let all = take held w ++ (b ++ post_of held k w) in
    sym
    (ap (λ (z : ℕ). drop n (take (z + got) all)) (sym l) ∙ ap (drop n) (take-append-add (take held w) (b ++ post_of held k w) got)
    ∙ ap (λ (z : List ℕ). drop n (take held w ++ z)) (take-append-le got b (post_of held k w) h)
    ∙ drop-append-le n (take held w) (take got b) (omega arith))

pub loop-held-preserved : goal.loop-held-preserved
loop-held-preserved g c =
    let v = c.loop-held.invariant in
    let e = c.in_ok-got.ensures in
    record {
      ahead = omega arith;
      within = search rules;
      long = search rules;
      kept = take-put_mid_below _ _ _ _ _ v.ahead v.within ∙ v.kept;
      read =
          subst (Consumes _ _) (read-behind _ _ c.args.n c.loop-held.held _ c.in_ok-got.got v.ahead v.within e.bound.0)
          (Consumes-trans _ _ _ _ _ v.read e.bytes.0);
    }
