-- `script::put` meets its contract: what fits is copied, and what does not counts as one more than the room. Assumes nothing.
use mathlib.Core.Path.{◌≡◌, sym, ap, ap₂, ◌∙◌, subst}
use mathlib.Core.List.{List, ◌++◌}
use Prim.Native.Nat.{ℕ, ◌+◌, ◌-◌}
use native.Mathlib.Omega.{arith}
use borrow.Rule.Slice.PartMut.{put_mid}
use lib.ListN.{length, take}
use lib.Seq.{drop-drop}
use Rattle.script.specs.Inner.{Puts}
use Rattle.script.specs.FillLaws.{puts-front}
use Rattle.script.proofs.put.Goals as goal

pub returns-then-room-w : goal.returns-then-room-w
returns-then-room-w c =
    let n = c.args.n.now in
    let out = c.args.out.now in
    let w = c.args.w.now in
    let fits = c.min-fits.result in
    let room : fits ≡ length out - n = omega (arith, c.min-fits.ensures) in
    let long : n + fits - n ≡ length out - n = omega arith in
    let copied = c.copy_from_slice.ensures.after ∙ ap (λ (k : ℕ). take k w) room in
    let same = ap₂ (λ (k : ℕ) (ys : List ℕ). put_mid n k out ys) long copied
    ∙ ap (λ (l : List ℕ). take n out ++ (take (length out - n) w ++ l)) (drop-drop (length out - n) n out) in
    let full : length out + 1 ≡ n + fits + 1 = omega arith in
    subst (λ (r : ℕ). Puts w out n (put_mid n (n + fits - n) out c.copy_from_slice.new.self) r) full
    (subst (λ (l : List ℕ). Puts w out n l (length out + 1)) (sym same) (puts-front w out n c.if-out-at.false c.if-room-w.true))
