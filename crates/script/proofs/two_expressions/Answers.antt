-- `script::two_expressions` meets its contract: where one expression stands and no second after it, no two do. Assumes nothing.
use mathlib.Core.Path.{◌≡◌, sym, ap, ap₂, ◌∙◌}
use mathlib.Core.List.{List, ◌++◌}
use Prim.Native.Nat.{ℕ, ◌+◌, ◌<◌}
use native.Mathlib.Omega.{arith}
use lib.ListN.{length, get_or, drop, length-append}
use lib.Seq.{drop-append_seam}
use Rattle.image.specs.Image.{expression_bytes}
use Rattle.script.proofs.two_expressions.Goals as goal

no-second : (bs u rest : List ℕ) → bs ≡ expression_bytes u ++ rest → length rest < 1 + get_or rest 0 0
    → (x y left : List ℕ) → bs ≡ expression_bytes x ++ (expression_bytes y ++ left) → ⊥
no-second bs u rest e few x y left f =
    let same : length u ≡ length x = ap (λ (l : List ℕ). get_or l 0 0) (sym e ∙ f) in
    let after : u ++ rest ≡ x ++ (expression_bytes y ++ left) = ap (λ (l : List ℕ). drop 1 l) (sym e ∙ f) in
    let second : rest ≡ expression_bytes y ++ left =
    sym (drop-append_seam u rest) ∙ ap₂ drop same after ∙ drop-append_seam x (expression_bytes y ++ left) in
    omega (arith, ap length second, length-append y left, ap (λ (l : List ℕ). get_or l 0 0) second)

pub returns-in_err-y : goal.returns-in_err-y
returns-in_err-y c =
    rw c.from_residual-in_err-y.ensures (no-second c.args.bytes.now c.in_ok-x.x.now c.in_ok-x.rest.now c.in_ok-x.ensures c.in_err-y.ensures)
