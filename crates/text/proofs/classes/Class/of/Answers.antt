-- `Class::of` meets its contract: a byte that is of none of the nine classes is of the last. Assumes nothing.
use mathlib.Core.Bool.{Bool, true, false, ◌&&◌}
use Prim.Native.Nat.{ℕ, ◌≤◌}
use native.Mathlib.Omega.{arith}
use Rattle.std.specs.Prelude.{leb, eqb}
use Rattle.text.specs.Classes.{class_of, pick, digit, space, amp, bar, lpar, rpar, lbra, rbra, dot, other}
use Rattle.text.proofs.classes.Class.of.Goals as goal

-- a choice of two numbers up to 9 is one
choice : (t : Bool) (a b : ℕ) → a ≤ 9 → b ≤ 9 → pick t a b ≤ 9
choice true a b p q = p
choice false a b p q = q

few : (x : ℕ) → class_of x ≤ 9
unfolding class_of
few x =
    let a = choice (eqb x 46) dot other (omega arith) (omega arith) in
    let b = choice (eqb x 93) rbra _ (omega arith) a in
    let c = choice (eqb x 91) lbra _ (omega arith) b in
    let d = choice (eqb x 41) rpar _ (omega arith) c in
    let e = choice (eqb x 40) lpar _ (omega arith) d in
    let f = choice (eqb x 124) bar _ (omega arith) e in
    let g = choice (eqb x 38) amp _ (omega arith) f in
    let h = choice (eqb x 32) space _ (omega arith) g in
    choice (leb 48 x && leb x 57) digit _ (omega arith) h

pub returns-in_default : goal.returns-in_default
returns-in_default c = let most = few c.args.b in omega (arith, c.number.ensures)
