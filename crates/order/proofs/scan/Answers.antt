-- `order::scan` meets its contract: at the place reached, `due` whole expressions are to follow.
-- The measure is what is left of the bytes. Assumes nothing.
use mathlib.Core.Path.{◌≡◌}
use mathlib.Core.Bool.{Bool, true, false}
use mathlib.Core.Logic.{◌⊎◌, inl, inr, ⊎_elim, ◌↔◌}
use Prim.Native.Nat.{ℕ}
use native.Mathlib.Omega.{arith}
use borrow.Author.Rules.{rules}
use lib.ListN.{length}
use Rattle.expression.specs.declared.Kind.{Kind}
use Rattle.logic.specs.Iff.{not-then-false}
use Rattle.expression.specs.Bytes.{MayOR}
use Rattle.expression.specs.Scan.{from-length}
use Rattle.order.specs.Heads.{NoOperator}
use Rattle.order.proofs.Scanning.{At, at-start, at-operator, at-term, at-stuck, at-over, at-whole, at-short, finds-stopped}
use Rattle.order.proofs.scan.Goals as goal
use Rattle.order.proofs.scan.Goals.{At-loop-at}

-- where no operator joins, none stands
no_operator : (kind : Kind) {x : ℕ} {joins or : Bool} → (joins ≡ true) ↔ ((x ≡ 3) ⊎ ((x ≡ 4) × (or ≡ true))) → joins ≡ false
    → (or ≡ true) ↔ MayOR kind → NoOperator kind x
no_operator kind says not-so may =
    let none = not-then-false says not-so in
    ((λ e. none (inl e)), λ e m. none (inr (e, may.1 m)))

-- what is to follow where the loop has come to
due-at : (c : At-loop-at) → At c.args.kind c.args.size.n c.args.size.depth.0 c.args.b.now c.loop-at.due c.loop-at.at
due-at c = c.loop-at.invariant c.args.kind c.may_or-or.ensures

pub loop-at-init : goal.loop-at-init
loop-at-init c = λ kind m. at-start kind _ _ _

pub returns-then-due-eq0 : goal.returns-then-due-eq0
returns-then-due-eq0 c =
    let due = due-at (goal.at.returns-then-due-eq0 c).At-loop-at in
    (c.loop-at-test.true, at-over _ _ _ due c.args.size.some c.if-due-eq0.true c.loop-at-test.true)

pub bounds-rest-0 : goal.bounds-rest-0
bounds-rest-0 c = omega (arith, from-length c.args.b.now c.loop-at.at)

pub overflow_add-due : goal.overflow_add-due
overflow_add-due c = omega (arith, (due-at (goal.at.overflow_add-due c).At-loop-at).few, c.well_formed)

pub overflow_add-at : goal.overflow_add-at
overflow_add-at c = omega (arith, c.well_formed)

pub loop-at-preserved-then-joins : goal.loop-at-preserved-then-joins
loop-at-preserved-then-joins c = λ kind m.
    at-operator kind _ _ (c.loop-at.invariant kind m) (omega arith) (omega arith)
    (⊎_elim inl (λ w. inr (w.0, m.0 w.1)) (c.joins.ensures.0 c.if-joins.true))

pub term_part-requires : goal.term_part-requires
term_part-requires c = omega (arith, from-length c.args.b.now c.loop-at.at)

pub overflow_add-at-in-Ok : goal.overflow_add-at-in-Ok
overflow_add-at-in-Ok c =
    let t = c.in-Ok.ensures c.args.kind (no_operator c.args.kind c.joins.ensures c.if-joins.false c.may_or-or.ensures) in
    omega (arith, t.within, from-length c.args.b.now c.loop-at.at, c.well_formed)

pub loop-at-smaller : goal.loop-at-smaller
loop-at-smaller c =
    let t = c.in-Ok.ensures c.args.kind (no_operator c.args.kind c.joins.ensures c.if-joins.false c.may_or-or.ensures) in
    omega (arith, t.within, t.some, from-length c.args.b.now c.loop-at.at)

pub loop-at-preserved : goal.loop-at-preserved
loop-at-preserved c = λ kind m.
    let t = c.in-Ok.ensures kind (no_operator kind c.joins.ensures c.if-joins.false m) in
    at-term kind _ _ (c.loop-at.invariant kind m) (omega arith) t

pub overflow_add-at-in-Err : goal.overflow_add-at-in-Err
overflow_add-at-in-Err c =
    let f = c.in-Err.ensures c.args.kind (no_operator c.args.kind c.joins.ensures c.if-joins.false c.may_or-or.ensures) in
    omega (arith, (f 0).within, from-length c.args.b.now c.loop-at.at, c.well_formed)

pub returns-in-Err : goal.returns-in-Err
returns-in-Err c =
    let due = due-at (goal.at.returns-in-Err c).At-loop-at in
    let f = c.in-Err.ensures c.args.kind (no_operator c.args.kind c.joins.ensures c.if-joins.false c.may_or-or.ensures) in
    finds-stopped _ _ _ (at-stuck _ _ _ due (omega arith) f (omega arith)) c.stopped.ensures

pub returns-then-due-eq0-2 : goal.returns-then-due-eq0-2
returns-then-due-eq0-2 c =
    inr (at-whole _ _ _ (due-at (goal.at.returns-then-due-eq0-2 c).At-loop-at) (omega arith) c.if-due-eq0-2.true)

pub returns-else-due-eq0-2 : goal.returns-else-due-eq0-2
returns-else-due-eq0-2 c =
    let some : length c.args.b.now ≡ 0 → ⊥ = search rules in
    at-short _ _ _ (due-at (goal.at.returns-else-due-eq0-2 c).At-loop-at) c.args.size.some (omega arith) (omega arith) (omega arith)
