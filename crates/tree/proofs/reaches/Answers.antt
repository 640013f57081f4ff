-- `tree::reaches` meets its contract: from where the walk stands the target is reached exactly if it is from the start.
-- The measure is the number at which the walk stands. Assumes nothing.
use mathlib.Core.Path.{refl, sym, subst}
use mathlib.Core.Bool.{false≢true}
use mathlib.Core.List.{List}
use mathlib.Core.Logic.{⊎_elim}
use Prim.Native.Nat.{ℕ, ◌<◌}
use native.Mathlib.Nat.{le_refl}
use native.Mathlib.Omega.{arith}
use Rattle.logic.specs.Iff.{iff-refl}
use Rattle.tree.specs.declared.Walk.{Walk}
use Rattle.tree.specs.declared.Walk.TheVariants.{Found, Root, Missed}
use Rattle.tree.specs.Tree.{Reaches, here, up}
use Rattle.tree.specs.Laws.{reaches-up, reaches-root, reaches-smaller, climbs-up}
use Rattle.tree.proofs.reaches.Goals as goal
use Rattle.tree.proofs.reaches.Goals.{Joined-at-target, then-at-target, else-at-target+then-at, else-at-target+else-at+then-at-target-2}

-- what the end of a walk tells of where it stood
abbrev Tells : List ℕ → ℕ → ℕ → Walk → Type 0
Tells parent at target Found = Reaches parent at target
Tells parent at target Root = Reaches parent at target → ⊥
Tells parent at target Missed = Reaches parent at target → ⊥

told : (c : Joined-at-target) → Tells c.args.parent.now c.loop-at.at c.args.high.0 c.if-at-target.end
told c =
    let T = Tells c.args.parent.now c.loop-at.at c.args.high.0 in
    elim c.if-at-target.branch [
      | then-at-target w ↦ subst T (sym w.end-is) (subst (Reaches c.args.parent.now c.loop-at.at) w.if-at-target.true here)
      | else-at-target+then-at w ↦ subst T (sym w.end-is) (λ r. w.if-at-target.false (reaches-root r (omega (arith, w.if-at.true))))
      | else-at-target+else-at+then-at-target-2 w ↦
          subst T (sym w.end-is) (λ r. omega (arith, reaches-smaller r c.loop-at.invariant.0, w.if-at-target-2.true))
    ]

pub loop-at-init : goal.loop-at-init
loop-at-init c = (c.requires, iff-refl)

pub overflow_cast-at : goal.overflow_cast-at
overflow_cast-at c = let i = c.loop-at.invariant in omega (arith, i.0.few)

pub bounds-parent-at : goal.bounds-parent-at
bounds-parent-at c = let i = c.loop-at.invariant in omega (arith, i.0.few)

pub loop-at-smaller : goal.loop-at-smaller
loop-at-smaller c = c.loop-at.invariant.0.smaller _ (omega arith) (le_refl _)

pub loop-at-preserved : goal.loop-at-preserved
loop-at-preserved c =
    let l = c.loop-at in
    let pos : 0 < c.loop-at.at = omega arith in
    (climbs-up l.invariant.0 pos, ((λ r. reaches-up (l.invariant.1.0 r) c.if-at-target.false), λ r. l.invariant.1.1 (up pos r)))

pub returns-in-Found : goal.returns-in-Found
returns-in-Found c =
    let i = c.loop-at.invariant.1 in
    ((λ _. i.1 (subst (Tells _ _ _) c.in-Found.is (told (goal.at.returns-in-Found c).Joined-at-target))), λ _. refl)

pub returns-in-Root : goal.returns-in-Root
returns-in-Root c =
    let i = c.loop-at.invariant.1 in
    ((λ e. absurd (false≢true e)), λ r. absurd (subst (Tells _ _ _) c.in-Root.is (told (goal.at.returns-in-Root c).Joined-at-target) (i.0 r)))

pub returns-in-Missed : goal.returns-in-Missed
returns-in-Missed c =
    let i = c.loop-at.invariant.1 in
    ((λ e. absurd (false≢true e)), λ r. absurd (subst (Tells _ _ _) c.in-Missed.is (told (goal.at.returns-in-Missed c).Joined-at-target) (i.0 r)))
