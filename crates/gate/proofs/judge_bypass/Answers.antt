-- `gate::judge_bypass` meets its contract: a refusal of the stage before stands, else the bypass set decides; and both are stored. Assumes nothing.
use Rattle.std.specs.Prelude.{[], ◌∷◌}
use Rattle.std.proofs.Common.{inl}
use Rattle.logic.specs.Iff.{not-then-false}
use Rattle.expression.specs.declared.Kind.TheVariants.{Privilege}
use Rattle.policy.specs.State.{e_place}
use Rattle.rules.specs.Rules.{RoleCovers}
use Rattle.gate.specs.Requests.{store_conditions, covered}
use Rattle.gate.specs.Laws.{store-named}
use Rattle.gate.proofs.Stages.{stands-judged, fails-next, all-next, refused, right-over, at-hand, told, makes-pair}
use Rattle.gate.proofs.judge_bypass.Goals as goal

pub returns-in_err-grown : goal.returns-in_err-grown
returns-in_err-grown c = λ s x.
    let a = c.args in
    let last = covered s a.slot a.file a.mode a.e.now a.g.now ∷ [] in
    stands-judged (store_conditions Privilege s a.slot a.file a.mode a.e.now a.g.now) last _ s _
    c.from_residual.result c.from_residual.ensures.1 (c.in_err-grown.ensures.stage s x)

pub covers-requires : goal.covers-requires
covers-requires c =
    let (s, x) = c.requires in
    let grown = c.in_ok-grown.ensures in
    let h = store-named s _ _ _ Privilege _ _ (grown.stage s x) in
    record {
      at-hand = at-hand x grown.grown h.row.session h.row.present;
      is-mode = h.row.is-mode;
      e-right = right-over x grown.grown Privilege _ h.first;
      g-right = right-over x grown.grown Privilege _ h.second;
    }

pub returns-then-not-covers : goal.returns-then-not-covers
returns-then-not-covers c = λ s x.
    let a = c.args in
    let grown = c.in_ok-grown.ensures in
    let all = grown.stage s x in
    let row = (store-named s a.slot a.file a.mode Privilege a.e.now a.g.now all).row in
    let test = told x grown.grown row.session row.present (λ t r f. RoleCovers t r f a.mode a.e.now a.g.now) c.covers.ensures in
    let fails = not-then-false test c.if-not-covers.true in
    let last = covered s a.slot a.file a.mode a.e.now a.g.now ∷ [] in
    fails-next (store_conditions Privilege s a.slot a.file a.mode a.e.now a.g.now) last _ _ all (inl (refused fails c.of.ensures))

pub returns : goal.returns
returns c = λ s x.
    let a = c.args in
    let grown = c.in_ok-grown.ensures in
    let all = grown.stage s x in
    let row = (store-named s a.slot a.file a.mode Privilege a.e.now a.g.now all).row in
    let test = told x grown.grown row.session row.present (λ t r f. RoleCovers t r f a.mode a.e.now a.g.now) c.covers.ensures in
    let last = covered s a.slot a.file a.mode a.e.now a.g.now ∷ [] in
    let holds = all-next (store_conditions Privilege s a.slot a.file a.mode a.e.now a.g.now) last all (test.0 c.if-not-covers.false, tt) in
    (holds, rw c.store_effect.ensures (makes-pair x (e_place a.mode) a.e.now a.g.now row.session row.present))
