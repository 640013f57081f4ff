-- `gate::judge_ask` meets its contract: a refusal of the stage before stands, else the mediating test decides. Assumes nothing.
use Rattle.std.specs.Prelude.{[], ◌∷◌}
use Rattle.std.proofs.Common.{inl}
use Rattle.logic.specs.Iff.{not-then-false}
use Rattle.rules.specs.Rules.{RoleMediates}
use Rattle.gate.specs.Requests.{row_conditions, mediated}
use Rattle.gate.specs.Laws.{row_named}
use Rattle.gate.proofs.Stages.{stands-judged, fails-next, all-next, refused, at-hand, told, makes-same}
use Rattle.gate.proofs.judge_ask.Goals as goal

pub returns-in_err-grown : goal.returns-in_err-grown
returns-in_err-grown c = λ s x.
    let a = c.args in
    stands-judged (row_conditions s a.slot a.file a.mode a.mode) (mediated s a.slot a.file a.mode ∷ []) _ s _
    c.from_residual.result c.from_residual.ensures.1 (c.in_err-grown.ensures.stage s x)

pub mediates-requires : goal.mediates-requires
mediates-requires c =
    let (s, x) = c.requires in
    let grown = c.in_ok-grown.ensures in
    let row = row_named s _ _ _ _ (grown.stage s x) in
    at-hand x grown.grown row.session row.present

pub returns-then-not-mediates : goal.returns-then-not-mediates
returns-then-not-mediates c = λ s x.
    let a = c.args in
    let grown = c.in_ok-grown.ensures in
    let all = grown.stage s x in
    let row = row_named s a.slot a.file a.mode a.mode all in
    let test = told x grown.grown row.session row.present (λ t r f. RoleMediates t r f a.mode) c.mediates.ensures in
    let fails = not-then-false test c.if-not-mediates.true in
    fails-next (row_conditions s a.slot a.file a.mode a.mode) (mediated s a.slot a.file a.mode ∷ []) _ _ all (inl (refused fails c.of.ensures))

pub returns : goal.returns
returns c = λ s x.
    let a = c.args in
    let grown = c.in_ok-grown.ensures in
    let all = grown.stage s x in
    let row = row_named s a.slot a.file a.mode a.mode all in
    let test = told x grown.grown row.session row.present (λ t r f. RoleMediates t r f a.mode) c.mediates.ensures in
    let holds = all-next (row_conditions s a.slot a.file a.mode a.mode) (mediated s a.slot a.file a.mode ∷ []) all (test.0 c.if-not-mediates.false, tt) in
    (holds, rw c.file_effect.ensures (makes-same x _ c.of-2.ensures))
