-- `gate::row_passed` meets its contract: each return names the conditions that held on the way and the one that did not. Assumes nothing.
use Rattle.std.specs.Prelude.{List, [], ◌∷◌}
use Rattle.std.proofs.Common.{inl, inr, arith}
use Rattle.logic.specs.Iff.{not-then-false}
use Rattle.answer.specs.Answers.{Condition}
use Rattle.policy.specs.declared.State.{State}
use Rattle.rules.specs.Rules.{RolePasses}
use Rattle.gate.specs.Requests.{session_conditions, file_present, mode_known, row_passed}
use Rattle.gate.specs.Laws.{session-named}
use Rattle.gate.proofs.Stages.{stands, fails-next, all-next, refused, at-hand, told}
use Rattle.gate.proofs.row_passed.Goals as goal
use Rattle.gate.proofs.row_passed.Goals.{Start}

-- the conditions after those of a session
abbrev rest : Start → State → List Condition
rest c s = let a = c.args in file_present s a.file ∷ mode_known a.mode ∷ row_passed s a.slot a.file a.row ∷ []

pub returns-in_err-grown-clause-stage : goal.returns-in_err-grown-clause-stage
returns-in_err-grown-clause-stage c = λ s x.
    let a = c.args in
    stands (session_conditions s a.slot) (rest (goal.at.returns-in_err-grown-clause-stage c).Start s) _
    c.from_residual.result c.from_residual.ensures.1 (c.in_err-grown.ensures.stage a.file s x)

pub returns-then-seen-file-clause-stage : goal.returns-then-seen-file-clause-stage
returns-then-seen-file-clause-stage c = λ s x.
    let a = c.args in
    fails-next (session_conditions s a.slot) (rest (goal.at.returns-then-seen-file-clause-stage c).Start s) _ _
    (c.in_ok-grown.ensures.stage a.file s x)
    (inl ((λ h. omega (arith, x.nfiles-is)), omega arith, omega arith))

pub returns-then-mode-ge-MODES-clause-stage : goal.returns-then-mode-ge-MODES-clause-stage
returns-then-mode-ge-MODES-clause-stage c = λ s x.
    let a = c.args in
    fails-next (session_conditions s a.slot) (rest (goal.at.returns-then-mode-ge-MODES-clause-stage c).Start s) _ _
    (c.in_ok-grown.ensures.stage a.file s x)
    (inr (omega (arith, x.nfiles-is), inl ((λ h. omega arith), omega arith, omega arith)))

pub passes-requires : goal.passes-requires
passes-requires c =
    let (s, x) = c.requires.0 in
    let grown = c.in_ok-grown.ensures in
    let session = session-named s _ (grown.stage _ s x) in
    (at-hand x grown.grown.0 session (omega (arith, x.nfiles-is)), c.requires.1 (omega arith))

pub returns-then-not-passes-clause-stage : goal.returns-then-not-passes-clause-stage
returns-then-not-passes-clause-stage c = λ s x.
    let a = c.args in
    let grown = c.in_ok-grown.ensures in
    let all = grown.stage a.file s x in
    let test = told x grown.grown.0 (session-named s a.slot all) (omega (arith, x.nfiles-is)) (λ t r f. RolePasses t r f a.row) c.passes.ensures in
    let fails = not-then-false test c.if-not-passes.true in
    fails-next (session_conditions s a.slot) (rest (goal.at.returns-then-not-passes-clause-stage c).Start s) _ _ all
    (inr (omega (arith, x.nfiles-is), inr (omega arith, inl (refused fails c.of-then-not-passes.ensures))))

pub returns-clause-stage : goal.returns-clause-stage
returns-clause-stage c = λ s x.
    let a = c.args in
    let grown = c.in_ok-grown.ensures in
    let all = grown.stage a.file s x in
    let test = told x grown.grown.0 (session-named s a.slot all) (omega (arith, x.nfiles-is)) (λ t r f. RolePasses t r f a.row) c.passes.ensures in
    all-next (session_conditions s a.slot) (rest (goal.at.returns-clause-stage c).Start s) all
    (omega (arith, x.nfiles-is), (omega arith, (test.0 c.if-not-passes.false, tt)))
