-- `image::load` meets its contract: only an image that is taken is granted, and then its policy is there. Assumes nothing.
use Rattle.logic.specs.Iff.{not-then-false}
use Rattle.image.proofs.Assembly.{load-granted, load-left-over, load-refused}
use Rattle.image.proofs.load.Goals as goal

pub returns-then-granted : goal.returns-then-granted
returns-then-granted c =
    let granted = c.granted.ensures.0 c.if-granted.true in
    load-granted _ _ _ _ _ c.in-Ok.ensures c.answer_at_end-answer.ensures granted

pub returns-else-granted : goal.returns-else-granted
returns-else-granted c =
    let refused = not-then-false c.granted.ensures c.if-granted.false in
    load-left-over _ _ _ _ _ c.in-Ok.ensures c.answer_at_end-answer.ensures refused

pub returns-in-Err : goal.returns-in-Err
returns-in-Err c = load-refused _ _ _ _ c.in-Err.ensures c.answer_at_end.ensures
