-- `script::play_front` meets its contract: what is decided is loaded and told, and else it waits. Assumes nothing.
use Rattle.script.proofs.Whole.{front-window, cut-window, front-waits}
use Rattle.script.proofs.play_front.Goals as goal

pub returns-then-not-may_play : goal.returns-then-not-may_play
returns-then-not-may_play c = rw c.at_front.ensures (front-waits _ _ _ (c.may_play.ensures.has-to-wait c.if-not-may_play.true))

pub returns-in_default : goal.returns-in_default
returns-in_default c =
    let may = c.may_play.ensures in
    let yes = c.if-not-may_play.false in
    cut-window _ (may.has-bytes yes) (may.has_room yes) c.in_default.ensures c.put.ensures

pub returns : goal.returns
returns c =
    let f = c.in-Some.ensures in
    let may = c.may_play.ensures in
    let yes = c.if-not-may_play.false in
    rw c.is_some.ensures
    (front-window _ f.0 f.2 c.fresh.ensures c.load-loaded.ensures c.put_line.ensures _ _ f.3 f.1 (may.has-bytes yes) (may.has_room yes))
