-- `image::read_head` meets its contract: the mark and the version are read one after another. Assumes nothing.
use Rattle.std.proofs.Common.{rules}
use Rattle.image.proofs.Head.{head-first, head-second, head-third, head-version, head_read}
use Rattle.image.proofs.read_head.Goals as goal

pub returns-in_err-s : goal.returns-in_err-s
returns-in_err-s c = search (rules, head-first _ c.in_err-s.ensures)

pub returns-in_err-p : goal.returns-in_err-p
returns-in_err-p c = search (rules, head-second _ c.in_ok-s.ensures c.in_err-p.ensures)

pub returns-in_err-t : goal.returns-in_err-t
returns-in_err-t c = search (rules, head-third _ c.in_ok-s.ensures c.in_ok-p.ensures c.in_err-t.ensures)

pub returns-in_err-version : goal.returns-in_err-version
returns-in_err-version c = search (rules, head-version _ c.in_ok-s.ensures c.in_ok-p.ensures c.in_ok-t.ensures c.in_err-version.ensures)

pub returns : goal.returns
returns c = head_read _ c.in_ok-s.ensures c.in_ok-p.ensures c.in_ok-t.ensures c.in_ok-version.ensures
