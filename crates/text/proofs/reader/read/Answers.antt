-- `read` meets its contract: a blank text is spaces to its end; else the levels read all of it, or it is at fault where they stop. Assumes nothing.
use mathlib.Core.Path.{refl}
use Rattle.text.proofs.Levels.{read-blank, read_left, read_stopped, read-end, handed}
use Rattle.text.proofs.reader.read.Goals as goal

pub returns-then-reader-text : goal.returns-then-reader-text
returns-then-reader-text c = read-blank _ _ refl c.skip.ensures c.new.ensures c.if-reader-text.true

pub returns-in_err-or_level : goal.returns-in_err-or_level
returns-in_err-or_level c =
    rw (handed _ _ c.from_residual.ensures.1) (read_stopped _ _ refl c.skip.ensures c.new.ensures c.if-reader-text.false _ c.in_err-or_level.ensures refl)

pub returns-then-reader-text-2 : goal.returns-then-reader-text-2
returns-then-reader-text-2 c =
    read_left _ _ refl c.skip.ensures c.new.ensures c.if-reader-text.false _ c.in_ok-or_level.ensures c.if-reader-text-2.true

pub returns : goal.returns
returns c =
    read-end _ _ refl c.skip.ensures c.new.ensures c.if-reader-text.false _ c.in_ok-or_level.ensures refl c.if-reader-text-2.false
