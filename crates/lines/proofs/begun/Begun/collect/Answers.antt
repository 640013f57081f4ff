-- `collect` meets its contract: what stands before the line end is kept, or all of the input. Assumes nothing.
use mathlib.Core.Path.{sym, ◌∙◌}
use Rattle.lines.proofs.Laws.{collected-to, collected-all}
use Rattle.lines.proofs.begun.Begun.collect.Goals as goal

pub returns-in-Some : goal.returns-in-Some
returns-in-Some c = collected-to _ _ _ _ (sym c.line_end.ensures ∙ c.in-Some.is) c.keep.ensures

pub returns-in-None : goal.returns-in-None
returns-in-None c = collected-all _ _ _ (sym c.line_end.ensures ∙ c.in-None.is) c.keep-in-None.ensures
