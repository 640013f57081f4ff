-- `loafawning::gate_text` meets its contract: an answer to a text is small enough for one number. Assumes nothing.
use native.Mathlib.Omega.{arith}
use Rattle.loafawning.specs.Laws.{small}
use Rattle.loafawning.proofs.gate_text.Goals as goal

pub packed-requires : goal.packed-requires
packed-requires c = omega (arith, (small _ _ _ c.turn-answer.ensures.decides).1)
