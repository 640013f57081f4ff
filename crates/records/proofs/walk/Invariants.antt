-- `records::walk` meets its contract. The loop's invariant: the first i fields stand before the place, and what comes from there decides. Assumes nothing.
use Rattle.records.specs.Places.{Walked}
use Rattle.records.proofs.walk.Given as goal

abbrev pub invariant-loop-i : goal.invariant-loop-i
invariant-loop-i l = Walked l.bytes l.shapes l.i l.end l.fields
