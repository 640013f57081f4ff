-- `hexes` meets its contract: the bytes that were passed are written. Assumes nothing.
use lib.ListN.{take}
use Rattle.lines.specs.Lines.{hexes}
use Rattle.writing.specs.Writing.{WrittenAt}
use Rattle.lines.proofs.hexes.Given as goal

abbrev pub invariant-loop-x : goal.invariant-loop-x
invariant-loop-x l = WrittenAt l.initial.out l.at (hexes (take l.x-index l.b)) l.out l.p
