-- `shelf::fine` meets its contract: the flag says of every place passed that it is fine. Assumes nothing.
use Prim.Native.Nat.{ℕ}
use Rattle.logic.specs.Every.{Flag}
use Rattle.shelf.specs.Fine.{kind_at, PlaceFine}
use Rattle.shelf.proofs.fine.Given as goal

abbrev pub invariant-loop-k : goal.invariant-loop-k
invariant-loop-k l = Flag (λ (i : ℕ). PlaceFine (kind_at l.file i) l.size.n l.size.depth.0 l.lens l.bytes i) l.k l.ok
