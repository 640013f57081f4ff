-- `image::read_shelf` meets its contract: the places passed are read, and the shelf holds them. Assumes nothing.
use mathlib.Core.Path.{◌≡◌}
use Prim.Native.Nat.{◌≤◌}
use lib.ListN.{length}
use Rattle.std.specs.declared.result.Result.TheVariants.{Ok}
use Rattle.image.specs.Reading.{kinds_of}
use Rattle.image.proofs.Shelf.{Passed}
use Rattle.image.proofs.read_shelf.Given as goal

abbrev pub invariant-loop-k : goal.invariant-loop-k
invariant-loop-k l =
    (l.k ≤ l.k-end) × (l.k-end ≡ length (kinds_of l.file)) × Passed l.file l.size.n l.size.depth.0 l.image (Ok l.at) l.k l.lens l.bytes l.next
