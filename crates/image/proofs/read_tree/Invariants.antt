-- `image::read_tree` meets its contract: the parents of the securons passed are read, the others zero. Assumes nothing.
use Rattle.std.specs.Prelude.{◌≡◌, ◌-◌, ◌≤◌}
use Rattle.std.specs.declared.result.Result.TheVariants.{Ok}
use Rattle.image.proofs.Rows.{Grows}
use Rattle.image.proofs.read_tree.Given as goal

abbrev pub invariant-loop-k : goal.invariant-loop-k
invariant-loop-k l = (l.k ≤ l.k-end) × (l.k-end ≡ l.n - 1) × Grows l.n l.image (Ok l.at) l.k l.up-items l.next
