-- `image::read_rows` meets its contract: the rows passed are read, and the others are zero. Assumes nothing.
use Rattle.std.specs.Prelude.{◌≡◌, ◌-◌, ◌≤◌}
use Rattle.std.specs.declared.result.Result.TheVariants.{Ok}
use Rattle.image.specs.Image.{shelf}
use Rattle.image.specs.Reading.{kinds_of, RowsMade}
use Rattle.image.proofs.read_rows.Given as goal

abbrev pub invariant-loop-row : goal.invariant-loop-row
invariant-loop-row g l =
    (l.row-index ≤ l.row-index-end)
    × (l.row-index-end ≡ l.count)
    × RowsMade g.R.Row.make g.R.Row.none l.count (shelf (kinds_of g.R.Row.file) (l.size.n - 1) l.size.depth.0)
    l.row-index l.image (Ok l.at) l.row-items l.next
