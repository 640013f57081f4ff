-- `refill` fills the window behind what it holds with the bytes that come next, and ends: each turn but the last reads some bytes. The measure is the room
-- that is left. Assumes nothing.
use Rattle.std.proofs.Common.{◌≡◌, length, take, drop, ◌-◌, ◌≤◌}
use Rattle.std.specs.Io.KnownBytes.{Consumes}
use Rattle.lines.proofs.feed.refill.Given as goal

abbrev pub invariant-loop-held : goal.invariant-loop-held
invariant-loop-held g l = record {
  ahead : l.n ≤ l.held;
  within : l.held ≤ length l.window;
  long : length l.window ≡ length l.initial.window;
  kept : take l.n l.window ≡ take l.n l.initial.window;
  read : Consumes (g.R.Read.remaining l.initial.input) (g.R.Read.remaining l.input) (drop l.n (take l.held l.window));
}

abbrev pub decreases-loop-held : goal.decreases-loop-held
decreases-loop-held g l = length l.initial.window - l.held
