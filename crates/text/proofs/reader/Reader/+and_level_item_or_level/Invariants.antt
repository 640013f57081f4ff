-- The cycle of calls {and_level, item, or_level} ends: the measure is three times what is left of the text, and the level's rank. Assumes nothing.
use Prim.Native.Nat.{◌+◌, ◌-◌, ◌*◌}
use lib.ListN.{length}
use Rattle.text.proofs.reader.Reader.+and_level_item_or_level.Given as goal

abbrev pub decreases-and_level : goal.decreases-and_level
decreases-and_level l = 3 * (length l.self.now.text.now - l.self.now.at) + 1

abbrev pub decreases-item : goal.decreases-item
decreases-item l = 3 * (length l.self.now.text.now - l.self.now.at)

abbrev pub decreases-or_level : goal.decreases-or_level
decreases-or_level l = 3 * (length l.self.now.text.now - l.self.now.at) + 2
