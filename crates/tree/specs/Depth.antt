-- The depth of a tree as a number (01, "The tree": "depth is the largest level"); tree/DepthLaws has that it is `IsDepth` and nothing else. Definitions only.
use Rattle.std.specs.Prelude.{List, ℕ, zero, suc, max, get_or}
use Rattle.tree.specs.declared.Tree.{Tree}

-- the level of a, walking up at most f steps
unfoldable pub level_of : List ℕ → ℕ → ℕ → ℕ
level_of p zero a = 0
level_of p (suc f) zero = 0
level_of p (suc f) (suc a) = suc (level_of p f (get_or p (suc a) 0))

-- the largest level of the securons numbered below k
unfoldable pub largest : List ℕ → ℕ → ℕ
largest p zero = 0
largest p (suc k) = max (largest p k) (level_of p k k)

-- the depth of a tree
unfoldable pub depth_of : Tree → ℕ
depth_of t = largest t.parent t.n
