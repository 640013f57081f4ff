-- The tree of securons (01, "The tree"; 002, 2.1). Definitions only.
use Rattle.std.specs.Prelude.{◌≡◌, List, ◌⊎◌, ℕ, suc, ◌<◌, ◌≤◌, get_or}
use Rattle.securon.specs.declared.Level.{Level}
use Rattle.securon.specs.Sets.{set_room}
use Rattle.tree.specs.declared.Tree.{Tree}
use Rattle.tree.specs.declared.Levels.{Levels}

-- the most securons that a tree has: 1 to 64. A set has room for each of them
abbrev pub most_securons : ℕ
most_securons = 64

-- of the securons numbered below k, every other than the root has a parent with a smaller number
abbrev pub SmallerBelow : List ℕ → ℕ → Type 0
SmallerBelow parent k = (u : ℕ) → 0 < u → u < k → get_or parent u 0 < u

-- the count of securons is in range: 1 to 64
abbrev pub InRange : ℕ → Type 0
InRange n = (0 < n) × (n ≤ most_securons)

-- n securons, 1 to 64, numbered 0 to n-1; securon 0 is the root; every other has a parent with a smaller number
pub record IsTree (t : Tree) : Type 0 where
  pub count : InRange t.n
  pub smaller : SmallerBelow t.parent t.n

-- a securon from which every step up goes to a smaller number, so that walking up ends
pub record Climbs (parent : List ℕ) (a : ℕ) : Type 0 where
  pub few : a < set_room
  pub smaller : SmallerBelow parent (suc a)

-- walking up parents from the one reaches the other; no step reaches itself
pub data Reaches (parent : List ℕ) : ℕ → ℕ → Type 0 where
  here : {a : ℕ} → Reaches parent a a
  up : {a b : ℕ} → 0 < a → Reaches parent (get_or parent a 0) b → Reaches parent a b

-- two securons are related when they are equal, or when walking up parents from the one reaches the other
abbrev pub Related : List ℕ → ℕ → ℕ → Type 0
Related parent a b = Reaches parent a b ⊎ Reaches parent b a

-- the three kinds of related (002, 2.3: "u related to s means u is an ancestor, descendent, or is equal to s"):
-- u is equal to s;
abbrev pub Equal : ℕ → ℕ → Type 0
Equal u s = u ≡ s

-- u is above s, an ancestor of it: walking up from the parent of s reaches u. Nobody is above the root;
abbrev pub Above : List ℕ → ℕ → ℕ → Type 0
Above parent u s = (0 < s) × Reaches parent (get_or parent s 0) u

-- u is below s, a descendant of it: s is above u
abbrev pub Below : List ℕ → ℕ → ℕ → Type 0
Below parent u s = Above parent s u

-- the three side by side, which are what `Related` is: `three-kinds` in tree/Laws
abbrev pub EqualAboveOrBelow : List ℕ → ℕ → ℕ → Type 0
EqualAboveOrBelow parent u s = Equal u s ⊎ Above parent u s ⊎ Below parent u s

-- the root's level is 0, a child's is its parent's plus 1
pub data HasLevel (parent : List ℕ) : ℕ → ℕ → Type 0 where
  root : HasLevel parent 0 0
  child : {u k : ℕ} → 0 < u → HasLevel parent (get_or parent u 0) k → HasLevel parent u (suc k)

-- depth is the largest level: some securon has it, and none has a larger one
pub record IsDepth (t : Tree) (d : ℕ) : Type 0 where
  pub deepest : (u : ℕ) × (u < t.n) × HasLevel t.parent u d
  pub largest : (u k : ℕ) → u < t.n → HasLevel t.parent u k → k ≤ d

-- the root's level, and what stands in the room that no securon has
abbrev pub root_level : Level
root_level = record { 0 = 0 }

-- the level of securon u, as it stands in l
abbrev pub level_in : Levels → ℕ → ℕ
level_in l u = (get_or l.of u root_level).0

-- the levels of all securons of t, 0 past the last of them, and its depth
pub record LevelsOf (t : Tree) (l : Levels) : Type 0 where
  pub level : (u : ℕ) → u < t.n → HasLevel t.parent u (level_in l u)
  pub unused : (u : ℕ) → t.n ≤ u → level_in l u ≡ 0
  pub depth : IsDepth t l.depth.0

-- a tree with its levels
pub record Ready (t : Tree) (l : Levels) : Type 0 where
  pub tree : IsTree t
  pub levels : LevelsOf t l
