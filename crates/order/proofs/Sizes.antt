-- What is said over a tree's size is said over the tree. Assumes nothing.
use Rattle.std.proofs.Common.{◌≡◌, ℕ}
use Rattle.securon.specs.declared.Level.{Level}
use Rattle.tree.specs.declared.Tree.{Tree}
use Rattle.tree.specs.declared.Levels.{Levels}
use Rattle.tree.specs.Tree.{IsDepth, Ready}

pub over-tree : (Says : ℕ → ℕ → Type 0) {n : ℕ} {depth : Level} {t : Tree} {l : Levels} → n ≡ t.n → depth ≡ l.depth → Ready t l
    → Says n depth.0 → (d : ℕ) × IsDepth t d × Says t.n d
over-tree Says count deepest ready says = (_, ready.levels.depth, rw (count, deepest) at says)
