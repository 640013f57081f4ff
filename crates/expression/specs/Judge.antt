-- Bytes that are in order over a tree, and their place for 6 there. Definitions only.
use Rattle.std.specs.Prelude.{List, ℕ}
use Rattle.tree.specs.declared.Tree.{Tree}
use Rattle.tree.specs.Tree.{IsDepth}
use Rattle.expression.specs.declared.Kind.{Kind}
use Rattle.expression.specs.Bytes.{InOrder, WrongAt}

-- in order for its kind over a tree: its depth bounds the levels
abbrev pub InOrderOver : Kind → Tree → List ℕ → Type 0
InOrderOver kind t bs = (d : ℕ) × IsDepth t d × InOrder kind t.n d bs

-- the place for 6 over a tree
abbrev pub WrongOver : Kind → Tree → List ℕ → ℕ → Type 0
WrongOver kind t bs k = (d : ℕ) × IsDepth t d × WrongAt kind t.n d bs k
