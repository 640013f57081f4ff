-- What a test of the expression at the front of some bytes promises, by the functions inside. A device of the proofs.
use Rattle.std.specs.Prelude.{◌≡◌, Bool, true, List, ◌++◌, ◌↔◌, ℕ, length}
use Rattle.securon.specs.Sets.{Set, ◌∪◌, ◌≐◌}
use Rattle.tree.specs.declared.Tree.{Tree}
use Rattle.expression.specs.declared.Kind.{Kind}
use Rattle.expression.specs.Expression.{Term, Expr, term, term_set, Meets}
use Rattle.expression.specs.Bytes.{bytes, Fits}

-- an expression over the securons below n stands at the front
pub record Front (n : ℕ) (bs : List ℕ) : Type 0 where
  pub kind : Kind
  pub depth : ℕ
  pub expr : Expr
  pub tail : List ℕ
  pub fits : Fits kind n depth expr
  pub is : bs ≡ bytes expr ++ tail

-- a term over the securons below n stands at the front
pub record TermFront (n : ℕ) (bs : List ℕ) : Type 0 where
  pub kind : Kind
  pub depth : ℕ
  pub term_is : Term
  pub tail : List ℕ
  pub fits : Fits kind n depth (term term_is)
  pub is : bs ≡ bytes (term term_is) ++ tail

-- whichever expression stands at the front: it has `used` bytes, and H meets it exactly if `met` says so
abbrev pub Tests : Tree → Set → List ℕ → Bool → ℕ → Type 0
Tests t H bs met used = (e : Expr) (tail : List ℕ) → bs ≡ bytes e ++ tail → (used ≡ length (bytes e)) × ((met ≡ true) ↔ Meets t H e)

-- whichever term stands at the front: H holds a member of its SET exactly if `met` says so
abbrev pub TestsTerm : Tree → Set → List ℕ → Bool → Type 0
TestsTerm t H bs met = (x : Term) (tail : List ℕ) → bs ≡ bytes (term x) ++ tail → (met ≡ true) ↔ ((u : ℕ) × term_set t x u × H u)

-- whichever term stands at the front: its SET was added
abbrev pub AddsTerm : Tree → List ℕ → Set → Set → Type 0
AddsTerm t bs before after = (x : Term) (tail : List ℕ) → bs ≡ bytes (term x) ++ tail → after ≐ before ∪ term_set t x
