-- Expressions and what they mean (01, "Expressions and what they mean"; 002, 2.3 to 2.5). Definitions only.
use Rattle.std.specs.Prelude.{◌≡◌, ◌⊎◌, ℕ, ◌<◌, ◌≤◌}
use Rattle.securon.specs.Sets.{Set, empty, only, ◌∪◌, ◌⊆◌, Marks, on, mark_of, ◌⊔◌}
use Rattle.tree.specs.declared.Tree.{Tree}
use Rattle.tree.specs.Tree.{Related, HasLevel}

infixl 60 ◌AND◌
infixl 50 ◌OR◌
-- a term: s, or s[i downto j]
pub data Term : Type 0 where
  one : ℕ → Term
  range : ℕ → ℕ → ℕ → Term

-- terms joined by AND and OR
pub data Expr : Type 0 where
  term : Term → Expr
  ◌AND◌ : Expr → Expr → Expr
  ◌OR◌ : Expr → Expr → Expr

-- u is related to s and has a level from i to j
pub record Between (t : Tree) (s i j u : ℕ) : Type 0 where
  pub present : u < t.n
  pub related : Related t.parent u s
  pub level : ℕ
  pub has-level : HasLevel t.parent u level
  pub from-i : i ≤ level
  pub to_j : level ≤ j

-- SET(s) = {s}; SET(s[i downto j]) is every u related to s with level from i to j
abbrev pub term_set : Tree → Term → Set
term_set t (one s) = only s
term_set t (range s i j) = Between t s i j

-- the value of a privilege expression is the union of its terms' sets. (OR may not stand in one; it adds no securon)
abbrev pub privilege_set : Tree → Expr → Set
privilege_set t (term x) = term_set t x
privilege_set t (a AND b) = privilege_set t a ∪ privilege_set t b
privilege_set t (a OR b) = empty

-- the value of a protection expression is a set of sets; U is one of them:
-- a term gives one singleton per member; OR is the union; AND is all unions of one member from each side
abbrev pub Value : Tree → Expr → Marks → Type 0
Value t (term x) U = (u : ℕ) × term_set t x u × (U ≡ mark_of u)
Value t (a OR b) U = Value t a U ⊎ Value t b U
Value t (a AND b) U = (A : Marks) × (B : Marks) × Value t a A × Value t b B × (U ≡ A ⊔ B)

-- held set H meets protection e when some member of e's value is a part of H
pub record Meets (t : Tree) (H : Set) (e : Expr) : Type 0 where
  pub chosen : Marks
  pub in-value : Value t e chosen
  pub held : on chosen ⊆ H
