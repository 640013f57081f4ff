-- Bytes are in order or have a place for 6, one and at most 48. Assumes nothing.
use Rattle.std.specs.Prelude.{List, ℕ, ◌≤◌}
use Rattle.std.proofs.Common.{sym, ◌∙◌, inl, inr, ⊎_elim, arith}
use Rattle.answer.specs.Laws.{AtMostOne, one-fault, no-fault}
use Rattle.tree.specs.declared.Tree.{Tree}
use Rattle.tree.specs.Laws.{one-depth}
use Rattle.expression.specs.declared.Kind.{Kind}
use Rattle.expression.specs.Bytes.{longest, Right, InOrder, WrongAt}
use Rattle.expression.specs.Judge.{InOrderOver, WrongOver}

module _ (kind : Kind) (n d : ℕ) (bs : List ℕ) where
  -- the place for 6 is one
  pub one-wrong : AtMostOne (WrongAt kind n d bs)
  one-wrong j k (inl p) (inl q) = p.1 ∙ sym q.1
  one-wrong j k (inl p) (inr q) = absurd (omega (arith, p.0, q.0))
  one-wrong j k (inr p) (inl q) = absurd (omega (arith, p.0, q.0))
  one-wrong j k (inr p) (inr q) = one-fault (Right kind n d) bs j k p.1 q.1

  -- and at most 48
  pub wrong-within : {k : ℕ} → WrongAt kind n d bs k → k ≤ longest
  wrong-within w = ⊎_elim (λ v. omega (arith, v.1)) (λ v. omega (arith, v.0, v.1.within)) w

  -- what is in order has no such place
  pub in-order-not-wrong : (k : ℕ) → InOrder kind n d bs → WrongAt kind n d bs k → ⊥
  in-order-not-wrong k p (inl q) = omega (arith, p.0, q.0)
  in-order-not-wrong k p (inr q) = no-fault (Right kind n d) bs p.1 q.1

module _ (kind : Kind) (t : Tree) (bs : List ℕ) where
  -- the same over a tree
  pub one-wrong-over : AtMostOne (WrongOver kind t bs)
  one-wrong-over j k (d, p, v) (e, q, w) = one-wrong kind t.n e bs j k (rw (one-depth p q) at v) w

  pub wrong-within-over : {k : ℕ} → WrongOver kind t bs k → k ≤ longest
  wrong-within-over (d, p, w) = wrong-within kind t.n d bs w

  pub in-order-not-wrong-over : (k : ℕ) → InOrderOver kind t bs → WrongOver kind t bs k → ⊥
  in-order-not-wrong-over k (d, p, v) (e, q, w) = in-order-not-wrong kind t.n e bs k (rw (one-depth p q) at v) w
