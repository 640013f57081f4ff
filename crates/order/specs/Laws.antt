-- Each promise leaves one answer, and an answer's number and place are those of 01. Assumes nothing.
use Rattle.std.specs.Prelude.{◌≡◌, refl, Bool, List, [], ◌∷◌, ◌++◌, ℕ, ◌+◌, ◌<◌, ◌≤◌, length}
use Rattle.std.proofs.Common.{sym, ap, ◌∙◌, inl, inr, zero-add, arith}
use Rattle.std.specs.declared.result.Result.{Result}
use Rattle.std.specs.declared.result.Result.TheVariants.{Ok, Err}
use Rattle.answer.specs.Numbers.{expression_wrong}
use Rattle.answer.specs.Answers.{Condition, must_at, Decides}
use Rattle.answer.specs.Faults.{FaultAt}
use Rattle.answer.specs.Laws.{AtMostOne, OnePlaceEach, one-fault, no-fault}
use Rattle.securon.specs.declared.SecuronSet.{SecuronSet}
use Rattle.securon.specs.Sets.{Set, ◌≐◌, marked}
use Rattle.securon.specs.Laws.{one_set}
use Rattle.logic.specs.Iff.{iff-trans, iff-sym, one-test}
use Rattle.tree.specs.declared.Tree.{Tree}
use Rattle.expression.specs.declared.Kind.{Kind}
use Rattle.expression.specs.declared.Kind.TheVariants.{Privilege, Protection}
use Rattle.expression.specs.Bytes.{Right, InOrder, WrongAt}
use Rattle.expression.specs.Judge.{WrongOver}
use Rattle.expression.specs.One.{one-wrong, in-order-not-wrong, one-wrong-over, in-order-not-wrong-over, wrong-within-over}
use Rattle.order.specs.declared.Scanned.{Scanned}
use Rattle.order.specs.declared.Scanned.TheVariants.{Whole, Short, Fault}
use Rattle.order.specs.declared.Wrong.{Wrong}
use Rattle.order.specs.declared.Mutable.{Mutable}
use Rattle.order.specs.Order.{scan_answer, check_answer, Finds, Checks, Judges, NamesSET}
use Rattle.order.specs.Conditions.{second, Added, in_order, expression_conditions}

-- faults at one place are one
one-wrong-place : (v w : Wrong) → v.0 ≡ w.0 → v ≡ w
one-wrong-place v w e = ap (λ (k : ℕ). record { 0 = k }) e

module _ (kind : Kind) (n d : ℕ) (bs : List ℕ) where
  pub one-check : AtMostOne (Checks kind n d bs)
  one-check (Ok u) (Ok v) p q = refl
  one-check (Ok u) (Err w) p q = absurd (in-order-not-wrong kind n d bs w.0 p q)
  one-check (Err w) (Ok u) p q = absurd (in-order-not-wrong kind n d bs w.0 q p)
  one-check (Err v) (Err w) p q = ap Err (one-wrong-place v w (one-wrong kind n d bs v.0 w.0 p q))

  pub one-scan : AtMostOne (Finds kind n d bs)
  one-scan Whole Whole p q = refl
  one-scan Whole Short p q = absurd (no-fault (Right kind n d) bs p q)
  one-scan Whole (Fault k) p q = absurd (no-fault (Right kind n d) bs p q.1)
  one-scan Short Whole p q = absurd (no-fault (Right kind n d) bs q p)
  one-scan Short Short p q = refl
  one-scan Short (Fault k) p q = absurd (omega (arith, q.0, one-fault (Right kind n d) bs (length bs) k p q.1))
  one-scan (Fault k) Whole p q = absurd (no-fault (Right kind n d) bs q p.1)
  one-scan (Fault k) Short p q = absurd (omega (arith, p.0, one-fault (Right kind n d) bs k (length bs) p.1 q))
  one-scan (Fault j) (Fault k) p q = ap Fault (one-fault (Right kind n d) bs j k p.1 q.1)

  -- what a scan says, by its number and place: 0 if the bytes are right; else 6 at their first fault
  pub scan-answers : (r : Scanned) → Finds kind n d bs r
      → Decides (must_at (Right kind n d bs) expression_wrong (FaultAt (Right kind n d) bs) ∷ []) (λ k. k ≡ 0) (scan_answer bs r)
  scan-answers Whole p = inr (p, (refl, refl))
  scan-answers Short p = inl ((λ w. no-fault (Right kind n d) bs w p), refl, p)
  scan-answers (Fault k) p = inl ((λ w. no-fault (Right kind n d) bs w p.1), refl, p.1)

  -- what a check says: 0 if the bytes are in order; else 6 at their place
  pub check-answers : (r : Result (Unit {0}) Wrong) → Checks kind n d bs r
      → Decides (must_at (InOrder kind n d bs) expression_wrong (WrongAt kind n d bs) ∷ []) (λ k. k ≡ 0) (check_answer r)
  check-answers (Ok u) p = inr (p, (refl, refl))
  check-answers (Err w) p = inl ((λ i. in-order-not-wrong kind n d bs w.0 i p), refl, p)

pub one-judgement : (t : Tree) (part : Mutable) (H : Set) (bs : List ℕ) → AtMostOne (Judges t part H bs)
one-judgement t part H bs (Ok a) (Ok b) p q = ap Ok (one-test a b p.1 q.1)
one-judgement t part H bs (Ok a) (Err w) p q = absurd (in-order-not-wrong-over Protection t bs w.0 p.0 q)
one-judgement t part H bs (Err w) (Ok b) p q = absurd (in-order-not-wrong-over Protection t bs w.0 q.0 p)
one-judgement t part H bs (Err v) (Err w) p q = ap Err (one-wrong-place v w (one-wrong-over Protection t bs v.0 w.0 p q))

-- two answers with the same members, or with the same fault
abbrev pub SameNamed : Result SecuronSet Wrong → Result SecuronSet Wrong → Type 0
SameNamed (Ok a) (Ok b) = marked a.has ≐ marked b.has
SameNamed (Ok a) (Err w) = ⊥
SameNamed (Err w) (Ok a) = ⊥
SameNamed (Err v) (Err w) = v ≡ w

pub one-named : (t : Tree) (bs : List ℕ) (a b : Result SecuronSet Wrong) → NamesSET t bs a → NamesSET t bs b → SameNamed a b
one-named t bs (Ok a) (Ok b) p q = λ u. iff-trans (p.1 u) (iff-sym (q.1 u))
one-named t bs (Ok a) (Err w) p q = absurd (in-order-not-wrong-over Privilege t bs w.0 p.0 q)
one-named t bs (Err w) (Ok b) p q = absurd (in-order-not-wrong-over Privilege t bs w.0 q.0 p)
one-named t bs (Err v) (Err w) p q = one-wrong-place v w (one-wrong-over Privilege t bs v.0 w.0 p q)

-- what is named leaves one value, in arrays of one length
pub one-naming : (t : Tree) (bs : List ℕ) (a b : Result SecuronSet Wrong)
    → ((c d : SecuronSet) → a ≡ Ok c → b ≡ Ok d → length c.has ≡ length d.has) → NamesSET t bs a → NamesSET t bs b → a ≡ b
one-naming t bs (Ok a) (Ok b) long p q =
    let has = one_set a.has b.has (long a b refl refl) (one-named t bs (Ok a) (Ok b) p q) in
    ap named_as has
  where
    named_as : List Bool → Result SecuronSet Wrong
    named_as l = Ok (record { has = l })
one-naming t bs (Ok a) (Err w) long p q = absurd (one-named t bs (Ok a) (Err w) p q)
one-naming t bs (Err w) (Ok b) long p q = absurd (one-named t bs (Err w) (Ok b) p q)
one-naming t bs (Err v) (Err w) long p q = ap Err (one-named t bs (Err v) (Err w) p q)

-- what is said of a privilege: 0 if the bytes are in order; else 6 at their place
pub name-answers : (t : Tree) (bs : List ℕ) (r : Result SecuronSet Wrong) → NamesSET t bs r
    → Decides (in_order Privilege t 0 bs ∷ []) (λ k. k ≡ 0) (check_answer r)
name-answers t bs (Ok a) p = inr (p.0, (refl, refl))
name-answers t bs (Err w) p = inl ((λ i. in-order-not-wrong-over Privilege t bs w.0 i p), refl, (w.0, p, sym (zero-add w.0)))

-- what is said of a protection: 0 if the bytes are in order; else 6 at their place
pub judge-answers : (t : Tree) (part : Mutable) (H : Set) (bs : List ℕ) (r : Result Bool Wrong) → Judges t part H bs r
    → Decides (in_order Protection t 0 bs ∷ []) (λ k. k ≡ 0) (check_answer r)
judge-answers t part H bs (Ok met) p = inr (p.0, (refl, refl))
judge-answers t part H bs (Err w) p = inl ((λ i. in-order-not-wrong-over Protection t bs w.0 i p), refl, (w.0, p, sym (zero-add w.0)))

-- one place with a number added is one place
pub one-added : (plus : ℕ) (Place : ℕ → Type 0) → AtMostOne Place → AtMostOne (Added plus Place)
one-added plus Place one j k (a, p, e) (b, q, f) = e ∙ ap (λ (n : ℕ). plus + n) (one a b p q) ∙ sym f

pub one-in-order : (kind : Kind) (t : Tree) (plus : ℕ) (bs : List ℕ) → AtMostOne (in_order kind t plus bs).names
one-in-order kind t plus bs = one-added plus (WrongOver kind t bs) (one-wrong-over kind t bs)

-- each refusal of an expression names one place
pub expression-places : (kind : Kind) (t : Tree) (x y : List ℕ) (more : List Condition) → OnePlaceEach more
    → OnePlaceEach (expression_conditions kind t x y ++ more)
expression-places kind t x y more p = (one-in-order kind t 0 x, (one-in-order kind t second y, p))

-- the place for 6 of either expression has at most three digits
pub added-place : (plus : ℕ) → plus ≤ second → (kind : Kind) (t : Tree) (bs : List ℕ) (k : ℕ) → Added plus (WrongOver kind t bs) k → k < 1000
added-place plus h kind t bs k (j, w, e) = omega (arith, wrong-within-over kind t bs w)
