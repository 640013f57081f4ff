-- What is known while bytes are scanned from the front. Assumes nothing.
use mathlib.Core.Path.{◌≡◌, refl, sym, ap, ◌∙◌, subst}
use mathlib.Core.List.{List, [], ◌∷◌, ◌++◌, append_assoc, append-nil}
use mathlib.Core.Logic.{◌⊎◌, inl, inr, ◌↔◌}
use Prim.Native.Nat.{ℕ, suc, ◌+◌, ◌-◌, ◌<◌, ◌≤◌}
use native.Mathlib.Nat.{add-zero}
use native.Mathlib.Omega.{arith}
use Rattle.std.proofs.Common.{zero-le}
use lib.ListN.{length, get_or, take, drop, take-append-drop, length-drop}
use lib.Seq.{take-add, take_all, length-take-le, drop-length}
use Rattle.answer.specs.Faults.{FaultAt}
use Rattle.answer.specs.Laws.{fault-after}
use Rattle.logic.specs.Iff.{iff-trans}
use Rattle.expression.specs.declared.Kind.{Kind}
use Rattle.order.specs.declared.Scanned.{Scanned}
use Rattle.order.specs.declared.Scanned.TheVariants.{Short, Fault}
use Rattle.expression.specs.Bytes.{MayOR, Written, Right}
use Rattle.order.specs.Order.{Finds}
use Rattle.expression.specs.Scan.{Rest, written-rest, rest-none, rest-and, rest-or, fault-right, fault-over, fault-end, from, from-drop, from-length}
use Rattle.order.specs.Heads.{WholeTerm}

module _ (kind : Kind) (n d : ℕ) where
  fit : {k m : ℕ} {r : List ℕ} → k ≡ m → Rest kind n d k r → Rest kind n d m r
  fit e (es, c, ok, q) = (es, c ∙ e, ok, q)

  -- before the byte at `at`, k expressions are to follow
  pub record At (bs : List ℕ) (k at : ℕ) : Type 0 where
    pub within : at ≤ length bs
    pub few : k ≤ at + 1
    pub goes : (r : List ℕ) → Written kind n d (take at bs ++ r) ↔ Rest kind n d k r

  pub at-start : (bs : List ℕ) → At bs 1 0
  at-start bs = record { within = zero-le; few = omega arith; goes = written-rest kind n d }

  module _ {bs : List ℕ} {k at : ℕ} (a : At bs k at) where
    -- g bytes further on, m expressions are to follow
    pub at_next : (m g : ℕ) → at + g ≤ length bs → m ≤ at + g + 1
        → ((r : List ℕ) → Rest kind n d k (take g (drop at bs) ++ r) ↔ Rest kind n d m r) → At bs m (at + g)
    at_next m g h f step = record {
      within = h;
      few = f;
      goes = λ r. rw (take-add at g bs, append_assoc (take at bs) (take g (drop at bs)) r) (iff-trans (a.goes (take g (drop at bs) ++ r)) (step r));
    }

    -- a fault of what is to follow is a fault of the whole
    pub at-fault : {g : ℕ} → 0 < length bs → FaultAt (Rest kind n d k) (drop at bs) g → FaultAt (Right kind n d) bs (at + g)
    at-fault {g} p f =
        fault-right kind n d bs (at + g) (λ e. let z = ap length e in omega arith)
        (rw (take-append-drop, length-take-le at bs a.within) at (fault-after (Written kind n d) (Rest kind n d k) (take at bs) (drop at bs) a.goes f))

    pub at-whole : length bs ≤ at → k ≡ 0 → Written kind n d bs
    at-whole h e =
        let w = (a.goes []).1 (rw e ((rest-none kind n d []).1 refl)) in
        rw (append-nil, take_all at bs h) at w

    -- an operator is followed by one expression more
    pub at-operator : at < length bs → 0 < k → (get_or (from bs at) 0 0 ≡ 3) ⊎ ((get_or (from bs at) 0 0 ≡ 4) × MayOR kind) → At bs (k + 1) (at + 1)
    at-operator h p o =
        let first = rw (from-drop bs at) at o in
        at_next (k + 1) 1 (omega arith) (omega (arith, a.few)) (go (drop at bs) (rw length-drop (omega arith)) first)
      where
        go : (l : List ℕ) → 0 < length l → (get_or l 0 0 ≡ 3) ⊎ ((get_or l 0 0 ≡ 4) × MayOR kind) → (r : List ℕ)
            → Rest kind n d k (take 1 l ++ r) ↔ Rest kind n d (k + 1) r
        go [] q o r = absurd (omega arith)
        go (x ∷ l) q (inl e) r = rw e (
          (λ w. fit (omega arith) ((rest-and kind n d (k - 1) r).0 (fit (omega arith) w))),
          (λ w. fit (omega arith) ((rest-and kind n d (k - 1) r).1 (fit (omega arith) w))),
        )
        go (x ∷ l) q (inr (e, may)) r = rw e (
          (λ w. fit (omega arith) ((rest-or kind n d may (k - 1) r).0 (fit (omega arith) w))),
          (λ w. fit (omega arith) ((rest-or kind n d may (k - 1) r).1 (fit (omega arith) w))),
        )

    module _ {good : ℕ} (p : 0 < k) where
      -- a whole term is one expression less
      pub at-term : WholeTerm kind n d (from bs at) good → At bs (k - 1) (at + good)
      at-term h =
          let few : good ≤ length bs - at = subst (λ (x : ℕ). good ≤ x) (from-length bs at) h.within in
          at_next (k - 1) good (omega (arith, a.within)) (omega (arith, a.few)) (λ r.
          let g = rw (from-drop bs at) at (h.full (k - 1) r) in
          ((λ w. g.0 (fit (omega arith) w)), λ w. fit (omega arith) (g.1 w)))

      -- a term that does not stand is the fault
      pub at-stuck : ((m : ℕ) → FaultAt (Rest kind n d (suc m)) (from bs at) good) → 0 < length bs → FaultAt (Right kind n d) bs (at + good)
      at-stuck h some =
          let e : suc (k - 1) ≡ k = omega arith in
          at-fault some (subst (λ (m : ℕ). FaultAt (Rest kind n d m) (drop at bs) good) e (rw (from-drop bs at) at (h (k - 1))))

    -- a byte after the whole is the fault
    pub at-over : 0 < n → k ≡ 0 → at < length bs → FaultAt (Right kind n d) bs at
    at-over some e h = rw add-zero at (at-fault {g = 0} (omega arith) (go (drop at bs) (rw length-drop (omega arith))))
      where
        go : (l : List ℕ) → 0 < length l → FaultAt (Rest kind n d k) l 0
        go [] q = absurd (omega arith)
        go (x ∷ l) q = rw e (fault-over kind n d some x l)

    -- bytes that end before the whole are at fault at their end
    pub at-short : 0 < n → 0 < k → 0 < length bs → length bs ≤ at → FaultAt (Right kind n d) bs (length bs)
    at-short some p q h =
        let e : at ≡ length bs = omega (arith, a.within) in
        let l : drop at bs ≡ [] = ap (λ (x : ℕ). drop x bs) e ∙ drop-length bs in
        let m : suc (k - 1) ≡ k = omega arith in
        rw (add-zero, e) at (at-fault {g = 0} q (rw l (subst (λ (x : ℕ). FaultAt (Rest kind n d x) [] 0) m (fault-end kind n d some (k - 1)))))

  -- where the scan stops at a fault, that is what it says
  pub finds-stopped : {bs : List ℕ} {at : ℕ} {r : Scanned} → FaultAt (Right kind n d) bs at
      → ((at < length bs) × (r ≡ Fault at)) ⊎ ((length bs ≤ at) × (r ≡ Short)) → Finds kind n d bs r
  finds-stopped {bs} {at} {r} f (inl (h, e)) = subst (Finds kind n d bs) (sym e) (h, f)
  finds-stopped {bs} {at} {r} f (inr (h, e)) =
      let q : at ≡ length bs = omega (arith, f.within) in subst (Finds kind n d bs) (sym e) (rw q at f)
