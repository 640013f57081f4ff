-- What the reading of a value that is all there and not in order comes to, and of a number out of its range or judged by it: the place of a refusal is
-- where its bytes begin. Assumes nothing.
use Rattle.std.specs.Prelude.{◌≡◌, ℕ, ◌+◌, ◌≤◌, take, drop, Result}
use Rattle.std.specs.declared.result.Result.TheVariants.{Ok}
use Rattle.std.proofs.Math.Path.{refl, subst}
use Rattle.std.proofs.Common.{sym, ◌∙◌, arith, length-drop, length-take-le, get_or-take}
use mathlib.Core.List.{List}
use Rattle.std.proofs.Math.Logic.{inl, inr}
use Rattle.std.proofs.Math.ListN.{length}
use Rattle.fields.specs.declared.Refused.{Refused}
use Rattle.fields.specs.Format.{Refusal}
use Rattle.fields.specs.Means.{Test}
use Rattle.fields.specs.Parts.{between, valued, first, first_two}
use Rattle.fields.specs.Reading.{Met, refused_at, Comes, NumberRead, Ranged}
use Rattle.fields.specs.Readings.{reads_at, ranged, number_in}

-- a value of m bytes that is not in order
module _ (m : ℕ) {A : Type 0} (make : List ℕ → A) (t : Test A) (refusal : Refusal) (bs : List ℕ) (a : ℕ) where
  abbrev there : List ℕ
  there = take m (drop a bs)

  pub value-bad : a + m ≤ length bs → (t.holds (make there) → ⊥) → Comes (valued m make t refusal) bs a (refused_at refusal.number a)
  value-bad h g =
      let l : length there ≡ m = length-take-le m (drop a bs) (omega (arith, h, length-drop a bs)) in
      (0, inl (inl ((l, g, refl), refl)), omega arith)

-- a number of the bytes at the front of those that follow
pub byte-front : (bs : List ℕ) (a : ℕ) → first (take 1 (drop a bs)) ≡ first (drop a bs)
byte-front bs a = get_or-take 1 (drop a bs) 0 0 (omega arith)

pub word-front : (bs : List ℕ) (a : ℕ) → first_two (take 2 (drop a bs)) ≡ first_two (drop a bs)
word-front bs a =
    let low = get_or-take 2 (drop a bs) 0 0 (omega arith) in
    let high = get_or-take 2 (drop a bs) 1 0 (omega arith) in
    omega (arith, low, high)

-- where its bytes are there, its value stands there
module _ (m : ℕ) (make : List ℕ → ℕ) (stands : List ℕ → ℕ → ℕ) (there : (bs : List ℕ) (a : ℕ) → make (take m (drop a bs)) ≡ stands bs a)
    (bs : List ℕ) {from : Result ℕ Refused} (low high number : ℕ) {a : ℕ} (e : from ≡ Ok a) (v : ℕ) (is : v ≡ stands bs a) (all : a + m ≤ length bs)
  where
    same : v ≡ make (take m (drop a bs))
    same = is ∙ sym (there bs a)

    pub number-out : ((between low high).holds v → ⊥) → NumberRead (valued m make) bs from low high number (refused_at number a)
    number-out w = record {
      reads = λ d.
          let refusal : Refusal = record { number = number; listed = d } in
          let bad = value-bad m make (between low high) refusal bs a all (λ g. w (subst (between low high).holds (sym same) g)) in
          reads_at (ranged m make low high number d) bs (refused_at number a) e (λ _. bad);
      in_range = tt;
    }

    -- a number that is judged so
    pub number-judged : {r : Met ℕ} → Ranged low high number v a (a + m) r → NumberRead (valued m make) bs from low high number r
    number-judged {r} w = go w
      where
        go : Ranged low high number v a (a + m) r → NumberRead (valued m make) bs from low high number r
        go (inl (f, g, q)) =
            subst (NumberRead (valued m make) bs from low high number) (sym q) (number_in m make stands there bs low high number e v is all f g)
        go (inr (n, q)) = subst (NumberRead (valued m make) bs from low high number) (sym q) (number-out n)
