-- A list that is filled up with what is none: its length, its elements, and one element more. Assumes nothing.
use Rattle.std.specs.Prelude.{◌≡◌, List, [], ◌∷◌, ◌++◌, ℕ, suc, ◌+◌, ◌-◌, ◌<◌, ◌≤◌, length, get_or, set, replicate}
use Rattle.std.proofs.Common.{sym, ap, ◌∙◌, arith, length-append, get_or-append-add}
use Rattle.std.proofs.lemmas.List.{length-replicate, get_or-replicate, set_at}
use Rattle.std.proofs.Math.ListN.{get_or-append}
use Rattle.std.proofs.Math.Seq.{append_snoc}
use Rattle.image.specs.Image.{filled}

module _ {X : Type 0} (most : ℕ) (none : X) (xs : List X) where
  abbrev rest : List X
  rest = replicate (most - length xs) none

  pub length-filled : length xs ≤ most → length (filled most none xs) ≡ most
  length-filled h = omega (arith, length-append xs rest, length-replicate (most - length xs) none)

  pub filled_at : (i : ℕ) (d : X) → i < length xs → get_or (filled most none xs) i d ≡ get_or xs i d
  filled_at i d h = get_or-append xs rest d i h

  pub filled-past : (i : ℕ) (d : X) → length xs ≤ i → i < most → get_or (filled most none xs) i d ≡ none
  filled-past i d h m =
      let e : i ≡ length xs + (i - length xs) = omega arith in
      ap (λ (j : ℕ). get_or (filled most none xs) j d) e
      ∙ get_or-append-add xs rest (i - length xs) d
      ∙ get_or-replicate (most - length xs) (i - length xs) none d (omega arith)

  pub filled_more : (i : ℕ) (x : X) → length xs ≡ i → i < most → set (filled most none xs) i x ≡ filled most none (xs ++ (x ∷ []))
  filled_more i x l h =
      let one : most - length xs ≡ suc (most - suc i) = omega arith in
      let less : most - suc i ≡ most - length (xs ++ (x ∷ [])) = omega (arith, length-append xs (x ∷ [])) in
      ap (λ (k : ℕ). set (xs ++ replicate k none) i x) one
      ∙ set_at xs none (replicate (most - suc i) none) x i l
      ∙ sym (append_snoc xs x (replicate (most - suc i) none))
      ∙ ap (λ (k : ℕ). (xs ++ (x ∷ [])) ++ replicate k none) less
