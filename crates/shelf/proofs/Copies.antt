-- The store at a place: the bytes are written from its start on, and zeros past them up to the next place. Assumes nothing.
use mathlib.Core.Path.{◌≡◌, refl, ap, ap₂, ◌∙◌}
use mathlib.Core.List.{List, ◌++◌}
use Prim.Native.Nat.{ℕ, ◌+◌, ◌*◌, ◌-◌, ◌≤◌}
use native.Mathlib.Omega.{arith}
use borrow.Rule.Slice.PartMut.{put_mid}
use lib.ListN.{length, take, drop, replicate}
use Rattle.std.proofs.lemmas.List.{append_assoc, drop-drop}
use Rattle.std.proofs.lemmas.Slice.{take-put_mid, drop-put_mid}
use Rattle.expression.specs.Bytes.{longest}
use Rattle.shelf.specs.Shelf.{padded, put_bytes}

module _ (b : List ℕ) (k : ℕ) (x : List ℕ) (few : length x ≤ longest) (room : longest * k + longest ≤ length b) where
  abbrev end : ℕ
  end = longest * k + length x

  abbrev first : List ℕ
  first = put_mid (longest * k) (end - longest * k) b x

  pub written : {zeros : List ℕ} → zeros ≡ replicate (longest - length x) 0
      → put_mid end (longest * k + longest - end) first zeros ≡ put_bytes b k x
  unfolding put_bytes padded
  written {zeros} z =
      let front : take end first ≡ take (longest * k) b ++ x = take-put_mid (longest * k) (end - longest * k) b x end refl (omega arith) in
      let next : end + (longest * k + longest - end) ≡ longest * k + longest = omega arith in
      let rest : drop (longest * k + longest - end) (drop end first) ≡ drop (longest * k + longest) b =
      drop-drop (longest * k + longest - end) end first ∙ ap (λ (m : ℕ). drop m first) next
      ∙ drop-put_mid (longest * k) (end - longest * k) b x (longest * k + longest) (omega arith) (omega arith) (omega arith) in
      ap₂ (λ (l r : List ℕ). l ++ (zeros ++ r)) front rest ∙ rw z (simp append_assoc)
