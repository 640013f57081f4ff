-- Put, then read: what is stored reads as stored, and all else as before. Assumes nothing.
use Rattle.std.specs.Prelude.{◌≡◌, List, ℕ, ◌+◌, ◌<◌, ◌≤◌, length, get_or}
use Rattle.std.proofs.Common.{sym, ap, ◌∙◌, arith, get_or-set_same, get_or-set_other}
use Rattle.std.proofs.Math.Decide.{ℕ_discrete}
use Rattle.expression.specs.Bytes.{longest}
use Rattle.shelf.specs.Shelf.{HasPlaces}
use Rattle.shelf.specs.Kept.{put-places, put-here, put-there}
use Rattle.policy.specs.declared.File.{File}
use Rattle.policy.specs.declared.State.{State}
use Rattle.policy.specs.State.{slot_count, IsMode, file_places, Hold, held_in, slot_with, off_file, file_at, Present, hold_of, file_part, t1_of}
use Rattle.policy.specs.State.{e_of, t2_of, g_of, parts, file_place, put_file, put_pair, with_hold, with_pair, with_t1_t2, with_e_g}
use Rattle.policy.specs.WellFormed.{HasRoom, WellFormed}
use Rattle.policy.specs.Parts.{file-by-place}
use Rattle.policy.specs.Whole.{held-written}

-- a slot that is set reads as set, the others as before
module _ (s : State) (room : HasRoom s) (i : ℕ) (h : Hold) where
  pub hold-here : i < slot_count → hold_of (with_hold s i h) i ≡ h
  hold-here l = ap held_in (get_or-set_same s.slots i (slot_with h) 0 (omega (arith, room.slots))) ∙ held-written h

  pub hold-there : (j : ℕ) → (j ≡ i → ⊥) → hold_of (with_hold s i h) j ≡ hold_of s j
  hold-there j n = ap held_in (get_or-set_other s.slots i j (slot_with h) 0 n)

-- x is put at place k of a present file, and y two places on
module _ (s : State) (w : WellFormed s) (file : ℕ) (present : Present s file) (k : ℕ) (l : k + 2 < file_places)
    (x y : List ℕ) (hx : length x ≤ longest) (hy : length y ≤ longest) where
  old : HasPlaces file_places (file_at s file).lens (file_at s file).bytes
  old = w.room.file-places file (omega (arith, w.file-count))

  first : HasPlaces file_places (put_file (file_at s file) k x).lens (put_file (file_at s file) k x).bytes
  first = put-places old k (omega arith) x hx

  short : (j : ℕ) → j < file_places → get_or (file_at s file).lens j 0 ≤ longest
  short j h = (file-by-place (w.files-in-order file present) j h).short

  -- that file is the one with both stored
  now-file : file_at (with_pair s file k x y) file ≡ put_pair (file_at s file) k x y
  now-file = get_or-set_same s.files file (put_pair (file_at s file) k x y) off_file (omega (arith, w.room.files, w.file-count))

  pub pair-first : file_part (file_at (with_pair s file k x y) file) k ≡ x
  pair-first =
      ap (λ (f : File). file_part f k) now-file
      ∙ put-there first (k + 2) l y hy k (omega arith) (λ e. omega arith)
      (omega (arith, get_or-set_same (file_at s file).lens k (length x) 0 (omega (arith, old.lengths))))
      ∙ put-here old k (omega arith) x hx

  pub pair-second : file_part (file_at (with_pair s file k x y) file) (k + 2) ≡ y
  pair-second = ap (λ (f : File). file_part f (k + 2)) now-file ∙ put-here first (k + 2) l y hy

  -- every other place of every file reads as before
  pub pair-else : (i j : ℕ) → j < file_places → (i ≡ file → (j ≡ k → ⊥) × (j ≡ k + 2 → ⊥))
      → file_part (file_at (with_pair s file k x y) i) j ≡ file_part (file_at s i) j
  pair-else i j h apart = go (ℕ_discrete i file)
    where
      go : Dec (i ≡ file) → file_part (file_at (with_pair s file k x y) i) j ≡ file_part (file_at s i) j
      go (yes e) =
          let n = apart e in
          let same = get_or-set_other (file_at s file).lens k j (length x) 0 n.0 in
          ap (λ (q : ℕ). file_part (file_at (with_pair s file k x y) q) j) e
          ∙ ap (λ (f : File). file_part f j) now-file
          ∙ put-there first (k + 2) l y hy j h n.1 (omega (arith, same, short j h))
          ∙ put-there old k (omega arith) x hx j h n.0 (short j h)
          ∙ ap (λ (q : ℕ). file_part (file_at s q) j) (sym e)
      go (no n) = ap (λ (f : File). file_part f j) (get_or-set_other s.files file i (put_pair (file_at s file) k x y) off_file n)

-- after a store of the parts p and q of a row: they are those stored, and every other part of every file is as before
pub record RowStored (s r : State) (file mode p q : ℕ) (x y : List ℕ) : Type 0 where
  pub first : file_part (file_at r file) (file_place mode p) ≡ x
  pub second : file_part (file_at r file) (file_place mode q) ≡ y
  pub others : (i m c : ℕ) → IsMode m → c < parts → (i ≡ file → m ≡ mode → (c ≡ p → ⊥) × (c ≡ q → ⊥))
      → file_part (file_at r i) (file_place m c) ≡ file_part (file_at s i) (file_place m c)

module _ (s : State) (w : WellFormed s) (file : ℕ) (present : Present s file) (mode : ℕ) (few : IsMode mode)
    (x y : List ℕ) (hx : length x ≤ longest) (hy : length y ≤ longest) where
  row_reads : (p : ℕ) → p < 2 → RowStored s (with_pair s file (file_place mode p) x y) file mode p (p + 2) x y
  row_reads p h = record {
    first = pair-first s w file present (file_place mode p) (omega arith) x y hx hy;
    second =
        let two : file_place mode p + 2 ≡ file_place mode (p + 2) = omega arith in
        ap (λ (k : ℕ). file_part (file_at (with_pair s file (file_place mode p) x y) file) k) (sym two)
        ∙ pair-second s w file present (file_place mode p) (omega arith) x y hx hy;
    others = λ i m c l k apart.
        pair-else s w file present (file_place mode p) (omega arith) x y hx hy i (file_place m c) (omega arith) (λ e. (
          (λ q. let same : m ≡ mode = omega arith in (apart e same).0 (omega arith)),
          λ q. let same : m ≡ mode = omega arith in (apart e same).1 (omega arith),
        ));
  }

  -- change: T1 and T2
  pub t1t2-reads : RowStored s (with_t1_t2 s file mode x y) file mode 0 2 x y
  t1t2-reads = row_reads 0 (omega arith)

  -- bypass: E and G
  pub eg-reads : RowStored s (with_e_g s file mode x y) file mode 1 3 x y
  eg-reads = row_reads 1 (omega arith)

  -- so a change leaves every E and G as it is, and a bypass every T1 and T2
  pub change-keeps : (i m : ℕ) → IsMode m
      → (e_of (with_t1_t2 s file mode x y) i m ≡ e_of s i m) × (g_of (with_t1_t2 s file mode x y) i m ≡ g_of s i m)
  change-keeps i m h = (
    t1t2-reads.others i m 1 h (omega arith) (λ _ _. ((λ e. omega arith), λ e. omega arith)),
    t1t2-reads.others i m 3 h (omega arith) (λ _ _. ((λ e. omega arith), λ e. omega arith)),
  )

  pub bypass-keeps : (i m : ℕ) → IsMode m
      → (t1_of (with_e_g s file mode x y) i m ≡ t1_of s i m) × (t2_of (with_e_g s file mode x y) i m ≡ t2_of s i m)
  bypass-keeps i m h = (
    eg-reads.others i m 0 h (omega arith) (λ _ _. ((λ e. omega arith), λ e. omega arith)),
    eg-reads.others i m 2 h (omega arith) (λ _ _. ((λ e. omega arith), λ e. omega arith)),
  )
