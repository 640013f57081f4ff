-- The laws of a shelf: what is put at a place stands there, and every other place stays. Assumes nothing.
use Rattle.std.specs.Prelude.{◌≡◌, List, ◌++◌, ℕ, ◌+◌, ◌*◌, ◌-◌, ◌<◌, ◌≤◌, take, set, replicate}
use Rattle.std.proofs.Common.{sym, ◌∙◌, subst, length-take, take_all, length-take-le, get_or-set_same, get_or-set_other, ext_get_or}
use Rattle.std.proofs.Math.Path.{ap}
use Rattle.std.proofs.Math.Decide.{dec_lt}
use Rattle.std.proofs.Math.Nat.{min-le_left}
use native.Mathlib.Omega.{arith}
use Rattle.std.proofs.Math.ListN.{length, drop, get_or, length-append, length-drop, get_or-append, get_or-eq_default}
use Rattle.std.proofs.lemmas.List.{length-replicate, get_or-replicate}
use Rattle.std.proofs.Math.Seq.{paste, get_or-append-add, get_or-take, get_or-drop}
use Rattle.expression.specs.Bytes.{longest}
use Rattle.shelf.specs.Shelf.{stored_at, room_past, padded, put_bytes, AllZero}

pub length-padded : (x : List ℕ) → length x ≤ longest → length (padded x) ≡ longest
unfolding padded
length-padded x h = simp (length-append, length-replicate) (omega arith)

-- a padded byte is the byte, and zero past the end
pub padded-at : (x : List ℕ) (i : ℕ) → i < longest → get_or (padded x) i 0 ≡ get_or x i 0
unfolding padded
padded-at x i h = go (dec_lt i (length x))
  where
    go : Dec (i < length x) → get_or (x ++ replicate (longest - length x) 0) i 0 ≡ get_or x i 0
    go (yes l) = get_or-append x _ 0 i l
    go (no n) =
        let e : i ≡ length x + (i - length x) = omega arith in
        ap (λ (m : ℕ). get_or (x ++ replicate (longest - length x) 0) m 0) e
        ∙ get_or-append-add x _ (i - length x) 0
        ∙ get_or-replicate (longest - length x) (i - length x) 0 0 (omega arith)
        ∙ sym (get_or-eq_default x 0 {n = i} (omega arith))

-- the store as a copy of 48 bytes
pub put-paste : (b : List ℕ) (k : ℕ) (x : List ℕ) → length x ≤ longest → paste b (longest * k) (padded x) longest ≡ put_bytes b k x
unfolding put_bytes
put-paste b k x h = rw (take_all longest (padded x) (omega (arith, length-padded x h)))

-- a list that ends before i has zero there
pub past_end : (l : List ℕ) (i : ℕ) → length l ≤ i → get_or l i 0 ≡ 0
past_end l i h = get_or-eq_default l 0 {n = i} h

-- a part of the bytes, byte by byte
module _ (b : List ℕ) (at m : ℕ) where
  part_at : (i : ℕ) → i < m → get_or (take m (drop at b)) i 0 ≡ get_or b (at + i) 0
  part_at i h = get_or-take m (drop at b) i 0 h ∙ get_or-drop at b i 0

  part_length : at + m ≤ length b → length (take m (drop at b)) ≡ m
  part_length h = length-take-le m (drop at b) (omega (arith, length-drop at b))

-- a part of zeros is zero
pub zero-part : (b : List ℕ) (at m : ℕ) → AllZero b → AllZero (take m (drop at b))
zero-part b at m z i = go (dec_lt i m)
  where
    go : Dec (i < m) → get_or (take m (drop at b)) i 0 ≡ 0
    go (yes l) = part_at b at m i l ∙ z (at + i)
    go (no n) = past_end (take m (drop at b)) i (omega (arith, length-take m (drop at b), min-le_left m (length (drop at b))))

-- x is put at place k of the bytes b
module _ (b : List ℕ) (k : ℕ) (x : List ℕ) (hx : length x ≤ longest) (hb : longest * k + longest ≤ length b) where
  head-length : length (take (longest * k) b) ≡ longest * k
  head-length = length-take-le (longest * k) b (omega arith)

  front_length : length (take (longest * k) b ++ padded x) ≡ longest * k + longest
  front_length = length-append (take (longest * k) b) (padded x) ∙ omega (arith, head-length, length-padded x hx)

  pub put-length : length (put_bytes b k x) ≡ length b
  unfolding put_bytes
  put-length =
      length-append (take (longest * k) b ++ padded x) (drop (longest * k + longest) b)
      ∙ omega (arith, front_length, length-drop (longest * k + longest) b)

  put-before : (m : ℕ) → m < longest * k → get_or (put_bytes b k x) m 0 ≡ get_or b m 0
  unfolding put_bytes
  put-before m h =
      get_or-append (take (longest * k) b ++ padded x) _ 0 m (omega (arith, front_length))
      ∙ get_or-append (take (longest * k) b) _ 0 m (omega (arith, head-length))
      ∙ get_or-take (longest * k) b m 0 h

  put-within : (i : ℕ) → i < longest → get_or (put_bytes b k x) (longest * k + i) 0 ≡ get_or x i 0
  unfolding put_bytes
  put-within i h =
      get_or-append (take (longest * k) b ++ padded x) _ 0 (longest * k + i) (omega (arith, front_length))
      ∙ ap (λ (m : ℕ). get_or (take (longest * k) b ++ padded x) (m + i) 0) (sym head-length)
      ∙ get_or-append-add (take (longest * k) b) (padded x) i 0
      ∙ padded-at x i h

  put-after : (m : ℕ) → longest * k + longest ≤ m → get_or (put_bytes b k x) m 0 ≡ get_or b m 0
  unfolding put_bytes
  put-after m h =
      let e : m ≡ length (take (longest * k) b ++ padded x) + (m - (longest * k + longest)) = omega (arith, front_length) in
      let f : longest * k + longest + (m - (longest * k + longest)) ≡ m = omega arith in
      ap (λ (i : ℕ). get_or (take (longest * k) b ++ padded x ++ drop (longest * k + longest) b) i 0) e
      ∙ get_or-append-add (take (longest * k) b ++ padded x) (drop (longest * k + longest) b) (m - (longest * k + longest)) 0
      ∙ get_or-drop (longest * k + longest) b (m - (longest * k + longest)) 0
      ∙ ap (λ (i : ℕ). get_or b i 0) f

  -- a byte of another place stays
  put_other : (j i : ℕ) → i < longest → (j ≡ k → ⊥) → get_or (put_bytes b k x) (longest * j + i) 0 ≡ get_or b (longest * j + i) 0
  put_other j i h n = go (dec_lt j k)
    where
      go : Dec (j < k) → get_or (put_bytes b k x) (longest * j + i) 0 ≡ get_or b (longest * j + i) 0
      go (yes l) = put-before (longest * j + i) (omega arith)
      go (no m) = let l : k < j = after (dec_lt k j) m in put-after (longest * j + i) (omega arith)
        where
          after : Dec (k < j) → (j < k → ⊥) → k < j
          after (yes l) o = l
          after (no p) o = absurd (n (omega arith))

  module _ (lens : List ℕ) where
    -- what is put at a place stands there
    pub stored-put : k < length lens → stored_at (set lens k (length x)) (put_bytes b k x) k ≡ x
    stored-put h =
        let long : longest * k + length x ≤ length (put_bytes b k x) = omega (arith, put-length) in
        ap (λ (m : ℕ). take m (drop (longest * k) (put_bytes b k x))) (get_or-set_same lens k (length x) 0 h)
        ∙ ext_get_or 0 (take (length x) (drop (longest * k) (put_bytes b k x))) x
        (part_length (put_bytes b k x) (longest * k) (length x) long)
        (λ i l.
        let less : i < length x = omega (arith, part_length (put_bytes b k x) (longest * k) (length x) long) in
        part_at (put_bytes b k x) (longest * k) (length x) i less ∙ put-within i (omega arith))

    -- and zero past it
    pub past-put : k < length lens → AllZero (room_past (set lens k (length x)) (put_bytes b k x) k)
    past-put h =
        subst (λ (m : ℕ). AllZero (take (longest - m) (drop (longest * k + m) (put_bytes b k x)))) (sym (get_or-set_same lens k (length x) 0 h))
        (λ i. go i (dec_lt i (longest - length x)))
      where
        go : (i : ℕ) → Dec (i < longest - length x) → get_or (take (longest - length x) (drop (longest * k + length x) (put_bytes b k x))) i 0 ≡ 0
        go i (yes l) =
            let e : longest * k + length x + i ≡ longest * k + (length x + i) = omega arith in
            part_at (put_bytes b k x) (longest * k + length x) (longest - length x) i l
            ∙ ap (λ (m : ℕ). get_or (put_bytes b k x) m 0) e
            ∙ put-within (length x + i) (omega arith)
            ∙ past_end x (length x + i) (omega arith)
        go i (no n) =
            past_end (take (longest - length x) (drop (longest * k + length x) (put_bytes b k x))) i
            (omega (arith, part_length (put_bytes b k x) (longest * k + length x) (longest - length x) (omega (arith, put-length))))

    module _ (j : ℕ) (n : j ≡ k → ⊥) (hj : get_or lens j 0 ≤ longest) (fits : longest * j + longest ≤ length b) where
      same_length : get_or (set lens k (length x)) j 0 ≡ get_or lens j 0
      same_length = get_or-set_other lens k j (length x) 0 n

      -- parts of place j agree
      same-part : (a m : ℕ) → a + m ≤ longest → take m (drop (longest * j + a) (put_bytes b k x)) ≡ take m (drop (longest * j + a) b)
      same-part a m h =
          let left : longest * j + a + m ≤ length (put_bytes b k x) = omega (arith, put-length) in
          let long = part_length (put_bytes b k x) (longest * j + a) m left in
          ext_get_or 0 (take m (drop (longest * j + a) (put_bytes b k x))) (take m (drop (longest * j + a) b))
          (long ∙ sym (part_length b (longest * j + a) m (omega arith)))
          (λ i l.
          let less : i < m = omega (arith, long) in
          let e : longest * j + a + i ≡ longest * j + (a + i) = omega arith in
          part_at (put_bytes b k x) (longest * j + a) m i less
          ∙ ap (λ (q : ℕ). get_or (put_bytes b k x) q 0) e
          ∙ put_other j (a + i) (omega arith) n
          ∙ ap (λ (q : ℕ). get_or b q 0) (sym e)
          ∙ sym (part_at b (longest * j + a) m i less))

      -- every other place stays
      pub stored_other : stored_at (set lens k (length x)) (put_bytes b k x) j ≡ stored_at lens b j
      stored_other =
          let e : longest * j + 0 ≡ longest * j = omega arith in
          let n = get_or lens j 0 in
          ap (λ (m : ℕ). take m (drop (longest * j) (put_bytes b k x))) same_length
          ∙ subst (λ (q : ℕ). take n (drop q (put_bytes b k x)) ≡ take n (drop q b)) e (same-part 0 n (omega arith))

      -- and what is past it
      pub past-other : room_past (set lens k (length x)) (put_bytes b k x) j ≡ room_past lens b j
      past-other =
          ap (λ (m : ℕ). take (longest - m) (drop (longest * j + m) (put_bytes b k x))) same_length
          ∙ same-part (get_or lens j 0) (longest - get_or lens j 0) (omega arith)
