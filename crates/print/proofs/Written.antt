-- What is written of numbers and ranges. Assumes nothing.
use mathlib.Core.Path.{◌≡◌, refl}
use mathlib.Core.List.{List, [], ◌∷◌, ◌++◌}
use Prim.Native.Nat.{ℕ, ◌/◌, ◌%◌, ◌<◌, ◌≤◌}
use native.Mathlib.Omega.{arith}
use borrow.Author.Tests.{lt-ltb, le-ltb}
use lib.ListN.{length, length-append}
use Rattle.writing.specs.Writing.{WrittenAt, RoomFor}
use Rattle.writing.specs.Laws.{room_next}
use Rattle.print.specs.Print.{digit_sign, decimal, open_range, close_range, point, range_text}

-- ---- numbers
module _ (n : ℕ) where
  pub decimal-one : n < 10 → decimal n ≡ digit_sign n ∷ []
  unfolding decimal
  decimal-one h = rw (lt-ltb n 10 h) refl

  pub decimal-two : 10 ≤ n → n < 100 → decimal n ≡ digit_sign (n / 10) ∷ digit_sign (n % 10) ∷ []
  unfolding decimal
  decimal-two h k = rw (le-ltb n 10 (omega (arith, h)), lt-ltb n 100 k) refl

  pub decimal-three : 100 ≤ n → decimal n ≡ digit_sign (n / 100) ∷ digit_sign (n / 10 % 10) ∷ digit_sign (n % 10) ∷ []
  unfolding decimal
  decimal-three h = rw (le-ltb n 10 (omega (arith, h)), le-ltb n 100 h) refl

-- ---- ranges: the room for each part, once those before it are written
-- what is behind the first level
abbrev from_points : ℕ → List ℕ
from_points j = point ∷ point ∷ (decimal j ++ (close_range ∷ []))

module _ (s i j : ℕ) (d : List ℕ) (at : ℕ) (room : RoomFor d at (range_text s i j)) where
  pub securon-room : RoomFor d at (decimal s)
  securon-room = omega (arith, room, length-append (decimal s) (open_range ∷ (decimal i ++ from_points j)))

  module _ {m : List ℕ} {p : ℕ} (A : WrittenAt d at (decimal s) m p) where
    from-open : RoomFor m p (open_range ∷ (decimal i ++ from_points j))
    from-open = room_next (open_range ∷ (decimal i ++ from_points j)) room A

    pub open-range-room : p < length m
    open-range-room = omega (arith, from-open)

    module _ {n : List ℕ} {q : ℕ} (B : WrittenAt m p (open_range ∷ []) n q) where
      from_first : RoomFor n q (decimal i ++ from_points j)
      from_first = room_next (decimal i ++ from_points j) from-open B

      pub first-room : RoomFor n q (decimal i)
      first-room = omega (arith, from_first, length-append (decimal i) (from_points j))

      module _ {k : List ℕ} {r : ℕ} (C : WrittenAt n q (decimal i) k r) where
        from-point : RoomFor k r (from_points j)
        from-point = room_next (from_points j) from_first C

        pub point-room : r < length k
        point-room = omega (arith, from-point)

        module _ {l : List ℕ} {t : ℕ} (D : WrittenAt k r (point ∷ []) l t) where
          from_second : RoomFor l t (point ∷ (decimal j ++ (close_range ∷ [])))
          from_second = room_next (point ∷ (decimal j ++ (close_range ∷ []))) from-point D

          pub second-point-room : t < length l
          second-point-room = omega (arith, from_second)

          module _ {e : List ℕ} {u : ℕ} (E : WrittenAt l t (point ∷ []) e u) where
            from_last : RoomFor e u (decimal j ++ (close_range ∷ []))
            from_last = room_next (decimal j ++ (close_range ∷ [])) from_second E

            pub last-room : RoomFor e u (decimal j)
            last-room = omega (arith, from_last, length-append (decimal j) (close_range ∷ []))

            pub close-range-room : {f : List ℕ} {v : ℕ} → WrittenAt e u (decimal j) f v → v < length f
            close-range-room F = omega (arith, room_next (close_range ∷ []) from_last F)
