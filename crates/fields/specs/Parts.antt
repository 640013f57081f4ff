-- The smallest formats, stretches of m bytes: a byte, a number of 16 bits, bytes of any content, bytes judged one by one. Definitions only.
use Rattle.std.specs.Prelude.{◌≡◌, List, ◌⊎◌, ℕ, ◌+◌, ◌*◌, ◌<◌, ◌≤◌, get_or}
use Rattle.std.proofs.Common.{sym, ◌∙◌, arith}
use Rattle.std.proofs.Math.Decide.{dec_le, dec_lt, ℕ_discrete}
use Rattle.answer.specs.Numbers.{ends_early}
use Rattle.answer.specs.Faults.{FaultAt}
use Rattle.answer.specs.Laws.{one-fault, no-fault}
use Rattle.fields.specs.Format.{Refusal, Format}
use Rattle.fields.specs.Means.{Judging, StretchTakes, StretchFaults, Test, WrongTogether, WrongByte}
use Rattle.fields.specs.Combine.{give, ◌>>=◌}
use Rattle.fields.specs.Stretch.{stretch-one, stretch-apart, stretch-same, stretch-total, stretch-settled, stretch-inside}
use Rattle.fields.specs.Stretch.{together-all, both-decided, byte-all, byte-so-far, byte-stays}

-- a number from low to high
abbrev pub between : ℕ → ℕ → Test ℕ
between low high = record { holds = λ v. (low ≤ v) × (v ≤ high); decides = λ v. both-decided (dec_le low v) (dec_le v high) }

-- just this number
abbrev pub just : ℕ → Test ℕ
just b = record { holds = λ v. v ≡ b; decides = λ v. ℕ_discrete v b }

-- a number below u
abbrev pub below : ℕ → Test ℕ
below u = record { holds = λ v. v < u; decides = λ v. dec_lt v u }

-- anything at all
abbrev pub anything : {A : Type 0} → Test A
anything = record { holds = λ a. Unit {0}; decides = λ a. yes tt }

-- a test of what is made of bytes
abbrev pub made : {A : Type 0} → (List ℕ → A) → Test A → Test (List ℕ)
made make t = record { holds = λ l. t.holds (make l); decides = λ l. t.decides (make l) }

-- m bytes, judged so, refused with this number
abbrev pub stretch : (m : ℕ) → Judging m → Refusal → Format (List ℕ)
stretch m J refusal = record {
  Takes = StretchTakes m J refusal;
  Faults = StretchFaults m J refusal;
  one = stretch-one m J refusal;
  apart = stretch-apart m J refusal;
  same = stretch-same m J refusal;
  total = stretch-total m J refusal;
  settled = stretch-settled m J refusal;
  inside = stretch-inside m J refusal;
}

-- judged together, once all are there
abbrev pub together : (m : ℕ) → Test (List ℕ) → Judging m
together m t = record {
  Good = t.holds;
  Wrong = WrongTogether m t;
  one_place = λ l j k v w. v.2 ∙ sym w.2;
  within = λ l k w. omega (arith, w.0, w.2);
  not-both = λ l k g w. w.1 g;
  all_there = λ l e. together-all m t l e (t.decides l);
  so_far = λ l h. no (λ w. omega (arith, h, w.1.0));
  stays = λ l r k h w. absurd (omega (arith, h, w.0));
}

-- judged one by one, where every list of bytes is legal or has a fault
abbrev pub by_byte : (m : ℕ) (Legal : List ℕ → Type 0) → ((l : List ℕ) → Legal l ⊎ ((k : ℕ) × FaultAt Legal l k)) → Judging m
by_byte m Legal judge = record {
  Good = Legal;
  Wrong = WrongByte m Legal;
  one_place = λ l j k v w. one-fault Legal l j k v.0 w.0;
  within = λ l k w. w.0.within;
  not-both = λ l k g w. no-fault Legal l g w.0;
  all_there = λ l e. byte-all m Legal l e (judge l);
  so_far = λ l h. byte-so-far m Legal l h (judge l);
  stays = byte-stays m Legal;
}

-- the value that is made of m bytes, tested once all are there
abbrev pub valued : {A : Type 0} → ℕ → (List ℕ → A) → Test A → Refusal → Format A
valued m make t refusal = do
  l ← stretch m (together m (made make t)) refusal
  give (make l)

-- one byte
abbrev pub first : List ℕ → ℕ
first l = get_or l 0 0

abbrev pub byte : Test ℕ → Refusal → Format ℕ
byte = valued 1 first

-- a number of 16 bits, low byte first
abbrev pub low_first : ℕ → ℕ → ℕ
low_first low high = low + 256 * high

abbrev pub first_two : List ℕ → ℕ
first_two l = low_first (get_or l 0 0) (get_or l 1 0)

abbrev pub word : Test ℕ → Refusal → Format ℕ
word = valued 2 first_two

-- bytes of any content are at fault only where they end early
abbrev pub early : Refusal
early = record { number = ends_early; listed = (omega arith) }

abbrev pub any_byte : Format ℕ
any_byte = byte anything early

abbrev pub bytes : ℕ → Format (List ℕ)
bytes m = stretch m (together m anything) early
