-- Turning a text has one answer and leaves one output. Assumes nothing.
use Rattle.std.specs.Prelude.{◌≡◌, List, ◌++◌, ℕ, ◌<◌, ◌≤◌, length, take, drop}
use Rattle.std.proofs.Common.{sym, ap, ◌∙◌, subst, inl, inr, arith, take_all, length-take-le}
use Rattle.std.proofs.Math.Decide.{dec_lt}
use Rattle.answer.specs.declared.Answer.{Answer}
use Rattle.answer.specs.Answers.{Decides, Granted, Leaves}
use Rattle.answer.specs.Laws.{AtMostOne, OnePlaceEach, said, one_answer, one_left, one-fault}
use Rattle.text.specs.Text.{Legal}
use Rattle.text.specs.Complete.{one-reading}
use Rattle.text.specs.Turn.{longest_text, TextWrongAt, text_conditions, text_grants, text_makes}

one_place : (s : List ℕ) → AtMostOne (TextWrongAt s)
one_place s x y (inl p) (inl q) = p.1 ∙ sym q.1
one_place s x y (inl p) (inr q) = absurd (omega (arith, p.0, q.0))
one_place s x y (inr p) (inl q) = absurd (omega (arith, p.0, q.0))
one_place s x y (inr p) (inr q) = one-fault Legal s x y p.1 q.1

one-count : (s : List ℕ) → AtMostOne (text_grants s)
one-count s x y (b, g, p) (c, h, q) = p ∙ ap length (one-reading g h) ∙ sym q

one-output : (s before : List ℕ) → AtMostOne (text_makes s before)
one-output s before x y (b, g, p) (c, h, q) = p ∙ ap (λ (z : List ℕ). z ++ drop (length z) before) (one-reading g h) ∙ sym q

-- each refusal of a text names one place
pub text-places : (s : List ℕ) (room : ℕ) → OnePlaceEach (text_conditions s room)
text-places s room = (said 0, (one_place s, (said 0, tt)))

-- for every text and every output there is one answer
pub one-text-answer : (s : List ℕ) (room : ℕ) (a b : Answer)
    → Decides (text_conditions s room) (text_grants s) a
    → Decides (text_conditions s room) (text_grants s) b → a ≡ b
one-text-answer s room = one_answer (text_conditions s room) (text_grants s) (text-places s room) (one-count s)

-- and one content of the output after it
pub one-text-output : (s : List ℕ) (a : Answer) (before x y : List ℕ)
    → Leaves a (text_makes s before) before x → Leaves a (text_makes s before) before y → x ≡ y
one-text-output s a before = one_left a (text_makes s before) (one-output s before) before

-- a text's first 513 bytes decide: whoever keeps no more of it has its answer
pub first-bytes-decide : (s : List ℕ) (room : ℕ) (a : Answer)
    → Decides (text_conditions (take 513 s) room) (text_grants (take 513 s)) a
    → Decides (text_conditions s room) (text_grants s) a
first-bytes-decide s room a d = go (dec_lt 513 (length s)) d
  where
    long : 513 < length s → Decides (text_conditions (take 513 s) room) (text_grants (take 513 s)) a → Decides (text_conditions s room) (text_grants s) a
    long h (inl p) = inl p
    long h (inr (q, inl (n, e, inl w))) = inr (q, inl ((λ r. omega (arith, r.0)), e, inl (omega arith, w.1)))
    long h (inr (q, inl (n, e, inr w))) = absurd (omega (arith, w.0, length-take-le 513 s (omega arith)))
    long h (inr (q, inr (r, w))) = absurd (omega (arith, r.0, length-take-le 513 s (omega arith)))

    go : Dec (513 < length s) → Decides (text_conditions (take 513 s) room) (text_grants (take 513 s)) a → Decides (text_conditions s room) (text_grants s) a
    go (yes h) d = long h d
    go (no n) d = subst (λ (z : List ℕ). Decides (text_conditions z room) (text_grants z) a) (take_all 513 s (omega arith)) d

-- what a grant says
pub granted-right : (s : List ℕ) (room : ℕ) (a : Answer)
    → Decides (text_conditions s room) (text_grants s) a → Granted a
    → (length s ≤ longest_text) × text_grants s a.place
granted-right s room a (inl p) g = absurd (omega (arith, p.1, g))
granted-right s room a (inr (h, inl p)) g = absurd (omega (arith, p.1, g))
granted-right s room a (inr (h, inr (r, inl p))) g = absurd (omega (arith, p.1, g))
granted-right s room a (inr (h, inr (r, inr (f, p)))) g = (r.0, p.1)
