-- An answer to a text has a small place, so it fits one number; and there is one. Assumes nothing.
use Rattle.std.specs.Prelude.{◌≡◌, List, ℕ, ◌<◌, ◌≤◌, length}
use Rattle.std.proofs.Common.{sym, ap, ◌∙◌, subst, inl, inr, arith}
use Rattle.answer.specs.declared.Answer.{Answer}
use Rattle.answer.specs.Answers.{Decides, Leaves, packed}
use Rattle.text.specs.Turn.{text_conditions, text_grants, text_makes}
use Rattle.text.specs.Complete.{one-reading}
use Rattle.text.specs.Laws.{one-text-answer, one-text-output}
use Rattle.loafawning.specs.Exported.{Turns}

-- a number below 256, and a place of at most 512
pub small : (text : List ℕ) (room : ℕ) (a : Answer) → Decides (text_conditions text room) (text_grants text) a → (a.number < 256) × (a.place ≤ 512)
small text room a (inl p) = (omega (arith, p.1), omega (arith, p.2))
small text room a (inr (h, inl (n, e, inl w))) = (omega arith, omega (arith, w.1))
small text room a (inr (h, inl (n, e, inr w))) = (omega arith, omega (arith, w.0, w.1.within))
small text room a (inr (h, inr (r, inl p))) = (omega (arith, p.1), omega (arith, p.2))
small text room a (inr (h, inr (r, inr ((b, g, l), (e, (c, k, m)))))) = (omega arith, omega (arith, l, m, ap length (one-reading g k)))

-- for every text and every output there is one number, and one output after it
pub one-turn : {text before x y : List ℕ} {r s : ℕ} → Turns text before x r → Turns text before y s → (r ≡ s) × (x ≡ y)
one-turn {text} {before} {x} {y} p q =
    let e : p.answer ≡ q.answer = one-text-answer text (length before) p.answer q.answer p.decides q.decides in
    let leaves = subst (λ (a : Answer). Leaves a (text_makes text before) before y) (sym e) q.leaves in
    (p.is ∙ ap packed e ∙ sym q.is, one-text-output text p.answer before x y p.leaves leaves)
