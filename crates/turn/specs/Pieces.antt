-- Pieces of the input, one after another, and then its end print what the whole input prints, which is one thing. Assumes nothing.
use Rattle.std.specs.Prelude.{◌≡◌, refl, List, [], ◌∷◌, ◌++◌, ℕ, length, take}
use Rattle.std.proofs.Common.{sym, ap, ap₂, ◌∙◌, subst, append_assoc, append-nil, inl, inr, take_at}
use Rattle.lines.specs.declared.begun.Begun.{Begun}
use Rattle.lines.specs.Lines.{Unended, Held}
use Rattle.lines.specs.Laws.{unended-append, has_end, same-part, same_rest, none-held}
use Rattle.turn.specs.Printed.{Printed, PrintsLast, PrintsLines, last_line, first-line, PiecePrints, line-goes-on, line-ends}
use Rattle.turn.specs.Printed.{Blocks, last_block, next-block}
use Rattle.turn.specs.Laws.{one-print}

-- ---- pieces
-- a part without a line end, and then a piece
part_then : {begun middle piece left printed : List ℕ} (part : List ℕ) → Unended part → PiecePrints middle piece left printed → middle ≡ begun ++ part
    → PiecePrints begun (part ++ piece) left printed
part_then {begun} {middle} part u (line-goes-on {part = p} v) e =
    subst (λ (z : List ℕ). PiecePrints begun (part ++ p) z []) (sym (append_assoc begun part p) ∙ ap (λ (z : List ℕ). z ++ p) (sym e))
    (line-goes-on (unended-append part p u v))
part_then {begun} {middle} {left = left} part u (line-ends {line = line} {rest} {printed = printed} p v l more) e =
    let w : middle ++ p ≡ begun ++ (part ++ p) = ap (λ (z : List ℕ). z ++ p) e ∙ append_assoc begun part p in
    subst (λ (z : List ℕ). PiecePrints begun z left (line ++ printed)) (append_assoc part p (10 ∷ rest))
    (line-ends (part ++ p) (unended-append part p u v) (subst (λ (z : List ℕ). Printed z line) w l) more)

-- a piece and then a piece are a piece
pub then-piece : {begun piece middle more left x y : List ℕ} → PiecePrints begun piece middle x → PiecePrints middle more left y
    → PiecePrints begun (piece ++ more) left (x ++ y)
then-piece (line-goes-on {part = p} u) q = part_then p u q refl
then-piece {begun} {more = more} {left} {y = y} (line-ends {line = line} {rest} {printed = printed} p u l next) q =
    subst (λ (z : List ℕ). PiecePrints begun z left ((line ++ printed) ++ y)) (sym (append_assoc p (10 ∷ rest) more))
    (subst (λ (z : List ℕ). PiecePrints begun (p ++ (10 ∷ (rest ++ more))) left z) (sym (append_assoc line printed y))
    (line-ends p u l (then-piece next q)))

-- what a piece leaves has no line end
left-unended : {begun piece left x : List ℕ} → Unended begun → PiecePrints begun piece left x → Unended left
left-unended {begun} h (line-goes-on {part = p} u) = unended-append begun p h u
left-unended h (line-ends p u l next) = left-unended tt next

-- a line that was begun, a piece, and then the rest of the input
then_lines : {begun piece left x : List ℕ} (rest : List ℕ) {y : List ℕ} → Unended begun → PiecePrints begun piece left x → PrintsLines (left ++ rest) y
    → PrintsLines (begun ++ (piece ++ rest)) (x ++ y)
then_lines {begun} rest {y} h (line-goes-on {part = p} u) more = subst (λ (z : List ℕ). PrintsLines z y) (append_assoc begun p rest) more
then_lines {begun} rest {y} h (line-ends {line = line} {rest = r} {printed = printed} p u l next) more =
    let e : (begun ++ p) ++ (10 ∷ (r ++ rest)) ≡ begun ++ ((p ++ (10 ∷ r)) ++ rest) =
    append_assoc begun p (10 ∷ (r ++ rest)) ∙ ap (λ (z : List ℕ). begun ++ z) (sym (append_assoc p (10 ∷ r) rest)) in
    subst (λ (z : List ℕ). PrintsLines z ((line ++ printed) ++ y)) e
    (subst (λ (z : List ℕ). PrintsLines ((begun ++ p) ++ (10 ∷ (r ++ rest))) z) (sym (append_assoc line printed y))
    (first-line (unended-append begun p h u) l (then_lines rest tt next more)))

-- ---- blocks
-- what fills the front of an output
pub front-is : (lines rest : List ℕ) {after : List ℕ} {r : ℕ} → r ≡ length lines → after ≡ lines ++ rest → take r after ≡ lines
front-is lines rest {r = r} c e = ap (take r) e ∙ take_at lines rest r (sym c)

blocks-after : {begun : Begun} {input written w : List ℕ} → Blocks begun input written → Held begun.n begun.bytes w → Unended w
    → PrintsLines (w ++ input) written
blocks-after {w = w} (last_block {after = after} {r} a) h u =
    subst (λ (z : List ℕ). PrintsLines z (take r after)) (sym (append-nil w))
    (last_line u (subst (PrintsLast w) (sym (front-is a.printed _ a.count a.filled)) (a.prints w h)))
blocks-after {w = w} (next-block {piece = piece} {rest = rest} {written} {r} a more) h u =
    let f = a.front in
    let (left, p, k) = f.prints w h in
    subst (λ (z : List ℕ). PrintsLines (w ++ (take r.used piece ++ rest)) (z ++ written)) (sym (front-is f.lines _ f.count f.filled))
    (then_lines rest u p (blocks-after more k (left-unended u p)))

-- from the start of the input on, where no line is begun, to its end: the blocks are what the whole input prints
pub blocks-print-the-input : {begun : Begun} {input written : List ℕ} → begun.n ≡ 0 → Blocks begun input written → PrintsLines input written
blocks-print-the-input {begun} e b = blocks-after b (subst (λ (k : ℕ). Held k begun.bytes []) (sym e) (none-held begun.bytes)) tt

-- ---- one thing is printed
one_last : {w x y : List ℕ} → PrintsLast w x → PrintsLast w y → x ≡ y
one_last (inl p) (inl q) = p.1 ∙ sym q.1
one_last (inl p) (inr q) = absurd (q.0 p.0)
one_last (inr p) (inl q) = absurd (p.0 q.0)
one_last (inr p) (inr q) = one-print p.1 q.1

same_lines : {v w x y : List ℕ} → PrintsLines v x → PrintsLines w y → v ≡ w → x ≡ y
same_lines {y = y} (last_line u p) (last_line v q) e = one_last p (subst (λ (z : List ℕ). PrintsLast z y) (sym e) q)
same_lines (last_line u p) (first-line {w} {rest = rest} v l q) e = absurd (has_end w rest (subst Unended e u))
same_lines (first-line {w} {rest = rest} u l p) (last_line v q) e = absurd (has_end w rest (subst Unended (sym e) v))
same_lines (first-line {w} {rest = r} u l p) (first-line {w = w'} {line = m} {rest = s} v k q) e =
    ap₂ (λ (a b : List ℕ). a ++ b) (one-print l (subst (λ (z : List ℕ). Printed z m) (sym (same-part w w' r s u v e)) k))
    (same_lines p q (same_rest w w' r s u v e))

pub one-printing : {input x y : List ℕ} → PrintsLines input x → PrintsLines input y → x ≡ y
one-printing p q = same_lines p q refl
