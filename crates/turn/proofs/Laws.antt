-- The laws of a printed line: what was kept of a line of input has the line's answer and bytes; and of the lines of a piece. Assumes nothing.
use mathlib.Core.Path.{◌≡◌, refl, sym, ap, ap₂, ◌∙◌, subst}
use mathlib.Core.List.{List, [], ◌∷◌, ◌++◌, append_assoc, append-nil}
use Prim.Native.Nat.{ℕ, ◌+◌, ◌-◌, ◌≤◌}
use native.Mathlib.Omega.{arith}
use lib.ListN.{length, take, drop, length-take, length-append, length-drop, drop_of_length-le}
use lib.Seq.{take_all, take-append_seam, drop_at, take-add, drop-drop}
use Rattle.std.proofs.Common.{Some, None}
use Rattle.answer.specs.declared.Answer.{Answer}
use Rattle.answer.specs.Answers.{Decides, Granted, Leaves}
use Rattle.expression.specs.Bytes.{longest}
use Rattle.text.specs.Text.{TextOf}
use Rattle.text.specs.Turn.{text_conditions, text_grants, text_makes}
use Rattle.text.specs.Complete.{one-reading}
use Rattle.text.specs.Laws.{first-bytes-decide, granted-right}
use Rattle.lines.specs.Lines.{Fills, Held, Collected}
use Rattle.lines.specs.declared.begun.Begun.{Begun}
use Rattle.lines.specs.Laws.{ended-front, unfinished-front, none-held}
use Rattle.turn.specs.declared.Answered.{Answered}
use Rattle.turn.specs.Printed.{PrintsAnswer, PiecePrints, line-goes-on, line-ends, AnswersFront}
use Rattle.turn.specs.Pieces.{then-piece, front-is}

module _ (begun : Begun) (s before bytes : List ℕ) (is_s : s ≡ take begun.n begun.bytes) (a : Answer)
    (D : Decides (text_conditions s longest) (text_grants s) a)
    (L : Leaves a (text_makes s before) before bytes) where
  -- a text that is granted is not cut
  whole : (w : List ℕ) → Held begun.n begun.bytes w → Granted a → s ≡ w
  whole w h g =
      let c = (granted-right s longest a D g).0 in
      let e = ap length (is_s ∙ h.is) ∙ length-take 513 w in
      is_s ∙ h.is ∙ take_all 513 w (omega arith)

  shown : Granted a → TextOf s (take a.place bytes)
  shown g = go (granted-right s longest a D g).1 (L.on-grant g)
    where
      go : text_grants s a.place → text_makes s before bytes → TextOf s (take a.place bytes)
      go (b, x, p) (c, y, q) =
          let e : c ≡ take a.place bytes =
          sym
          (ap (λ (z : List ℕ). take a.place z) q
          ∙ ap (λ (z : ℕ). take z (c ++ drop (length c) before)) (p ∙ ap length (one-reading x y))
          ∙ take-append_seam c (drop (length c) before)) in
          subst (TextOf s) e y

  pub prints-it : (k : ℕ) → (Granted a → k ≡ a.place) → ((Granted a → ⊥) → k ≡ 0) → (d e : List ℕ) (r : ℕ) → Fills a (take k bytes) d e r
      → PrintsAnswer begun d e r
  prints-it k grant refusal d e r f = record {
    line = f.line;
    prints = λ w h. record {
      answer = a;
      bytes = take k bytes;
      decides = first-bytes-decide w longest a (subst (λ (z : List ℕ). Decides (text_conditions z longest) (text_grants z) a) (is_s ∙ h.is) D);
      made =
          λ g. subst (λ (z : List ℕ). TextOf z (take k bytes)) (whole w h g)
          (subst (λ (z : ℕ). TextOf s (take z bytes)) (sym (grant g)) (shown g));
      none = λ g. ap (λ (z : ℕ). take z bytes) (refusal g);
      line-is = f.is-line;
    };
    fits = f.fits;
    filled = f.filled;
  }

-- ---- one line
-- what fills the front of an output is as long as it says
filled-count : (line before after : List ℕ) (r : ℕ) → r ≤ length after → after ≡ line ++ drop r before → length after ≡ length before → r ≡ length line
filled-count line before after r h e l = omega (arith, ap length e ∙ length-append line (drop r before), length-drop r before)

module _ {piece : List ℕ} {begun next : Begun} where
  -- the line has ended, its line is printed, and the next one begins
  pub line-answered : {p : ℕ} → Collected piece begun (Some p) next → {before after : List ℕ} {r : ℕ} {empty : Begun} → PrintsAnswer next before after r
      → length after ≡ length before → empty.n ≡ 0 → AnswersFront piece begun before (record { used = p; printed = r }) empty after
  line-answered {p} C {empty = empty} P l e = record {
    lines = P.line;
    prints = λ w h. (
      [],
      subst (λ (z : List ℕ). PiecePrints w z [] P.line) (sym (ended-front C))
          (subst (λ (z : List ℕ). PiecePrints w (C.part ++ (10 ∷ [])) [] z) (append-nil P.line)
          (line-ends C.part C.unended (P.prints (w ++ C.part) (C.held w h)) (line-goes-on tt))),
      subst (λ (k : ℕ). Held k empty.bytes []) (sym e) (none-held empty.bytes),
    );
    within = C.ends.0;
    count = filled-count P.line _ _ _ P.fits P.filled l;
    filled = P.filled;
  }

  pub line_kept : Collected piece begun None next → {before : List ℕ}
      → AnswersFront piece begun before (record { used = length piece; printed = 0 }) next before
  line_kept C {before} = record {
    lines = [];
    prints = λ w h. (
      w ++ C.part,
      subst (λ (z : List ℕ). PiecePrints w z (w ++ C.part) []) (sym (unfinished-front C)) (line-goes-on C.unended),
      C.held w h,
    );
    within = omega arith;
    count = refl;
    filled = refl;
  }

-- ---- the lines of a piece
pub front-none : (piece : List ℕ) (begun : Begun) (before : List ℕ) → AnswersFront piece begun before (record { used = 0; printed = 0 }) begun before
front-none piece begun before = record {
  lines = [];
  prints = λ w h. (w, subst (λ (z : List ℕ). PiecePrints w [] z []) (append-nil w) (line-goes-on tt), h);
  within = omega arith;
  count = refl;
  filled = refl;
}

-- what lies past i, to the end
rest-is : (l : List ℕ) (i : ℕ) → take (length l - i) (drop i l) ≡ drop i l
rest-is l i = take_all (length l - i) (drop i l) (omega (arith, length-drop i l))

-- some bytes, and then some of what is left
abbrev pub together : Answered → Answered → Answered
together r s = record { used = r.used + s.used; printed = r.printed + s.printed }

module _ {piece : List ℕ} {begun : Begun} {before : List ℕ} {r : Answered} {next : Begun} {out : List ℕ} (f : AnswersFront piece begun before r next out) where
  left-of-output : drop r.printed out ≡ drop r.printed before
  left-of-output = ap (drop r.printed) f.filled ∙ drop_at f.lines (drop r.printed before) r.printed (sym f.count)

  front-of-output : take r.printed out ≡ f.lines
  front-of-output = front-is f.lines (drop r.printed before) f.count f.filled

  then-rest : {s : Answered} {last : Begun} {w : List ℕ} → AnswersFront (drop r.used piece) next (drop r.printed out) s last w
      → AnswersFront piece begun before (together r s) last (take r.printed out ++ w)
  then-rest {s} g = record {
    lines = f.lines ++ g.lines;
    prints = λ v h.
        let (middle, p, hp) = f.prints v h in
        let (left, q, hq) = g.prints middle hp in (
          left,
          subst (λ (z : List ℕ). PiecePrints v z left (f.lines ++ g.lines)) (sym (take-add r.used s.used piece)) (then-piece p q),
          hq,
        );
    within = omega (arith, f.within, g.within, length-drop r.used piece);
    count = omega (arith, f.count, g.count, length-append f.lines g.lines);
    filled =
        ap₂ (λ (x y : List ℕ). x ++ y) front-of-output
        (g.filled ∙ ap (λ (z : List ℕ). g.lines ++ drop s.printed z) left-of-output
        ∙ ap (λ (z : List ℕ). g.lines ++ z) (drop-drop s.printed r.printed before))
        ∙ sym (append_assoc f.lines g.lines (drop (r.printed + s.printed) before));
  }

  -- nothing lies past the rest
  no_more : drop (length out - r.printed) (drop r.printed out) ≡ []
  no_more = drop_of_length-le (drop r.printed out) {i = length out - r.printed} (omega (arith, length-drop r.printed out))

  -- the same, as the code lends the rest and has it back
  pub then-lent : {s : Answered} {last : Begun} {w : List ℕ}
      → AnswersFront (take (length piece - r.used) (drop r.used piece)) next (take (length out - r.printed) (drop r.printed out)) s last w
      → AnswersFront piece begun before (together r s) last (take r.printed out ++ (w ++ drop (length out - r.printed) (drop r.printed out)))
  then-lent {s} {last} {w} g =
      subst (λ (z : List ℕ). AnswersFront piece begun before (together r s) last (take r.printed out ++ z))
      (sym (ap (λ (z : List ℕ). w ++ z) no_more ∙ append-nil w))
      (then-rest
      (subst (λ (z : List ℕ). AnswersFront z next (drop r.printed out) s last w) (rest-is piece r.used)
      (subst (λ (z : List ℕ). AnswersFront (take (length piece - r.used) (drop r.used piece)) next z s last w) (rest-is out r.printed) g)))
