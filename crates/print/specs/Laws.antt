-- What a print is: one text, the shortest that says its expression, never long, and reading it gives the same bytes again (02, [1]). Assumes nothing.
use Rattle.std.specs.Prelude.{◌≡◌, refl, List, [], ◌∷◌, ◌++◌, ◌⊎◌, ℕ, ◌<◌, ◌≤◌, length, get_or, drop}
use Rattle.std.proofs.Common.{sym, ap, ◌∙◌, subst, inl, inr, arith}
use Rattle.answer.specs.declared.Answer.{Answer}
use Rattle.answer.specs.Answers.{Granted, Decides, Leaves}
use Rattle.answer.specs.Laws.{AtMostOne, OnePlaceEach, said, one_answer, one_left}
use Rattle.answer.specs.Lists.{all-granted}
use Rattle.tree.specs.declared.Tree.{Tree}
use Rattle.tree.specs.Tree.{SmallerBelow, IsTree, HasLevel, root, child, IsDepth}
use Rattle.expression.specs.Expression.{Expr, term, one, range, ◌AND◌, ◌OR◌}
use Rattle.expression.specs.declared.Kind.TheVariants.{Protection}
use Rattle.expression.specs.Bytes.{bytes, longest, Fits}
use Rattle.expression.specs.Judge.{InOrderOver}
use Rattle.expression.specs.Scan.{bytes-some}
use Rattle.expression.specs.Unique.{one-expression}
use Rattle.order.specs.Laws.{one-in-order}
use Rattle.text.specs.Text.{TextOf, blank, whole, Tokens, end, spaced}
use Rattle.text.specs.Turn.{longest_text, text_conditions, text_grants, text_makes}
use Rattle.text.specs.Complete.{one-reading}
use Rattle.text.specs.Laws.{granted-right}
use Rattle.policy.specs.declared.State.{State}
use Rattle.print.specs.Print.{decimal, printed, PrintOf, of-nothing, of-expression, print_conditions, print_grants, print_makes}
use Rattle.print.specs.Longest.{Digits, two-digits-most, below-hundred, longest_expr, longest-print, longest-fits}
use Rattle.print.specs.Spelling.{Writable, print-says}
use Rattle.print.specs.Shortest.{print-shortest}

-- ---- one print
-- bytes that have a print are none, or those of an expression
PrintCases : List ℕ → List ℕ → Type 0
PrintCases x p = ((x ≡ []) × (p ≡ [])) ⊎ ((e : Expr) × (x ≡ bytes e) × (p ≡ printed e))

cases : {x p : List ℕ} → PrintOf x p → PrintCases x p
unfolding PrintCases
cases of-nothing = inl (refl, refl)
cases (of-expression e) = inr (e, refl, refl)

pub one-print-of : {x p q : List ℕ} → PrintOf x p → PrintOf x q → p ≡ q
unfolding PrintCases
one-print-of {x} {p} {q} v w = go (cases v) (cases w)
  where
    go : PrintCases x p → PrintCases x q → p ≡ q
    go (inl (e, h)) (inl (f, k)) = h ∙ sym k
    go (inl (e, h)) (inr (b, f, k)) = absurd (bytes-some b (sym f ∙ e))
    go (inr (a, e, h)) (inl (f, k)) = absurd (bytes-some a (sym e ∙ f))
    go (inr (a, e, h)) (inr (b, f, k)) = h ∙ ap printed (one-expression a b (sym e ∙ f)) ∙ sym k

-- ---- one answer, and one content
one-length : (x : List ℕ) → AtMostOne (print_grants x)
one-length x i j (p, v, h) (q, w, k) = h ∙ ap length (one-print-of v w) ∙ sym k

pub print-places : (s : State) (x : List ℕ) (room : ℕ) → OnePlaceEach (print_conditions s x room)
print-places s x room = (said 0, (one-in-order Protection s.tree 0 x, (said 0, tt)))

pub one-print-answer : (s : State) (x : List ℕ) (room : ℕ) (a b : Answer)
    → Decides (print_conditions s x room) (print_grants x) a
    → Decides (print_conditions s x room) (print_grants x) b → a ≡ b
one-print-answer s x room =
    let places : OnePlaceEach (print_conditions s x room) = (said 0, (one-in-order Protection s.tree 0 x, (said 0, tt))) in
    one_answer (print_conditions s x room) (print_grants x) places (one-length x)

pub one-print-output : (x : List ℕ) (a : Answer) (before y z : List ℕ)
    → Leaves a (print_makes x before) before y → Leaves a (print_makes x before) before z → y ≡ z
one-print-output x a before = one_left a (print_makes x before) one-content before
  where
    one-content : AtMostOne (print_makes x before)
    one-content y z (p, v, h) (q, w, k) = h ∙ ap (λ (l : List ℕ). l ++ drop (length l) before) (one-print-of v w) ∙ sym k

-- ---- numbers of a tree have at most two digits
level-below : {p : List ℕ} {n : ℕ} → SmallerBelow p n → {u k : ℕ} → u < n → HasLevel p u k → k ≤ u
level-below h l root = omega arith
level-below {p} h {u} l (child c w) = omega (arith, h u c l, level-below h {u = get_or p u 0} (omega (arith, h u c l)) w)

depth_below : {t : Tree} {d : ℕ} → IsTree t → IsDepth t d → d < 64
depth_below w d = omega (arith, d.deepest.1, w.count.1, level-below w.smaller d.deepest.1 d.deepest.2)

module _ {t : Tree} (w : IsTree t) {d : ℕ} (deep : IsDepth t d) where
  writable : (e : Expr) → Fits Protection t.n d e → Writable e
  writable (term (one s)) h = omega (arith, h, w.count.1)
  writable (term (range s i j)) (h, k, l) =
      (omega (arith, h, w.count.1), omega (arith, k, l, depth_below w deep), omega (arith, l, depth_below w deep))
  writable (a AND b) (h, k) = (writable a h, writable b k)
  writable (a OR b) (m, h, k) = (writable a h, writable b k)

two_digits : (e : Expr) → Writable e → Digits 2 e
two_digits (term (one s)) h = below-hundred s h
two_digits (term (range s i j)) (h, k, l) = (below-hundred s h, below-hundred i k, below-hundred j l)
two_digits (a AND b) (h, k) = (two_digits a h, two_digits b k)
two_digits (a OR b) (h, k) = (two_digits a h, two_digits b k)

-- ---- bytes in order over a tree, and their print
module _ {t : Tree} (w : IsTree t) {x p : List ℕ} (o : InOrderOver Protection t x) (v : PrintOf x p) where
  fitting : (e : Expr) → x ≡ bytes e → Writable e
  fitting e h = go o.2.1
    where
      go : (x ≡ []) ⊎ ((f : Expr) × Fits Protection t.n o.0 f × (x ≡ bytes f)) → Writable e
      go (inl k) = absurd (bytes-some e (sym h ∙ k))
      go (inr (f, g, k)) = subst Writable (one-expression f e (sym k ∙ h)) (writable w o.1 f g)

  few : length x ≤ longest
  few = o.2.0

  -- it is a text of these bytes
  pub print-reads : TextOf p x
  print-reads = go v few fitting
    where
      go : {x p : List ℕ} → PrintOf x p → length x ≤ longest → ((e : Expr) → x ≡ bytes e → Writable e) → TextOf p x
      go of-nothing l f = blank end
      go (of-expression e) l f = whole (print-says e (f e refl))

  -- never over 512 bytes: 117 is the most
  pub print-most : length p ≤ 117
  print-most = go v few fitting
    where
      go : {x p : List ℕ} → PrintOf x p → length x ≤ longest → ((e : Expr) → x ≡ bytes e → Writable e) → length p ≤ 117
      go of-nothing l f = omega arith
      go (of-expression e) l f = two-digits-most e (two_digits e (f e refl)) l

  -- "Reading the print gives the same bytes again": whatever turning the print answers, and whatever it leaves in an output of 48 bytes or more,
  -- it was granted, and the bytes are those that were printed
  pub read_back : (before after : List ℕ) (a : Answer) → longest ≤ length before
      → Decides (text_conditions p (length before)) (text_grants p) a → Leaves a (text_makes p before) before after
      → Granted a × (a.place ≡ length x) × (after ≡ x ++ drop (length x) before)
  read_back before after a room d l =
      let fits : length p ≤ longest_text = omega (arith, print-most) in
      let g = all-granted (text_grants p) a (text_conditions p (length before)) (room, ((fits, (x, print-reads)), ((x, print-reads, few), tt))) d in
      let k = (granted-right p (length before) a d g).1 in
      let m = l.on-grant g in (
        g,
        k.2 ∙ ap length (one-reading k.1 print-reads),
        m.2 ∙ ap (λ (y : List ℕ). y ++ drop (length y) before) (one-reading m.1 print-reads),
      )

  -- "Reprinting a print changes nothing": what is read from it prints as it
  pub reprint-same : {y q : List ℕ} → TextOf p y → PrintOf y q → q ≡ p
  reprint-same {y} {q} r z = one-print-of (subst (λ (b : List ℕ). PrintOf b q) (one-reading r print-reads) z) v

-- "with parentheses only where the grouping needs them and no spaces": it is the one shortest text of these bytes; any other is longer
pub one-shortest : {x p s : List ℕ} → PrintOf x p → TextOf s x → (length p < length s) ⊎ (s ≡ p)
unfolding PrintCases
one-shortest {x} {p} {s} v w = go (cases v) w
  where
    spaces : {r : List ℕ} → Tokens [] r → (0 < length r) ⊎ (r ≡ [])
    spaces end = inr refl
    spaces (spaced h u) = inl (omega arith)

    of_none : {y : List ℕ} → TextOf s y → y ≡ [] → (0 < length s) ⊎ (s ≡ [])
    of_none (blank u) h = spaces u
    of_none (whole {e = e} u) h = absurd (bytes-some e h)

    of_some : {y : List ℕ} → TextOf s y → (e : Expr) → y ≡ bytes e → (length (printed e) < length s) ⊎ (s ≡ printed e)
    of_some (blank u) e h = absurd (bytes-some e (sym h))
    of_some (whole {e = f} u) e h =
        subst (λ (g : Expr). (length (printed g) < length s) ⊎ (s ≡ printed g)) (one-expression f e h) (print-shortest f s u)

    go : PrintCases x p → TextOf s x → (length p < length s) ⊎ (s ≡ p)
    go (inl (h, k)) t = subst (λ (q : List ℕ). (length q < length s) ⊎ (s ≡ q)) (sym k) (of_none t h)
    go (inr (e, h, k)) t = subst (λ (q : List ℕ). (length q < length s) ⊎ (s ≡ q)) (sym k) (of_some t e h)

-- 117 is reached: by 47 bytes, over 64 securons in a line
pub most-reached : Fits Protection 64 63 longest_expr × (length (bytes longest_expr) ≡ 47) × (length (printed longest_expr) ≡ 117)
most-reached = (longest-fits, longest-print.0, longest-print.1)

-- ---- examples
abbrev s1 : Expr
s1 = term (one 1)

abbrev s3 : Expr
s3 = term (one 3)

abbrev s5 : Expr
s5 = term (one 5)

-- "1&(3&5) keeps its pair and 1&3&5 gets none"
pub a-right-and-keeps-its-pair : printed (s1 AND (s3 AND s5)) ≡ 49 ∷ 38 ∷ 40 ∷ 51 ∷ 38 ∷ 53 ∷ 41 ∷ []
unfolding printed decimal
a-right-and-keeps-its-pair = refl

pub a-left-and-gets-none : printed (s1 AND s3 AND s5) ≡ 49 ∷ 38 ∷ 51 ∷ 38 ∷ 53 ∷ []
unfolding printed decimal
a-left-and-gets-none = refl

-- (1|3)&5 keeps its pair and 1|3&5 gets none
pub or-under-and-keeps-its-pair : printed ((s1 OR s3) AND s5) ≡ 40 ∷ 49 ∷ 124 ∷ 51 ∷ 41 ∷ 38 ∷ 53 ∷ []
unfolding printed decimal
or-under-and-keeps-its-pair = refl

pub and-under-or-gets-none : printed (s1 OR s3 AND s5) ≡ 49 ∷ 124 ∷ 51 ∷ 38 ∷ 53 ∷ []
unfolding printed decimal
and-under-or-gets-none = refl
