-- Where the scan can't go on is the place of the first fault. Assumes nothing.
use Rattle.std.specs.Prelude.{◌≡◌, refl, List, [], ◌∷◌, ◌++◌, ℕ, ◌+◌, ◌<◌, ◌≤◌, length, take, get_or}
use Rattle.std.proofs.Common.{sym, ap, ◌∙◌, subst, append_assoc, append-nil, add-one, arith, take-suc, take_all}
use Rattle.std.proofs.Math.Option.{Option, none, some}
use Rattle.answer.specs.Faults.{CanBegin, FaultAt}
use Rattle.expression.specs.Expression.{Expr}
use Rattle.expression.specs.Bytes.{bytes}
use Rattle.text.specs.Classes.{class_of, value, space}
use Rattle.text.specs.Text.{Tokens, spaced, Says, TextOf, blank, whole, Legal}
use Rattle.text.specs.Scan.{Frame, Left, Part, alone, from, upto, State, want, bound, digits, counted, dotted, done}
use Rattle.text.specs.Scan.{fresh, move, step, ends, go_on, scan, Reached, at_first, by_byte, Reaches}
use Rattle.text.specs.Complete.{on, complete}
use Rattle.text.specs.Sound.{sound}

-- ---- from every state some text goes on to its end
abbrev Lives : State → Type 0
Lives t = (u : List ℕ) → Reached u t → CanBegin Legal u

further : (t t' : State) (x : ℕ) → step t x ≡ some t' → Lives t' → Lives t
further t t' x e k u r = let (rest, l) = k (u ++ (x ∷ [])) (by_byte x r e) in (x ∷ rest, subst Legal (append_assoc u (x ∷ []) rest) l)

ended : (t : State) (e : Expr) → ends t ≡ some e → Lives t
ended t e q u r = ([], (bytes e, rw append-nil (whole (sound r q))))

done-lives : (e : Expr) (b : Option Expr) (o : List Frame) → Lives (done e b o)
unfolding move class_of ends
done-lives e b [] = ended _ _ refl
done-lives e b (f ∷ o) = further _ _ 41 refl (done-lives _ _ o)

alone-lives : (n : ℕ) (b a : Option Expr) (o : List Frame) → Lives (counted alone n (record { bars = b; amps = a; outer = o }))
unfolding move class_of ends
alone-lives n b a [] = ended _ _ refl
alone-lives n b a (f ∷ o) = further _ _ 41 refl (done-lives _ _ o)

digits-live : (p : Part) (n : ℕ) (l : Left) → Lives (counted p n l) → Lives (digits p n l)
unfolding move class_of
digits-live p n l k = further _ _ 32 refl k

upto-lives : (s i n : ℕ) (l : Left) → Lives (counted (upto s i) n l)
unfolding move class_of
upto-lives s i n l = further _ _ 93 refl (done-lives _ _ l.outer)

counted-lives : (p : Part) (n : ℕ) (l : Left) → Lives (counted p n l)
unfolding move class_of value
counted-lives alone n l = alone-lives n l.bars l.amps l.outer
counted-lives (upto s i) n l = upto-lives s i n l
counted-lives (from s) n l =
    further _ (dotted s n l) 46 refl
    (further _ (bound (upto s n) l) 46 refl (further _ (digits (upto s n) 0 l) 48 refl (digits-live _ 0 l (upto-lives s n 0 l))))

bound-lives : (p : Part) (l : Left) → Lives (bound p l)
unfolding move class_of value
bound-lives p l = further _ (digits p 0 l) 48 refl (digits-live p 0 l (counted-lives p 0 l))

lives : (t : State) → Lives t
unfolding move class_of value
lives (want l) = further _ (digits alone 0 l) 48 refl (digits-live alone 0 l (counted-lives alone 0 l))
lives (bound p l) = bound-lives p l
lives (digits p n l) = digits-live p n l (counted-lives p n l)
lives (counted p n l) = counted-lives p n l
lives (dotted s i l) = further _ (bound (upto s i) l) 46 refl (bound-lives (upto s i) l)
lives (done e b o) = done-lives e b o

-- ---- what was read, and what follows
reads_on : {u : List ℕ} {t : State} → Reached u t → (r : List ℕ) → scan (want fresh) (u ++ r) ≡ scan t r
reads_on at_first r = refl
reads_on (by_byte {u = u} {t = t} {t' = t'} x h e) r = ap (scan (want fresh)) (append_assoc u (x ∷ []) r) ∙ reads_on h (x ∷ r) ∙ on t t' x r e

to_end : {u : List ℕ} {t : State} → Reached u t → scan (want fresh) (u ++ []) ≡ ends t
unfolding scan
to_end r = reads_on r []

no_byte : (t : State) (x : ℕ) (r : List ℕ) → step t x ≡ none → scan t (x ∷ r) ≡ none
unfolding scan
no_byte t x r e = ap (λ (o : Option State). go_on o (λ t'. scan t' r)) e

-- a blank text is of spaces, and they lead nowhere
all-spaces : (u : List ℕ) (x : ℕ) (r : List ℕ) → Tokens [] (u ++ (x ∷ r)) → class_of x ≡ space
all-spaces [] x r (spaced h w) = h
all-spaces (y ∷ u) x r (spaced h w) = all-spaces u x r w

stays-fresh : (x : ℕ) → class_of x ≡ space → step (want fresh) x ≡ some (want fresh)
unfolding move
stays-fresh x h = rw h

blank-fresh : {u : List ℕ} {t : State} → Reached u t → (r : List ℕ) → Tokens [] (u ++ r) → t ≡ want fresh
blank-fresh at_first r w = refl
blank-fresh (by_byte {u = u} {t = t} {t' = t'} x h e) r w =
    let w' : Tokens [] (u ++ (x ∷ r)) = rw append_assoc at w in
    let q = blank-fresh h (x ∷ r) w' in
    let p : step (want fresh) x ≡ some t' = subst (λ (z : State). step z x ≡ some t') q e in
    let f = stays-fresh x (all-spaces u x r w') in
    cc

-- ---- where the scan stands
nothing-there : {e : Expr} → ◌≡◌ {A = Option Expr} none (some e) → ⊥
nothing-there q = let z : ◌≡◌ {A = ℕ} 0 1 = cc in omega arith

module _ (s : List ℕ) (k : ℕ) where
  -- a text that is read to its end says what it ends with
  pub said : (t : State) (e : Expr) → length s ≤ k → Reaches s k (some t) → ends t ≡ some e → Says s e
  said t e h r q = subst (λ (z : List ℕ). Says z e) (take_all k s h) (sound r.reached (r.end h ∙ q))

  -- and one that can't be read on is at fault there
  pub fault : k ≤ length s → (Tokens [] s → ⊥) → Reaches s k none → FaultAt Legal s k
  fault h n r = record { within = h; before = lives r.t (take k s) r.reached; there = λ q w. at_byte q w.0 w.1; at-end = λ q w. at_last q w.1 }
    where
      at_last : k ≡ length s → {b : List ℕ} → TextOf s b → ⊥
      at_last q (blank w) = n w
      at_last q (whole w) =
          let e : take k s ++ [] ≡ s = append-nil (take k s) ∙ take_all k s (omega arith) in
          nothing-there (sym (r.end (omega arith)) ∙ sym (to_end r.reached) ∙ ap (scan (want fresh)) e ∙ complete w)

      stops : (x : ℕ) (rest : List ℕ) → step r.t x ≡ none → {b : List ℕ} → TextOf (take k s ++ (x ∷ rest)) b → ⊥
      stops x rest e (whole w) = nothing-there (sym (no_byte r.t x rest e) ∙ sym (reads_on r.reached (x ∷ rest)) ∙ complete w)
      stops x rest e (blank w) =
          let q = blank-fresh r.reached (x ∷ rest) w in
          let p : step (want fresh) x ≡ none = subst (λ (z : State). step z x ≡ none) q e in
          let f = stays-fresh x (all-spaces (take k s) x rest w) in
          let z : ◌≡◌ {A = ℕ} 0 1 = cc in omega arith

      at_byte : k < length s → (rest : List ℕ) → Legal (take (k + 1) s ++ rest) → ⊥
      at_byte q rest (b, g) =
          let d : take (k + 1) s ≡ take k s ++ (get_or s k 0 ∷ []) = ap (λ (z : ℕ). take z s) (add-one k) ∙ take-suc s k 0 q in
          let e = ap (λ (z : List ℕ). z ++ rest) d ∙ append_assoc (take k s) (get_or s k 0 ∷ []) rest in
          stops (get_or s k 0) rest (r.byte q) (subst (λ (z : List ℕ). TextOf z b) e g)
