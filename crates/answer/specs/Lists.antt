-- Laws of lists of conditions: what a grant tells, one list after another, when two lists decide
-- alike, and how large a number and a place can be. Assumes nothing.
use Rattle.std.specs.Prelude.{◌≡◌, Bool, true, ◌&&◌, List, [], ◌∷◌, ◌++◌, ◌↔◌, ℕ, ◌<◌, ltb}
use Rattle.std.proofs.Common.{sym, ◌∙◌, inl, inr, arith, ltb-true}
use Rattle.logic.specs.Iff.{and-iff, iff-refl}
use Rattle.answer.specs.declared.Answer.{Answer}
use Rattle.answer.specs.Numbers.{done}
use Rattle.answer.specs.Answers.{Condition, Decides, Granted, Is, AllHold, FirstFails}
use Rattle.answer.specs.Laws.{OnePlaceEach}

-- whether no refusal of the list has the number of a grant
abbrev pub refuses : List Condition → Bool
refuses [] = true
refuses (c ∷ cs) = ltb 0 c.number && refuses cs

module _ (grants : ℕ → Type 0) (a : Answer) where
  -- a grant says that every condition holds
  pub granted-all : (cs : List Condition) → refuses cs ≡ true → Decides cs grants a → Granted a → AllHold cs
  granted-all [] r d g = tt
  granted-all (c ∷ cs) r (inl p) g =
      let w = (and-iff (ltb 0 c.number) (refuses cs) iff-refl iff-refl).0 r in
      absurd (omega (arith, ltb-true 0 c.number w.0, p.1))
  granted-all (c ∷ cs) r (inr p) g =
      let w = (and-iff (ltb 0 c.number) (refuses cs) iff-refl iff-refl).0 r in (p.0, granted-all cs w.1 p.1 g)

  -- and names its place
  pub granted-place : (cs : List Condition) → refuses cs ≡ true → Decides cs grants a → Granted a → grants a.place
  granted-place [] r d g = d.1
  granted-place (c ∷ cs) r (inl p) g =
      let w = (and-iff (ltb 0 c.number) (refuses cs) iff-refl iff-refl).0 r in
      absurd (omega (arith, ltb-true 0 c.number w.0, p.1))
  granted-place (c ∷ cs) r (inr p) g =
      let w = (and-iff (ltb 0 c.number) (refuses cs) iff-refl iff-refl).0 r in granted-place cs w.1 p.1 g

  -- where every condition holds there is a grant
  pub all-granted : (cs : List Condition) → AllHold cs → Decides cs grants a → Granted a
  all-granted [] h d = d.0
  all-granted (c ∷ cs) h (inl p) = absurd (p.0 h.0)
  all-granted (c ∷ cs) h (inr p) = all-granted cs h.1 p.1

  -- granted exactly when all hold
  pub granted-exactly : (cs : List Condition) → refuses cs ≡ true → Decides cs grants a → Granted a ↔ AllHold cs
  granted-exactly cs r d = (granted-all cs r d, λ h. all-granted cs h d)

  fails : (cs : List Condition) (n k : ℕ) → (n ≡ done → ⊥) → Decides cs grants a → Is a n k → FirstFails cs n k
  fails [] n k z d i = absurd (z (sym i.number ∙ d.0))
  fails (c ∷ cs) n k z (inl d) i = inl (d.0, sym d.1 ∙ i.number, rw i.place at d.2)
  fails (c ∷ cs) n k z (inr d) i = inr (d.0, fails cs n k z d.1 i)

  failed : (cs : List Condition) → OnePlaceEach cs → (n k : ℕ) → Decides cs grants a → FirstFails cs n k → Is a n k
  failed [] one n k d f = absurd f
  failed (c ∷ cs) one n k (inl d) (inl f) = record { number = d.1 ∙ f.1; place = one.0 _ _ d.2 f.2 }
  failed (c ∷ cs) one n k (inl d) (inr f) = absurd (d.0 f.0)
  failed (c ∷ cs) one n k (inr d) (inl f) = absurd (f.0 d.0)
  failed (c ∷ cs) one n k (inr d) (inr f) = failed cs one.1 n k d.1 f.1

  -- refused with that number at that place exactly when the first condition that fails says so
  pub refused-exactly : (cs : List Condition) → OnePlaceEach cs → (n k : ℕ) → (n ≡ done → ⊥) → Decides cs grants a → Is a n k ↔ FirstFails cs n k
  refused-exactly cs one n k z d = (fails cs n k z d, failed cs one n k d)

  -- a refusal by the first list is one by both
  pub refused-first : (xs ys : List Condition) → Decides xs grants a → (Granted a → ⊥) → Decides (xs ++ ys) grants a
  refused-first [] ys d n = absurd (n d.0)
  refused-first (c ∷ xs) ys (inl p) n = inl p
  refused-first (c ∷ xs) ys (inr p) n = inr (p.0, refused-first xs ys p.1 n)

  -- where the first list holds, the second decides
  pub then-second : (xs ys : List Condition) → AllHold xs → Decides ys grants a → Decides (xs ++ ys) grants a
  then-second [] ys h d = d
  then-second (c ∷ xs) ys h d = inr (h.0, then-second xs ys h.1 d)

-- a refusal is one whatever a grant names
pub refusal-kept : (g h : ℕ → Type 0) (a : Answer) (cs : List Condition) → Decides cs g a → (Granted a → ⊥) → Decides cs h a
refusal-kept g h a [] d n = absurd (n d.0)
refusal-kept g h a (c ∷ cs) (inl p) n = inl p
refusal-kept g h a (c ∷ cs) (inr p) n = inr (p.0, refusal-kept g h a cs p.1 n)

-- condition by condition, the two hold in the same cases and refuse alike
pub record Alike (c e : Condition) : Type 0 where
  pub holds : c.holds ↔ e.holds
  pub number : c.number ≡ e.number
  pub names : (k : ℕ) → c.names k ↔ e.names k

abbrev pub AllAlike : List Condition → List Condition → Type 0
AllAlike [] [] = Unit {0}
AllAlike [] (e ∷ es) = ⊥
AllAlike (c ∷ cs) [] = ⊥
AllAlike (c ∷ cs) (e ∷ es) = Alike c e × AllAlike cs es

-- then they decide alike
pub alike-decide : (grants : ℕ → Type 0) (a : Answer) (cs es : List Condition) → AllAlike cs es → Decides cs grants a → Decides es grants a
alike-decide grants a [] [] w d = d
alike-decide grants a [] (e ∷ es) w d = absurd w
alike-decide grants a (c ∷ cs) [] w d = absurd w
alike-decide grants a (c ∷ cs) (e ∷ es) w (inl (n, q, p)) =
    inl ((λ h. n (w.0.holds.1 h)), q ∙ w.0.number, (w.0.names a.place).0 p)
alike-decide grants a (c ∷ cs) (e ∷ es) w (inr (h, d)) = inr (w.0.holds.0 h, alike-decide grants a cs es w.1 d)

-- whether every number of the list is below m
abbrev pub numbers_under : ℕ → List Condition → Bool
numbers_under m [] = true
numbers_under m (c ∷ cs) = ltb c.number m && numbers_under m cs

-- every place that the list names is below m
abbrev pub PlacesUnder : ℕ → List Condition → Type 0
PlacesUnder m [] = Unit {0}
PlacesUnder m (c ∷ cs) = ((k : ℕ) → c.names k → k < m) × PlacesUnder m cs

-- a number below m, and a place below n
abbrev pub Under : ℕ → ℕ → Answer → Type 0
Under m n a = (a.number < m) × (a.place < n)

-- so are the number and the place of the answer, if the place of a grant is
pub answer-under : {a : Answer} {grants : ℕ → Type 0} (m n : ℕ) (cs : List Condition) → 0 < m
    → ((k : ℕ) → grants k → k < n) → numbers_under m cs ≡ true → PlacesUnder n cs
    → Decides cs grants a → Under m n a
answer-under {a = a} m n [] i j p q d = (omega (arith, d.0), j a.place d.1)
answer-under {a = a} m n (c ∷ cs) i j p q (inl d) =
    let w = (and-iff (ltb c.number m) (numbers_under m cs) iff-refl iff-refl).0 p in
    (omega (arith, ltb-true c.number m w.0, d.1), q.0 a.place d.2)
answer-under m n (c ∷ cs) i j p q (inr d) =
    let w = (and-iff (ltb c.number m) (numbers_under m cs) iff-refl iff-refl).0 p in answer-under m n cs i j w.1 q.1 d.1
