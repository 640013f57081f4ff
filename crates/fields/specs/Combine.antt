-- Formats made of formats: nothing but a value; one format and then another, which may look at the first's value; so many, one after another. Definitions only.
use Rattle.std.specs.Prelude.{refl, List, [], ◌∷◌, ◌++◌, ℕ, zero, suc}
use Rattle.std.proofs.Common.{sym, ◌∙◌, inl}
use Rattle.fields.specs.Format.{Format}
use Rattle.fields.specs.Means.{GiveTakes, GiveFaults, ThenTakes, ThenFaults}
use Rattle.fields.specs.Then.{then_one, then-apart, then_same, then_total, then-settled, then-inside}

infixl 20 ◌>>=◌
infixl 20 ◌>>◌
-- no bytes, and this value
abbrev pub give : {A : Type 0} → A → Format A
give v = record {
  Takes = GiveTakes v;
  Faults = GiveFaults;
  one = λ x y r q a b t u e. (t.0 ∙ sym u.0, sym t.1 ∙ u.1);
  apart = λ x r a n k t f. f;
  same = λ bs n k m l f g. absurd f;
  total = λ bs. inl ([], bs, v, refl, (refl, refl));
  settled = λ bs r n k f. absurd f;
  inside = λ bs n k f. absurd f;
}

-- F, and then the format that its value names
abbrev pub ◌>>=◌ : {A B : Type 0} → Format A → (A → Format B) → Format B
◌>>=◌ F G = record {
  Takes = ThenTakes F G;
  Faults = ThenFaults F G;
  one = then_one F G;
  apart = then-apart F G;
  same = then_same F G;
  total = then_total F G;
  settled = then-settled F G;
  inside = then-inside F G;
}

-- F, whose value is not kept, and then G
abbrev pub ◌>>◌ : {A B : Type 0} → Format A → Format B → Format B
◌>>◌ F G = F >>= (λ a. G)

-- k of them, one after another
abbrev pub times : {A : Type 0} → ℕ → (ℕ → Format A) → Format (List A)
times zero F = give []
times (suc k) F = do
  xs ← times k F
  x ← F k
  give (xs ++ (x ∷ []))
