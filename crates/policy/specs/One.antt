-- The examination of a state leaves one value. Assumes nothing.
use Rattle.std.specs.Prelude.{◌≡◌, refl, List, ℕ, ◌<◌, length}
use Rattle.std.specs.Option.{is_some}
use Rattle.std.proofs.Common.{sym, ap, ap₂, ◌∙◌, arith}
use Rattle.std.proofs.lemmas.Bool.{false≢true}
use Rattle.std.proofs.Math.Decide.{dec_lt}
use Rattle.std.specs.declared.option.Option.{Option}
use Rattle.std.specs.declared.option.Option.TheVariants.{Some, None}
use Rattle.tree.specs.declared.Tree.{Tree}
use Rattle.tree.specs.declared.Levels.{Levels}
use Rattle.tree.specs.Grown.{Leveled}
use Rattle.tree.specs.Laws.{one-levels}
use Rattle.policy.specs.declared.Role.{Role}
use Rattle.policy.specs.declared.File.{File}
use Rattle.policy.specs.declared.State.{State}
use Rattle.policy.specs.declared.Examined.{Examined}
use Rattle.policy.specs.State.{most_roles, most_files, role_of, file_at}
use Rattle.policy.specs.WellFormed.{Examines}

abbrev seen_as : Option Leveled → Tree → ℕ → ℕ → List ℕ → Role → ℕ → File → Examined
seen_as grown tree nroles nfiles slots role at file = record {
  grown = grown;
  tree = tree;
  nroles = nroles;
  nfiles = nfiles;
  slots = slots;
  role = role;
  at = at;
  file = file;
}

-- the arrays of levels have the room of their type
abbrev pub SameRoom : Option Leveled → Option Leveled → Type 0
SameRoom a b = (g h : Leveled) → a ≡ Some g → b ≡ Some h → length g.levels.of ≡ length h.levels.of

module _ (s : State) (slot file : ℕ) (x y : Examined) (p : Examines s slot file x) (q : Examines s slot file y) where
  one-of-grown : SameRoom x.grown y.grown → x.grown ≡ y.grown
  one-of-grown long = go x.grown y.grown refl refl
    where
      go : (a b : Option Leveled) → x.grown ≡ a → y.grown ≡ b → x.grown ≡ y.grown
      go (Some g) (Some h) e f =
          let one = p.grown-is g e in
          let other = q.grown-is h f in
          e ∙ ap₂ (λ (t : Tree) (l : Levels). Some (record { tree = t; levels = l }))
          (one.0 ∙ sym other.0) (one-levels s.tree g.levels h.levels (long g h e f) one.1 other.1)
          ∙ sym f
      go None None e f = e ∙ sym f
      go (Some g) None e f = absurd (false≢true (sym (ap is_some f) ∙ q.says.1 (p.says.0 (ap is_some e))))
      go None (Some h) e f = absurd (false≢true (sym (ap is_some e) ∙ p.says.1 (q.says.0 (ap is_some f))))

  one-of-roles : x.role ≡ y.role
  one-of-roles = go (dec_lt (role_of s slot) most_roles)
    where
      go : Dec (role_of s slot < most_roles) → x.role ≡ y.role
      go (yes h) = p.role-is h ∙ sym (q.role-is h)
      go (no n) = p.role-else (omega arith) ∙ sym (q.role-else (omega arith))

  one-of-places : x.at ≡ y.at
  one-of-places = go (dec_lt file most_files)
    where
      go : Dec (file < most_files) → x.at ≡ y.at
      go (yes h) = p.at-is h ∙ sym (q.at-is h)
      go (no n) = p.at-else (omega arith) ∙ sym (q.at-else (omega arith))

  pub one-examined : SameRoom x.grown y.grown → x ≡ y
  one-examined long =
      ap₂ (λ (g : Option Leveled) (t : Tree). seen_as g t x.nroles x.nfiles x.slots x.role x.at x.file)
      (one-of-grown long) (p.tree_is ∙ sym q.tree_is)
      ∙ ap₂ (λ (m n : ℕ). seen_as y.grown y.tree m n x.slots x.role x.at x.file)
      (p.nroles-is ∙ sym q.nroles-is) (p.nfiles-is ∙ sym q.nfiles-is)
      ∙ ap₂ (λ (l : List ℕ) (r : Role). seen_as y.grown y.tree y.nroles y.nfiles l r x.at x.file)
      (p.slots-is ∙ sym q.slots-is) one-of-roles
      ∙ ap₂ (λ (n : ℕ) (f : File). seen_as y.grown y.tree y.nroles y.nfiles y.slots y.role n f)
      one-of-places (p.file-is ∙ ap (file_at s) one-of-places ∙ sym q.file-is)
