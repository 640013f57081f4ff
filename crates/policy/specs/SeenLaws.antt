-- What is known of a state by what was seen of it. Assumes nothing.
use Rattle.std.specs.Prelude.{◌≡◌, refl, ℕ, ◌<◌}
use Rattle.std.specs.Option.{is_some}
use Rattle.std.proofs.Common.{sym, ap, ◌∙◌, arith}
use Rattle.std.proofs.lemmas.Bool.{false≢true}
use Rattle.std.proofs.Math.Decide.{dec_lt}
use Rattle.std.proofs.lemmas.List.{set-get_or}
use Rattle.std.specs.declared.option.Option.{Option}
use Rattle.std.specs.declared.option.Option.TheVariants.{Some, None}
use Rattle.tree.specs.Grown.{Leveled}
use Rattle.tree.specs.Tree.{Ready}
use Rattle.policy.specs.declared.State.{State}
use Rattle.policy.specs.declared.Examined.{Examined}
use Rattle.policy.specs.State.{most_files, set_files, set_slots, with_file}
use Rattle.policy.specs.WellFormed.{WellFormed, Examines}

module _ {s : State} {slot file : ℕ} {seen : Examined} (x : Examines s slot file seen) where
  -- the file that was seen is one of the 32
  pub at-within : seen.at < most_files
  at-within = go (dec_lt file most_files)
    where
      go : Dec (file < most_files) → seen.at < most_files
      go (yes h) = omega (arith, x.at-is h)
      go (no n) = omega (arith, x.at-else (omega arith))

  -- of a state that is well formed the tree was seen with its levels, and of no other
  pub ready : WellFormed s → (g : Leveled) × (seen.grown ≡ Some g) × (g.tree ≡ seen.tree) × Ready g.tree g.levels
  ready w = go seen.grown refl
    where
      go : (r : Option Leveled) → seen.grown ≡ r → (g : Leveled) × (seen.grown ≡ Some g) × (g.tree ≡ seen.tree) × Ready g.tree g.levels
      go (Some g) e =
          let is = x.grown-is g e in
          (g, e, is.0 ∙ sym x.tree_is, rw is.0 (record { tree = w.tree; levels = is.1 }))
      go None e = absurd (false≢true (sym (ap is_some e) ∙ x.says.1 w))

  pub seen-well-formed : (g : Leveled) → seen.grown ≡ Some g → WellFormed s
  seen-well-formed g e = x.says.0 (ap is_some e)

  -- what was seen, stored again, leaves the state as it is
  pub stored-again : with_file (set_slots s seen.slots) seen.at seen.file ≡ s
  stored-again = rw (x.slots-is, x.file-is) (ap (set_files s) (set-get_or s.files seen.at _))
