-- `skip` meets its contract: all that was passed is spaces. Assumes nothing.
use mathlib.Core.List.{List}
use mathlib.Core.Path.{◌≡◌, refl, ap, ◌∙◌}
use Prim.Native.Nat.{ℕ, ◌+◌, ◌-◌, ◌≤◌}
use native.Mathlib.Omega.{arith}
use lib.ListN.{length, take, drop}
use Rattle.std.proofs.Common.{take_all}
use Rattle.std.specs.List.{prefix_len}
use Rattle.std.proofs.lemmas.List.{length-drop}
use Rattle.text.specs.Classes.{is_space}
use Rattle.text.specs.Reader.{Skipped}
use Rattle.text.proofs.Laws.{skipped}
use Rattle.text.proofs.reader.Reader.skip.Goals as goal

-- the spaces of what is left of the text
passed : (s : List ℕ) (p n : ℕ) → p ≤ length s → n ≡ prefix_len is_space (take (length s - p) (drop p s)) → Skipped s p (p + n)
passed s p n h e = skipped s p n h (e ∙ ap (prefix_len is_space) (take_all (length s - p) (drop p s) (omega (arith, length-drop p s))))

pub overflow_add-self : goal.overflow_add-self
overflow_add-self c = let k = passed _ _ _ c.requires c.spaces.ensures in omega (arith, k.within)

pub returns : goal.returns
returns c = record { is = refl; skipped = passed _ _ _ c.requires c.spaces.ensures }
