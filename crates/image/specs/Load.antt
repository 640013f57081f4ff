-- What a load gives back and leaves (01, "Requests": load; "Numbers given back"). Definitions only.
use Rattle.std.specs.Prelude.{◌≡◌, ℕ, length, replicate}
use mathlib.Core.List.{List, map, flat_map}
use Rattle.answer.specs.Answers.{Leaves}
use Rattle.policy.specs.declared.Role.{Role}
use Rattle.policy.specs.declared.File.{File}
use Rattle.policy.specs.declared.State.{State}
use Rattle.shelf.specs.Shelf.{padded}
use Rattle.policy.specs.State.{most_roles, most_files, slot_count, Free, slot_with, no_role, no_file}
use Rattle.fields.specs.Document.{Answers}
use Rattle.image.specs.declared.Loaded.{Loaded}
use Rattle.image.specs.Image.{Expressions, Policy, filled, image}

-- a role, a file of these expressions: their lengths, and their bytes, each expression's with zero up to 48
unfoldable pub as_role : Expressions → Role
as_role xs = record { lens = map length xs; bytes = flat_map padded xs }

unfoldable pub as_file : Expressions → File
as_file xs = record { lens = map length xs; bytes = flat_map padded xs }

-- the state that a policy makes: all slots are free
abbrev pub state_of : Policy → State
state_of p = record {
  tree = p.tree;
  nroles = length p.roles;
  roles = filled most_roles no_role (map as_role p.roles);
  nfiles = length p.files;
  files = filled most_files no_file (map as_file p.files);
  slots = replicate slot_count (slot_with Free);
}

-- where the bytes are the image of a policy, the answer is done, and the state is the one that it makes; else the image is refused, and the state is as it was
pub record Loads (bytes : List ℕ) (before : State) (r : Loaded) : Type 0 where
  pub answers : Answers image bytes r.answer
  pub leaves : Leaves r.answer (λ s. (p : Policy) × image.Takes bytes p × (s ≡ state_of p)) before r.state
