-- Worked examples of 01: the smallest image loads the fresh state; one byte less is 3 at 7; one zero more is 7 at 8. Assumes nothing.
use Rattle.std.specs.Prelude.{◌≡◌, refl, List, [], ◌∷◌, ℕ}
use Rattle.std.proofs.Common.{arith}
use Rattle.std.proofs.Common.{zero-le}
use Rattle.tree.specs.Depth.{depth_of}
use Rattle.policy.specs.State.{most_roles, most_files, fresh_state}
use Rattle.fields.specs.Format.{Format}
use Rattle.fields.specs.Combine.{◌>>◌}
use Rattle.fields.specs.Parts.{just, between, byte, word}
use Rattle.fields.specs.Fronts.{cons-nil}
use Rattle.fields.specs.Takings.{takes-byte}
use Rattle.fields.specs.Loads.{cut-refused, over-refused}
use Rattle.image.specs.Image.{Expressions, Policy, mark_s, mark_p, mark_t, no_mark, no_version, no_count, version1, in_use, image}
use Rattle.image.specs.Image.{shelf, counted, parent_bytes, tree_of, with_files, with_roles, body, head, policy_image}
use Rattle.image.specs.Load.{state_of}

-- 53 50 54 01 00 01 00 00
abbrev smallest : List ℕ
smallest = 83 ∷ 80 ∷ 84 ∷ 1 ∷ 0 ∷ 1 ∷ 0 ∷ 0 ∷ []

-- the root alone, no role and no file
abbrev pub nobody : Policy
nobody = record { tree = tree_of []; roles = []; files = [] }

-- no role, no file: a count of 0
none-counted : (most : ℕ) (F : Format Expressions) → (counted most F).Takes (0 ∷ []) []
unfolding counted
none-counted most F = (0 ∷ [], [], 0, refl, takes-byte (between 0 most) no_count 0 (zero-le, zero-le), (refl, refl))

pub smallest-head : (head 1).Takes (83 ∷ 80 ∷ 84 ∷ 1 ∷ 0 ∷ []) 1
unfolding head
smallest-head =
    let last = word (between 1 1) no_version in
    let version : last.Takes (1 ∷ 0 ∷ []) 1 = (1 ∷ 0 ∷ [], [], 1 ∷ 0 ∷ [], refl, (refl, (omega arith, omega arith), refl), (refl, refl)) in
    let third : (byte (just mark_t) no_mark >> last).Takes (84 ∷ 1 ∷ 0 ∷ []) 1 =
    (84 ∷ [], 1 ∷ 0 ∷ [], 84, refl, takes-byte (just mark_t) no_mark 84 refl, version) in
    let second : (byte (just mark_p) no_mark >> (byte (just mark_t) no_mark >> last)).Takes (80 ∷ 84 ∷ 1 ∷ 0 ∷ []) 1 =
    (80 ∷ [], 84 ∷ 1 ∷ 0 ∷ [], 80, refl, takes-byte (just mark_p) no_mark 80 refl, third) in
    (83 ∷ [], 80 ∷ 84 ∷ 1 ∷ 0 ∷ [], 83, refl, takes-byte (just mark_s) no_mark 83 refl, second)

smallest-body : (body version1).Takes (1 ∷ 0 ∷ 0 ∷ []) nobody
unfolding body parent_bytes with_roles with_files
smallest-body =
    let files : (with_files version1 [] []).Takes (0 ∷ []) nobody =
    (0 ∷ [], [], [], refl, none-counted most_files (shelf version1.file 0 (depth_of (tree_of []))), (refl, refl)) in
    let roles : (with_roles version1 []).Takes (0 ∷ 0 ∷ []) nobody =
    (0 ∷ [], 0 ∷ [], [], refl, none-counted most_roles (shelf version1.role 0 (depth_of (tree_of []))), files) in
    (1 ∷ [], 0 ∷ 0 ∷ [], 1, refl, takes-byte (between 1 64) no_count 1 (omega arith, omega arith), ([], 0 ∷ 0 ∷ [], [], refl, (refl, refl), roles))

pub smallest-image : image.Takes smallest nobody
unfolding policy_image
smallest-image = (83 ∷ 80 ∷ 84 ∷ 1 ∷ 0 ∷ [], 1 ∷ 0 ∷ 0 ∷ [], 1, refl, smallest-head, smallest-body)

-- it makes the fresh state
pub makes-fresh : state_of nobody ≡ fresh_state
unfolding tree_of
makes-fresh = refl

pub one_less : image.Refuses (83 ∷ 80 ∷ 84 ∷ 1 ∷ 0 ∷ 1 ∷ 0 ∷ []) 3 7
one_less = cut-refused (policy_image in_use) (83 ∷ 80 ∷ 84 ∷ 1 ∷ 0 ∷ 1 ∷ 0 ∷ []) (0 ∷ []) nobody smallest-image cons-nil

pub one_more : image.Refuses (83 ∷ 80 ∷ 84 ∷ 1 ∷ 0 ∷ 1 ∷ 0 ∷ 0 ∷ 0 ∷ []) 7 8
one_more = over-refused (policy_image in_use) smallest (0 ∷ []) nobody smallest-image cons-nil
