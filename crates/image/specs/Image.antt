-- The policy image (01, "Image", "Numbers given back", "Order", "Place for 6"): one description, of its layout and of its faults. Definitions only.
use Rattle.std.specs.Prelude.{List, [], ◌∷◌, ◌++◌, ℕ, zero, suc, ◌+◌, ◌*◌, ◌-◌, length, get_or, replicate}
use Rattle.std.proofs.Common.{arith}
use Rattle.answer.specs.Numbers.{mark_wrong, version_wrong, count_wrong, parent_wrong, expression_wrong}
use Rattle.securon.specs.Sets.{set_room}
use Rattle.tree.specs.declared.Tree.{Tree}
use Rattle.tree.specs.Depth.{depth_of}
use Rattle.expression.specs.declared.Kind.{Kind}
use Rattle.expression.specs.declared.Kind.TheVariants.{Privilege, Protection}
use Rattle.expression.specs.Bytes.{longest, Right}
use Rattle.expression.specs.Total.{judged}
use Rattle.policy.specs.State.{most_roles, most_files, mode_count, role_places, file_places}
use Rattle.fields.specs.Format.{Refusal, Format, Document}
use Rattle.fields.specs.Combine.{give, ◌>>=◌, ◌>>◌, times}
use Rattle.fields.specs.Parts.{just, below, between, stretch, by_byte, byte, word}
use Rattle.fields.specs.Document.{alone}

-- the policy of an image: the tree; of each role and of each file its expressions, in the image's order
abbrev pub Expressions : Type 0
Expressions = List (List ℕ)

pub record Policy : Type 0 where
  pub tree : Tree
  pub roles : List Expressions
  pub files : List Expressions

-- mark `SPT`
abbrev pub mark_s : ℕ
mark_s = 83

abbrev pub mark_p : ℕ
mark_p = 80

abbrev pub mark_t : ℕ
mark_t = 84

-- the refusals of an image, besides 3 where it ends early and 7 for bytes left over
abbrev pub no_mark : Refusal
no_mark = record { number = mark_wrong; listed = (omega arith) }

abbrev pub no_version : Refusal
no_version = record { number = version_wrong; listed = (omega arith) }

abbrev pub no_count : Refusal
no_count = record { number = count_wrong; listed = (omega arith) }

abbrev pub no_parent : Refusal
no_parent = record { number = parent_wrong; listed = (omega arith) }

abbrev pub no_expression : Refusal
no_expression = record { number = expression_wrong; listed = (omega arith) }

-- what differs from version to version: the range of the count byte, how many parents follow it, the kinds of a role's and a file's expressions by place
pub record Layout : Type 0 where
  pub least : ℕ
  pub most : ℕ
  pub parents : ℕ → ℕ
  pub role : List Kind
  pub file : List Kind

-- the versions that are known: from 1 to the latest, and the layout of each
pub record Versions : Type 0 where
  pub latest : ℕ
  pub layout : ℕ → Layout

-- an expression's bytes with their length byte before them
abbrev pub expression_bytes : List ℕ → List ℕ
expression_bytes x = length x ∷ x

-- the stated bytes of an expression: in order for its kind, over one securon more than there are parents, and the depth d
abbrev pub stated : Kind → ℕ → ℕ → ℕ → Format (List ℕ)
stated kind parents d m = stretch m (by_byte m (Right kind (suc parents) d) (judged kind (suc parents) d (omega arith))) no_expression

-- each expression is a length byte, at most 48, and its bytes
unfoldable pub expression : Kind → ℕ → ℕ → Format (List ℕ)
expression kind parents d = do
  m ← byte (between 0 longest) no_expression
  stated kind parents d m

-- the expressions of a role or a file, place after place
unfoldable pub shelf : List Kind → ℕ → ℕ → Format Expressions
shelf kinds parents d = times (length kinds) (λ k. expression (get_or kinds k Privilege) parents d)

-- a count, from 0 to the most, and so many
unfoldable pub counted : {A : Type 0} → ℕ → Format A → Format (List A)
counted most F = do
  count ← byte (between 0 most) no_count
  times count (λ i. F)

-- so many parent bytes, for securons 1 up, each smaller than its securon
unfoldable pub parent_bytes : ℕ → Format (List ℕ)
parent_bytes k = times k (λ i. byte (below (i + 1)) no_parent)

-- these, and from their count up to the most what is none
abbrev pub filled : {X : Type 0} → ℕ → X → List X → List X
filled most none xs = xs ++ replicate (most - length xs) none

-- the tree of these parents, of securons 1 up. (Unused room is zero, and so is the root's parent)
unfoldable pub tree_of : List ℕ → Tree
tree_of ps = record { n = suc (length ps); parent = filled set_room 0 (0 ∷ ps) }

-- over the parents and the roles: file count 0 to 32, the files
unfoldable pub with_files : Layout → List ℕ → List Expressions → Format Policy
with_files l ps roles = do
  files ← counted most_files (shelf l.file (length ps) (depth_of (tree_of ps)))
  give (record { tree = tree_of ps; roles = roles; files = files })

-- over the parents: role count 0 to 32, the roles; then the files
unfoldable pub with_roles : Layout → List ℕ → Format Policy
with_roles l ps = do
  roles ← counted most_roles (shelf l.role (length ps) (depth_of (tree_of ps)))
  with_files l ps roles

-- after the version: the count of securons, the parents; then the roles and the files
unfoldable pub body : Layout → Format Policy
body l = do
  count ← byte (between l.least l.most) no_count
  ps ← parent_bytes (l.parents count)
  with_roles l ps

-- mark `SPT`, and a version that is known (16 bits, low byte first)
unfoldable pub head : ℕ → Format ℕ
head latest = do
  byte (just mark_s) no_mark
  byte (just mark_p) no_mark
  byte (just mark_t) no_mark
  word (between 1 latest) no_version

-- the head, and what its version lays out
unfoldable pub policy_image : Versions → Format Policy
policy_image vs = do
  v ← head vs.latest
  body (vs.layout v)

-- k stretches, one after another
abbrev pub each : {A : Type 0} → ℕ → (ℕ → List A) → List A
each zero f = []
each (suc k) f = each k f ++ f k

-- per role, mode after mode, V+ then V-; then M1, M2, B: privilege expressions all
abbrev pub role_kinds : List Kind
role_kinds = each mode_count (λ mode. Privilege ∷ Privilege ∷ []) ++ (Privilege ∷ Privilege ∷ Privilege ∷ [])

-- per file, mode after mode, T1, E, T2, G
abbrev pub file_kinds : List Kind
file_kinds = each mode_count (λ mode. Protection ∷ Privilege ∷ Protection ∷ Privilege ∷ [])

-- the most securons of an image of version 1
abbrev pub most_in_version1 : ℕ
most_in_version1 = 64

-- version 1: n, from 1 to 64, then n-1 parents
abbrev pub version1 : Layout
version1 = record { least = 1; most = most_in_version1; parents = λ n. n - 1; role = role_kinds; file = file_kinds }

-- version 1 is in use, and no other
abbrev pub in_use : Versions
in_use = record { latest = 1; layout = λ v. version1 }

-- a whole image: nothing follows
abbrev pub image : Document Policy
image = alone (policy_image in_use)

-- the most bytes: six before the parents, a parent for every securon but the root; every role and file there can be, each expression as long as can be
abbrev pub longest_image : ℕ
longest_image = 6 + (most_in_version1 - 1) + (1 + most_roles * (role_places * (1 + longest))) + (1 + most_files * (file_places * (1 + longest)))
