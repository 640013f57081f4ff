-- A refusal of an image has a number of one digit; no image is longer than 51,815 bytes, and no refusal's place is further on. Assumes nothing.
use Rattle.std.specs.Prelude.{◌≡◌, refl, ℕ, suc, ◌+◌, ◌*◌, ◌-◌, ◌<◌, ◌≤◌, get_or}
use mathlib.Core.List.{List}
use Rattle.std.proofs.Common.{inl, inr, mul-le-mul_right, arith}
use Rattle.std.proofs.Math.Nat.{le_trans}
use Rattle.std.proofs.Math.ListN.{length}
use Rattle.tree.specs.Depth.{depth_of}
use Rattle.expression.specs.declared.Kind.{Kind}
use Rattle.expression.specs.declared.Kind.TheVariants.{Privilege}
use Rattle.expression.specs.Bytes.{longest, Right}
use Rattle.expression.specs.Total.{judged}
use Rattle.policy.specs.State.{most_roles, most_files, role_places, file_places}
use Rattle.fields.specs.Format.{Refusal, Format}
use Rattle.fields.specs.Means.{Judging, Test}
use Rattle.fields.specs.Combine.{give, ◌>>=◌, ◌>>◌, times}
use Rattle.fields.specs.Parts.{just, below, between, by_byte, first, byte, first_two, word}
use Rattle.fields.specs.Bounds.{NumbersUnder, under-then, under-times, under-stretch, under-value, under-alone}
use Rattle.fields.specs.Bounds.{AtMost, most-then, most-times, most-stretch, most-value}
use Rattle.fields.specs.Bounds.{FaultsBy, by-then, by-times, by-stretch, by_value, by-alone}
use Rattle.fields.specs.Document.{alone}
use Rattle.fields.specs.Takings.{byte-is, made-takes}
use Rattle.image.specs.Image.{Expressions, Policy, Layout, Versions, version1, in_use, most_in_version1, longest_image, role_kinds, file_kinds}
use Rattle.image.specs.Image.{mark_s, mark_p, mark_t, no_mark, no_version, no_count, no_parent, no_expression}
use Rattle.image.specs.Image.{stated, expression, shelf, counted, parent_bytes, tree_of, with_files, with_roles, body, head, policy_image, image}

-- one byte, whatever is tested
abbrev digit : ℕ
digit = 10

byte-under : (t : Test ℕ) (refusal : Refusal) → refusal.number < digit → NumbersUnder digit (byte t refusal)
byte-under t refusal h = under-value 1 first t refusal digit h (omega arith)

byte-most : (t : Test ℕ) (refusal : Refusal) → AtMost 1 (byte t refusal)
byte-most t refusal = most-value 1 first t refusal

byte-by : (t : Test ℕ) (refusal : Refusal) → FaultsBy 1 (byte t refusal)
byte-by t refusal = by_value 1 first t refusal

module _ (parents d : ℕ) where
  -- how the stated bytes of an expression are judged
  abbrev judging : Kind → (m : ℕ) → Judging m
  judging kind m = by_byte m (Right kind (suc parents) d) (judged kind (suc parents) d (omega arith))

  expression-under : (kind : Kind) → NumbersUnder digit (expression kind parents d)
  unfolding expression
  expression-under kind =
      under-then (byte (between 0 longest) no_expression) (stated kind parents d) digit
      (byte-under (between 0 longest) no_expression (omega arith))
      (λ m. under-stretch m (judging kind m) no_expression digit (omega arith) (omega arith))

  expression-most : (kind : Kind) → AtMost (1 + longest) (expression kind parents d)
  unfolding expression
  expression-most kind =
      most-then (byte (between 0 longest) no_expression) (stated kind parents d) 1 longest
      (byte-most (between 0 longest) no_expression)
      (λ m (y, t) x v u. omega (arith, most-stretch m (judging kind m) no_expression x v u, (byte-is (between 0 longest) no_expression y m t).1.1))

  expression-by : (kind : Kind) → FaultsBy (1 + longest) (expression kind parents d)
  unfolding expression
  expression-by kind =
      by-then (byte (between 0 longest) no_expression) (stated kind parents d) 1 longest
      (byte-most (between 0 longest) no_expression) (byte-by (between 0 longest) no_expression)
      (λ m (y, t) bs n k f. omega (arith, by-stretch m (judging kind m) no_expression bs n k f, (byte-is (between 0 longest) no_expression y m t).1.1))

  shelf-under : (kinds : List Kind) → NumbersUnder digit (shelf kinds parents d)
  unfolding shelf
  shelf-under kinds = under-times (λ k. expression (get_or kinds k Privilege) parents d) digit (length kinds) (λ k. expression-under (get_or kinds k Privilege))

  shelf-most : (kinds : List Kind) → AtMost (length kinds * (1 + longest)) (shelf kinds parents d)
  unfolding shelf
  shelf-most kinds =
      most-times (λ k. expression (get_or kinds k Privilege) parents d) (1 + longest) (length kinds) (λ k h. expression-most (get_or kinds k Privilege))

  shelf-by : (kinds : List Kind) → FaultsBy (length kinds * (1 + longest)) (shelf kinds parents d)
  unfolding shelf
  shelf-by kinds =
      by-times (λ k. expression (get_or kinds k Privilege) parents d) (1 + longest) (length kinds)
      (λ k h. expression-most (get_or kinds k Privilege)) (λ k h. expression-by (get_or kinds k Privilege))

  counted-under : (most : ℕ) (kinds : List Kind) → NumbersUnder digit (counted most (shelf kinds parents d))
  unfolding counted
  counted-under most kinds =
      under-then (byte (between 0 most) no_count) (λ count. times count (λ i. shelf kinds parents d)) digit (byte-under (between 0 most) no_count (omega arith))
      (λ count. under-times (λ i. shelf kinds parents d) digit count (λ i. shelf-under kinds))

  counted-most : (most : ℕ) (kinds : List Kind) → AtMost (1 + most * (length kinds * (1 + longest))) (counted most (shelf kinds parents d))
  unfolding counted
  counted-most most kinds =
      let one = length kinds * (1 + longest) in
      most-then (byte (between 0 most) no_count) (λ count. times count (λ i. shelf kinds parents d)) 1 (most * one) (byte-most (between 0 most) no_count)
      (λ count (y, t) x v u.
      le_trans (most-times (λ i. shelf kinds parents d) one count (λ i h. shelf-most kinds) x v u)
      (mul-le-mul_right one (byte-is (between 0 most) no_count y count t).1.1))

  counted-by : (most : ℕ) (kinds : List Kind) → FaultsBy (1 + most * (length kinds * (1 + longest))) (counted most (shelf kinds parents d))
  unfolding counted
  counted-by most kinds =
      let one = length kinds * (1 + longest) in
      by-then (byte (between 0 most) no_count) (λ count. times count (λ i. shelf kinds parents d)) 1 (most * one)
      (byte-most (between 0 most) no_count) (byte-by (between 0 most) no_count)
      (λ count (y, t) bs n k f.
      le_trans (by-times (λ i. shelf kinds parents d) one count (λ i h. shelf-most kinds) (λ i h. shelf-by kinds) bs n k f)
      (mul-le-mul_right one (byte-is (between 0 most) no_count y count t).1.1))

parents-under : (k : ℕ) → NumbersUnder digit (parent_bytes k)
unfolding parent_bytes
parents-under k = under-times (λ i. byte (below (i + 1)) no_parent) digit k (λ i. byte-under (below (i + 1)) no_parent (omega arith))

parents-most : (k : ℕ) → AtMost k (parent_bytes k)
unfolding parent_bytes
parents-most k x v t = omega (arith, most-times (λ i. byte (below (i + 1)) no_parent) 1 k (λ i h. byte-most (below (i + 1)) no_parent) x v t)

parents-by : (k : ℕ) → FaultsBy k (parent_bytes k)
unfolding parent_bytes
parents-by k bs n j f =
    let one : ℕ → Format ℕ = λ i. byte (below (i + 1)) no_parent in
    omega (arith, by-times one 1 k (λ i h. byte-most (below (i + 1)) no_parent) (λ i h. byte-by (below (i + 1)) no_parent) bs n j f)

-- the most bytes of the roles with their count, of the files with theirs
abbrev roles_most : ℕ
roles_most = 1 + most_roles * (role_places * (1 + longest))

abbrev files_most : ℕ
files_most = 1 + most_files * (file_places * (1 + longest))

module _ (ps : List ℕ) where
  abbrev roles_over : Layout → Format (List Expressions)
  roles_over l = counted most_roles (shelf l.role (length ps) (depth_of (tree_of ps)))

  abbrev files_over : Layout → Format (List Expressions)
  files_over l = counted most_files (shelf l.file (length ps) (depth_of (tree_of ps)))

  files-under : (l : Layout) (roles : List Expressions) → NumbersUnder digit (with_files l ps roles)
  unfolding with_files
  files-under l roles =
      let made : List Expressions → Policy = λ files. record { tree = tree_of ps; roles = roles; files = files } in
      under-then (files_over l) (λ files. give (made files)) digit
      (counted-under (length ps) (depth_of (tree_of ps)) most_files l.file) (λ files bs n k h. absurd h)

  files-most : (roles : List Expressions) → AtMost files_most (with_files version1 ps roles)
  unfolding with_files
  files-most roles x p t =
      let made : List Expressions → Policy = λ files. record { tree = tree_of ps; roles = roles; files = files } in
      let (files, u, e) = made-takes (files_over version1) made x p t in
      counted-most (length ps) (depth_of (tree_of ps)) most_files file_kinds x files u

  files-by : (roles : List Expressions) → FaultsBy files_most (with_files version1 ps roles)
  unfolding with_files
  files-by roles bs n k (inl f) = counted-by (length ps) (depth_of (tree_of ps)) most_files file_kinds bs n k f
  files-by roles bs n k (inr (_, _, _, _, _, _, f, _)) = absurd f

  roles-under : (l : Layout) → NumbersUnder digit (with_roles l ps)
  unfolding with_roles
  roles-under l = under-then (roles_over l) (with_files l ps) digit (counted-under (length ps) (depth_of (tree_of ps)) most_roles l.role) (files-under l)

  roles-most : AtMost (roles_most + files_most) (with_roles version1 ps)
  unfolding with_roles
  roles-most =
      most-then (roles_over version1) (with_files version1 ps) roles_most files_most
      (counted-most (length ps) (depth_of (tree_of ps)) most_roles role_kinds) (λ roles said. files-most roles)

  roles-by : FaultsBy (roles_most + files_most) (with_roles version1 ps)
  unfolding with_roles
  roles-by =
      by-then (roles_over version1) (with_files version1 ps) roles_most files_most
      (counted-most (length ps) (depth_of (tree_of ps)) most_roles role_kinds)
      (counted-by (length ps) (depth_of (tree_of ps)) most_roles role_kinds) (λ roles said. files-by roles)

body-under : (l : Layout) → NumbersUnder digit (body l)
unfolding body
body-under l =
    let count = byte (between l.least l.most) no_count in
    under-then count (λ c. parent_bytes (l.parents c) >>= with_roles l) digit (byte-under (between l.least l.most) no_count (omega arith))
    (λ c. under-then (parent_bytes (l.parents c)) (with_roles l) digit (parents-under (l.parents c)) (λ ps. roles-under ps l))

body-most : AtMost (1 + ((most_in_version1 - 1) + (roles_most + files_most))) (body version1)
unfolding body
body-most =
    let rest = roles_most + files_most in
    let most = most_in_version1 - 1 in
    most-then (byte (between 1 most_in_version1) no_count) (λ c. parent_bytes (c - 1) >>= with_roles version1) 1 (most + rest)
    (byte-most (between 1 most_in_version1) no_count)
    (λ c (y, t). most-then (parent_bytes (c - 1)) (with_roles version1) most rest
    (λ x ps u. omega (arith, parents-most (c - 1) x ps u, (byte-is (between 1 most_in_version1) no_count y c t).1.1))
    (λ ps said. roles-most ps))

body-by : FaultsBy (1 + ((most_in_version1 - 1) + (roles_most + files_most))) (body version1)
unfolding body
body-by =
    let rest = roles_most + files_most in
    let most = most_in_version1 - 1 in
    let fewer : (y : List ℕ) (c : ℕ) → (byte (between 1 most_in_version1) no_count).Takes y c → c - 1 ≤ most =
    λ y c t. omega (arith, (byte-is (between 1 most_in_version1) no_count y c t).1.1) in
    by-then (byte (between 1 most_in_version1) no_count) (λ c. parent_bytes (c - 1) >>= with_roles version1) 1 (most + rest)
    (byte-most (between 1 most_in_version1) no_count) (byte-by (between 1 most_in_version1) no_count)
    (λ c (y, t). by-then (parent_bytes (c - 1)) (with_roles version1) most rest
    (λ x ps u. omega (arith, parents-most (c - 1) x ps u, fewer y c t))
    (λ bs n k f. omega (arith, parents-by (c - 1) bs n k f, fewer y c t))
    (λ ps said. roles-by ps))

head-under : (latest : ℕ) → NumbersUnder digit (head latest)
unfolding head
head-under latest =
    let last = word (between 1 latest) no_version in
    let byte_of : (b : ℕ) → NumbersUnder digit (byte (just b) no_mark) = λ b. byte-under (just b) no_mark (omega arith) in
    let word_of = under-value 2 first_two (between 1 latest) no_version digit (omega arith) (omega arith) in
    under-then (byte (just mark_s) no_mark) (λ _. byte (just mark_p) no_mark >> (byte (just mark_t) no_mark >> last)) digit (byte_of mark_s)
    (λ _. under-then (byte (just mark_p) no_mark) (λ _. byte (just mark_t) no_mark >> last) digit (byte_of mark_p)
    (λ _. under-then (byte (just mark_t) no_mark) (λ _. last) digit (byte_of mark_t) (λ _. word_of)))

head-most : (latest : ℕ) → AtMost 5 (head latest)
unfolding head
head-most latest =
    let last = word (between 1 latest) no_version in
    let word_of = most-value 2 first_two (between 1 latest) no_version in
    most-then (byte (just mark_s) no_mark) (λ _. byte (just mark_p) no_mark >> (byte (just mark_t) no_mark >> last)) 1 4 (byte-most (just mark_s) no_mark)
    (λ _ _. most-then (byte (just mark_p) no_mark) (λ _. byte (just mark_t) no_mark >> last) 1 3 (byte-most (just mark_p) no_mark)
    (λ _ _. most-then (byte (just mark_t) no_mark) (λ _. last) 1 2 (byte-most (just mark_t) no_mark) (λ _ _. word_of)))

head-by : (latest : ℕ) → FaultsBy 5 (head latest)
unfolding head
head-by latest =
    let last = word (between 1 latest) no_version in
    let word_of = by_value 2 first_two (between 1 latest) no_version in
    by-then (byte (just mark_s) no_mark) (λ _. byte (just mark_p) no_mark >> (byte (just mark_t) no_mark >> last)) 1 4
    (byte-most (just mark_s) no_mark) (byte-by (just mark_s) no_mark)
    (λ _ _. by-then (byte (just mark_p) no_mark) (λ _. byte (just mark_t) no_mark >> last) 1 3 (byte-most (just mark_p) no_mark) (byte-by (just mark_p) no_mark)
    (λ _ _. by-then (byte (just mark_t) no_mark) (λ _. last) 1 2 (byte-most (just mark_t) no_mark) (byte-by (just mark_t) no_mark) (λ _ _. word_of)))

-- a refusal's number has one digit, whatever versions are known
pub one-digit : (vs : Versions) (bytes : List ℕ) (n k : ℕ) → (alone (policy_image vs)).Refuses bytes n k → n < 10
unfolding policy_image
one-digit vs =
    under-alone (policy_image vs) digit (omega arith)
    (under-then (head vs.latest) (λ v. body (vs.layout v)) digit (head-under vs.latest) (λ v. body-under (vs.layout v)))

-- no image is longer than 51,815 bytes
pub image-length : (bytes : List ℕ) (p : Policy) → image.Takes bytes p → length bytes ≤ longest_image
unfolding policy_image
image-length bytes p t =
    let rest = 1 + ((most_in_version1 - 1) + (roles_most + files_most)) in
    omega (arith, most-then (head 1) (λ v. body version1) 5 rest (head-most 1) (λ v said. body-most) bytes p t)

-- and no refusal of one has a place further on
pub image-place : (bytes : List ℕ) (n k : ℕ) → image.Refuses bytes n k → k ≤ longest_image
unfolding policy_image
image-place bytes n k f =
    let rest = 1 + ((most_in_version1 - 1) + (roles_most + files_most)) in
    let takes = most-then (head 1) (λ v. body version1) 5 rest (head-most 1) (λ v said. body-most) in
    let faults = by-then (head 1) (λ v. body version1) 5 rest (head-most 1) (head-by 1) (λ v said. body-by) in
    omega (arith, by-alone (policy_image in_use) (5 + rest) takes faults bytes n k f)

pub longest-is : longest_image ≡ 51815
longest-is = refl
