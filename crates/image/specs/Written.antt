-- How an image is written: a tree, roles and files whose expressions are in order have an image, which says them. Assumes nothing.
use Rattle.std.specs.Prelude.{◌≡◌, length, get_or}
use Rattle.std.proofs.Math.Path.{refl, sym, subst}
use mathlib.Core.List.{List, [], ◌∷◌, ◌++◌, append-nil}
use Prim.Native.Nat.{ℕ, zero, suc, ◌+◌, ◌-◌, ◌<◌, ◌≤◌}
use native.Mathlib.Omega.{arith}
use Rattle.std.proofs.Common.{zero-le}
use Rattle.tree.specs.Depth.{depth_of}
use Rattle.expression.specs.declared.Kind.{Kind}
use Rattle.expression.specs.declared.Kind.TheVariants.{Privilege}
use Rattle.expression.specs.Bytes.{longest, InOrder}
use Rattle.policy.specs.State.{most_roles, most_files}
use Rattle.fields.specs.Format.{Format}
use Rattle.fields.specs.Combine.{times}
use Rattle.fields.specs.Parts.{below, between, byte}
use Rattle.fields.specs.Takings.{takes-byte}
use Rattle.image.specs.Image.{Policy, no_count, no_parent, no_expression, expression_bytes, each, version1, image, most_in_version1}
use Rattle.image.specs.Image.{expression, shelf, counted, parent_bytes, tree_of, with_files, with_roles, body, policy_image}
use Rattle.image.specs.Examples.{smallest-head}

-- k values, one after another
abbrev pub values : {A : Type 0} → ℕ → (ℕ → A) → List A
values k f = each k (λ i. f i ∷ [])

times-takes : {A : Type 0} (k : ℕ) (F : ℕ → Format A) (piece : ℕ → List ℕ) (value : ℕ → A) → ((i : ℕ) → i < k → (F i).Takes (piece i) (value i))
    → (times k F).Takes (each k piece) (values k value)
times-takes zero F piece value all = (refl, refl)
times-takes (suc k) F piece value all =
    let front = times-takes k F piece value (λ i h. all i (omega arith)) in
    (each k piece, piece k, values k value, refl, front, (piece k, [], value k, sym (append-nil (piece k)), all k (omega arith), (refl, refl)))

-- an expression with its length byte
expression-takes : (kind : Kind) (parents d : ℕ) (x : List ℕ) → InOrder kind (suc parents) d x → (expression kind parents d).Takes (expression_bytes x) x
unfolding expression
expression-takes kind parents d x o =
    (length x ∷ [], x, length x, refl, takes-byte (between 0 longest) no_expression (length x) (zero-le, o.0), (refl, o.1, refl))

-- the expressions of a role or a file, place after place: part k stands at place k
abbrev pub shelf_bytes : ℕ → (ℕ → List ℕ) → List ℕ
shelf_bytes places part = each places (λ k. expression_bytes (part k))

abbrev pub PartsInOrder : List Kind → ℕ → ℕ → (ℕ → List ℕ) → Type 0
PartsInOrder kinds n d part = (k : ℕ) → k < length kinds → InOrder (get_or kinds k Privilege) n d (part k)

shelf-takes : (kinds : List Kind) (parents d : ℕ) (part : ℕ → List ℕ) → PartsInOrder kinds (suc parents) d part
    → (shelf kinds parents d).Takes (shelf_bytes (length kinds) part) (values (length kinds) part)
unfolding shelf
shelf-takes kinds parents d part all =
    times-takes (length kinds) (λ k. expression (get_or kinds k Privilege) parents d) (λ k. expression_bytes (part k)) part
    (λ k h. expression-takes (get_or kinds k Privilege) parents d (part k) (all k h))

counted-takes : {A : Type 0} (most : ℕ) (F : Format A) (count : ℕ) (piece : ℕ → List ℕ) (value : ℕ → A) → count ≤ most
    → ((i : ℕ) → i < count → F.Takes (piece i) (value i)) → (counted most F).Takes (count ∷ each count piece) (values count value)
unfolding counted
counted-takes most F count piece value few all =
    (count ∷ [], each count piece, count, refl, takes-byte (between 0 most) no_count count (zero-le, few), times-takes count (λ i. F) piece value all)

-- a policy as it is written: how many securons there are besides the root, with their parents; how many roles and files, with their parts by place
pub record Draft : Type 0 where
  pub others : ℕ
  pub parent : ℕ → ℕ
  pub nroles : ℕ
  pub role : ℕ → ℕ → List ℕ
  pub nfiles : ℕ
  pub file : ℕ → ℕ → List ℕ

module _ (p : Draft) where
  abbrev pub draft_parents : List ℕ
  draft_parents = values p.others p.parent

  -- the policy that it says
  abbrev pub drafted : Policy
  drafted = record {
    tree = tree_of draft_parents;
    roles = values p.nroles (λ i. values (length version1.role) (p.role i));
    files = values p.nfiles (λ i. values (length version1.file) (p.file i));
  }

  -- its image: mark, version, count of securons, parents; roles; files
  abbrev pub files_written : List ℕ
  files_written = p.nfiles ∷ each p.nfiles (λ i. shelf_bytes (length version1.file) (p.file i))

  abbrev pub roles_written : List ℕ
  roles_written = p.nroles ∷ each p.nroles (λ i. shelf_bytes (length version1.role) (p.role i))

  abbrev pub written : List ℕ
  written = 83 ∷ 80 ∷ 84 ∷ 1 ∷ 0 ∷ suc p.others ∷ (each p.others (λ i. p.parent i ∷ []) ++ (roles_written ++ files_written))

  -- what has to hold of it, with the depth of its tree
  pub record DraftInOrder : Type 0 where
    pub few-securons : suc p.others ≤ most_in_version1
    pub parents-smaller : (i : ℕ) → i < p.others → p.parent i < i + 1
    pub few-roles : p.nroles ≤ most_roles
    pub few-files : p.nfiles ≤ most_files
    pub roles : (i : ℕ) → i < p.nroles → PartsInOrder version1.role (suc (length draft_parents)) (depth_of (tree_of draft_parents)) (p.role i)
    pub files : (i : ℕ) → i < p.nfiles → PartsInOrder version1.file (suc (length draft_parents)) (depth_of (tree_of draft_parents)) (p.file i)

  module _ (o : DraftInOrder) where
    parents-take : (parent_bytes p.others).Takes (each p.others (λ i. p.parent i ∷ [])) draft_parents
    unfolding parent_bytes
    parents-take =
        times-takes p.others (λ i. byte (below (i + 1)) no_parent) (λ i. p.parent i ∷ []) p.parent
        (λ i h. takes-byte (below (i + 1)) no_parent (p.parent i) (o.parents-smaller i h))

    files-take : (with_files version1 draft_parents drafted.roles).Takes files_written drafted
    unfolding with_files
    files-take =
        let d = depth_of (tree_of draft_parents) in
        let all = counted-takes most_files (shelf version1.file (length draft_parents) d) p.nfiles _ _ o.few-files
        (λ i h. shelf-takes version1.file (length draft_parents) d (p.file i) (o.files i h)) in
        (files_written, [], drafted.files, sym (append-nil files_written), all, (refl, refl))

    roles-take : (with_roles version1 draft_parents).Takes (roles_written ++ files_written) drafted
    unfolding with_roles
    roles-take =
        let d = depth_of (tree_of draft_parents) in
        let all = counted-takes most_roles (shelf version1.role (length draft_parents) d) p.nroles _ _ o.few-roles
        (λ i h. shelf-takes version1.role (length draft_parents) d (p.role i) (o.roles i h)) in
        (roles_written, files_written, drafted.roles, refl, all, files-take)

    body-takes : (body version1).Takes (suc p.others ∷ (each p.others (λ i. p.parent i ∷ []) ++ (roles_written ++ files_written))) drafted
    unfolding body
    body-takes =
        let count = suc p.others in
        let ps = each p.others (λ i. p.parent i ∷ []) in
        let known = takes-byte (between 1 most_in_version1) no_count count (omega arith, o.few-securons) in
        let one_less : p.others ≡ count - 1 = omega arith in
        let parents = subst (λ (k : ℕ). (parent_bytes k).Takes ps draft_parents) one_less parents-take in
        (count ∷ [], ps ++ (roles_written ++ files_written), count, refl, known, (ps, roles_written ++ files_written, draft_parents, refl, parents, roles-take))

    pub written-image : image.Takes written drafted
    unfolding policy_image
    written-image =
        let ps = each p.others (λ i. p.parent i ∷ []) in
        (83 ∷ 80 ∷ 84 ∷ 1 ∷ 0 ∷ [], suc p.others ∷ (ps ++ (roles_written ++ files_written)), 1, refl, smallest-head, body-takes)
