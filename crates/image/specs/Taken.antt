-- What the policy of an image is: its parents make a tree, and every expression of a role or a file is in order for its place. Assumes nothing.
use Rattle.std.specs.Prelude.{◌≡◌, refl, ℕ, zero, suc, ◌+◌, ◌-◌, ◌<◌, ◌≤◌, get_or}
use Rattle.std.proofs.Math.Path.{sym, ap, subst}
use Rattle.std.proofs.Common.{◌∙◌, arith}
use mathlib.Core.List.{List, [], ◌∷◌}
use Rattle.std.proofs.Math.Decide.{dec_lt}
use Rattle.std.proofs.Math.ListN.{length, get_or-eq_default}
use Rattle.securon.specs.Sets.{set_room}
use Rattle.tree.specs.Tree.{most_securons}
use Rattle.tree.specs.Depth.{depth_of}
use Rattle.expression.specs.declared.Kind.{Kind}
use Rattle.expression.specs.declared.Kind.TheVariants.{Privilege}
use Rattle.expression.specs.Bytes.{longest, Right, InOrder}
use Rattle.policy.specs.State.{most_roles, most_files}
use Rattle.policy.specs.Fine.{TreeFine}
use Rattle.fields.specs.Parts.{below, between, byte}
use Rattle.fields.specs.Takings.{byte-is, times-takes, made-takes}
use Rattle.image.specs.Image.{Expressions, Policy, Layout, version1, most_in_version1, no_count, no_parent, no_expression}
use Rattle.image.specs.Image.{expression_bytes, expression, shelf, counted, parent_bytes, filled, tree_of, with_files, with_roles, body, policy_image, image}
use Rattle.image.specs.Filled.{length-filled, filled_at, filled-past}

-- expressions in order for these kinds, place by place, over n securons and the depth d
pub record InPlace (kinds : List Kind) (n d : ℕ) (xs : Expressions) : Type 0 where
  pub count : length xs ≡ length kinds
  pub in_order : (k : ℕ) → k < length kinds → InOrder (get_or kinds k Privilege) n d (get_or xs k [])

-- so many at most, each with its places
pub record AllInPlace (most : ℕ) (kinds : List Kind) (n d : ℕ) (rows : List Expressions) : Type 0 where
  pub few : length rows ≤ most
  pub each : (i : ℕ) → i < length rows → InPlace kinds n d (get_or rows i [])

-- a policy of this layout
pub record PolicyFine (l : Layout) (p : Policy) : Type 0 where
  pub tree : TreeFine p.tree
  pub roles : AllInPlace most_roles l.role p.tree.n (depth_of p.tree) p.roles
  pub files : AllInPlace most_files l.file p.tree.n (depth_of p.tree) p.files

module _ (parents d : ℕ) where
  -- an expression is in order; its bytes are its length byte and it
  pub expression-is : (kind : Kind) (x v : List ℕ) → (expression kind parents d).Takes x v → InOrder kind (suc parents) d v × (x ≡ expression_bytes v)
  unfolding expression
  expression-is kind x v (y, z, m, e, t, (l, r, q)) =
      let b = byte-is (between 0 longest) no_expression y m t in
      let long : m ≡ length v = sym l ∙ ap length q in
      ((omega (arith, b.1.1, long), subst (Right kind (suc parents) d) q r), e ∙ cc (b.0, q, long))

  pub shelf-is : (kinds : List Kind) (x : List ℕ) (xs : Expressions) → (shelf kinds parents d).Takes x xs → InPlace kinds (suc parents) d xs
  unfolding shelf
  shelf-is kinds x xs t =
      let w = times-takes (length kinds) (λ k. expression (get_or kinds k Privilege) parents d) x xs t in
      record {
        count = w.0;
        in_order = λ k h. let (y, u) = w.1 k h [] in (expression-is (get_or kinds k Privilege) y (get_or xs k []) u).0;
      }

  pub counted-are : (most : ℕ) (kinds : List Kind) (x : List ℕ) (rows : List Expressions) → (counted most (shelf kinds parents d)).Takes x rows
      → AllInPlace most kinds (suc parents) d rows
  unfolding counted
  counted-are most kinds x rows (y, z, count, e, t, u) =
      let b = byte-is (between 0 most) no_count y count t in
      let w = times-takes count (λ i. shelf kinds parents d) z rows u in
      record {
        few = omega (arith, w.0, b.1.1);
        each = λ i h. let (q, s) = w.1 i (omega (arith, w.0)) [] in shelf-is kinds q (get_or rows i []) s;
      }

-- of so many parents each is smaller than its securon
pub parents-are : (k : ℕ) (x ps : List ℕ) → (parent_bytes k).Takes x ps → (length ps ≡ k) × ((i : ℕ) → i < k → get_or ps i 0 < i + 1)
unfolding parent_bytes
parents-are k x ps t =
    let w = times-takes k (λ i. byte (below (i + 1)) no_parent) x ps t in
    (w.0, λ i h. let (y, u) = w.1 i h 0 in (byte-is (below (i + 1)) no_parent y (get_or ps i 0) u).1)

-- such parents make a tree, where there is room for them
pub tree-fine : (ps : List ℕ) → suc (length ps) ≤ most_securons → ((i : ℕ) → i < length ps → get_or ps i 0 < i + 1) → TreeFine (tree_of ps)
unfolding tree_of
tree-fine ps room smaller = record {
  room = length-filled set_room 0 (0 ∷ ps) room;
  is-tree = record { count = (omega arith, room); smaller = less };
  root = refl;
  past = λ u h. beyond u h (dec_lt u set_room);
}
  where
    less : (u : ℕ) → 0 < u → u < suc (length ps) → get_or (filled set_room 0 (0 ∷ ps)) u 0 < u
    less zero p h = absurd (omega arith)
    less (suc j) p h = omega (arith, filled_at set_room 0 (0 ∷ ps) (suc j) 0 h, smaller j (omega arith))

    beyond : (u : ℕ) → suc (length ps) ≤ u → Dec (u < set_room) → get_or (filled set_room 0 (0 ∷ ps)) u 0 ≡ 0
    beyond u h (yes l) = filled-past set_room 0 (0 ∷ ps) u 0 h l
    beyond u h (no l) = get_or-eq_default (filled set_room 0 (0 ∷ ps)) 0 {n = u} (omega (arith, length-filled set_room 0 (0 ∷ ps) room))

-- the count of securons is one more than their parents
pub tree-count : (ps : List ℕ) → (tree_of ps).n ≡ suc (length ps)
unfolding tree_of
tree-count ps = refl

-- a policy over these parents
module _ (l : Layout) (ps : List ℕ) (fine : TreeFine (tree_of ps)) where
  abbrev AllOver : ℕ → List Kind → List Expressions → Type 0
  AllOver most kinds rows = AllInPlace most kinds (tree_of ps).n (depth_of (tree_of ps)) rows

  -- as many as are read
  over : (most : ℕ) (kinds : List Kind) (x : List ℕ) (rows : List Expressions) → (counted most (shelf kinds (length ps) (depth_of (tree_of ps)))).Takes x rows
      → AllOver most kinds rows
  over most kinds x rows t =
      let all = counted-are (length ps) (depth_of (tree_of ps)) most kinds x rows t in
      subst (λ (n : ℕ). AllInPlace most kinds n (depth_of (tree_of ps)) rows) (sym (tree-count ps)) all

  files-fine : (roles : List Expressions) → AllOver most_roles l.role roles → (x : List ℕ) (p : Policy) → (with_files l ps roles).Takes x p → PolicyFine l p
  unfolding with_files
  files-fine roles all x p t =
      let made : List Expressions → Policy = λ files. record { tree = tree_of ps; roles = roles; files = files } in
      let (files, u, e) = made-takes (counted most_files (shelf l.file (length ps) (depth_of (tree_of ps)))) made x p t in
      subst (PolicyFine l) e (record { tree = fine; roles = all; files = over most_files l.file x files u })

  pub roles-fine : (x : List ℕ) (p : Policy) → (with_roles l ps).Takes x p → PolicyFine l p
  unfolding with_roles
  roles-fine x p (y, z, roles, e, t, u) = files-fine roles (over most_roles l.role y roles t) z p u

-- a policy of version 1
pub body-fine : (x : List ℕ) (p : Policy) → (body version1).Takes x p → PolicyFine version1 p
unfolding body
body-fine x p (y, z, count, e, t, (y', z', ps, e', u, w)) =
    let b = byte-is (between 1 most_in_version1) no_count y count t in
    let q = parents-are (count - 1) y' ps u in
    roles-fine version1 ps (tree-fine ps (omega (arith, q.0, b.1.0, b.1.1)) (λ i h. q.1 i (omega (arith, q.0)))) z' p w

pub image-fine : (bytes : List ℕ) (p : Policy) → image.Takes bytes p → PolicyFine version1 p
unfolding policy_image
image-fine bytes p (y, z, v, e, t, u) = body-fine z p u
