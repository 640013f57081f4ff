-- The whole image: each format follows those before it, and what they make is the state of the policy; the answer of it. Assumes nothing.
use mathlib.Core.Path.{◌≡◌, refl, sym, ap, ◌∙◌, subst, subst₂}
use mathlib.Core.Bool.{Bool, true, false}
use mathlib.Core.List.{List}
use mathlib.Core.Logic.{◌⊎◌, inl, inr}
use native.Mathlib.Omega.{arith}
use Prim.Native.Nat.{ℕ, suc, ◌-◌}
use lib.ListN.{length, replicate}
use Rattle.answer.specs.Numbers.{done, count_wrong}
use Rattle.answer.specs.declared.Answer.{Answer}
use Rattle.answer.specs.Answers.{Granted, Is}
use Rattle.tree.specs.declared.Tree.{Tree}
use Rattle.tree.specs.Tree.{IsTree, IsDepth}
use Rattle.tree.specs.Depth.{depth_of}
use Rattle.tree.specs.DepthLaws.{depth-exactly}
use Rattle.policy.specs.declared.Role.{Role}
use Rattle.policy.specs.declared.File.{File}
use Rattle.policy.specs.declared.State.{State}
use Rattle.policy.specs.State.{most_roles, most_files, slot_count, no_role, no_file}
use Rattle.std.specs.Prelude.{Result}
use Rattle.std.specs.declared.result.Result.TheVariants.{Ok, Err}
use Rattle.fields.specs.declared.Read.{Read}
use Rattle.fields.specs.declared.Refused.{Refused}
use Rattle.fields.specs.Format.{Format}
use Rattle.fields.specs.Combine.{◌>>=◌, times}
use Rattle.fields.specs.Parts.{between, byte}
use Rattle.fields.specs.Reading.{Met, read_to, remade, Reads, ReadsSome, NumberRead, Ends}
use Rattle.fields.specs.Readings.{reads_then, then-refused, reads_made, alone-ends}
use Rattle.fields.specs.Loads.{answers-done, answers-refused, not_done}
use Rattle.image.specs.Image.{Expressions, Policy, no_count, most_in_version1, version1, in_use, image}
use Rattle.image.specs.Image.{shelf, counted, parent_bytes, tree_of, with_files, with_roles, body, head, policy_image}
use Rattle.image.specs.Load.{as_role, as_file, state_of, Loads}
use Rattle.image.specs.Reading.{ReadsAs, TreeMade, TreeRead, RowsRead, kinds_of}

-- a count, and so many
module _ (most : ℕ) (F : Format Expressions) (bs : List ℕ) (m : Result ℕ Refused) where
  counted-refused : (e : Refused) → NumberRead byte bs m 0 most count_wrong (Err e) → Reads (counted most F) bs m (Err e)
  unfolding counted
  counted-refused e w = then-refused (byte (between 0 most) no_count) (λ count. times count (λ i. F)) bs m e (w.reads no_count.listed)

  counted-read : (c : Read ℕ) (o : Met (List Expressions)) → NumberRead byte bs m 0 most count_wrong (Ok c)
      → Reads (times c.value (λ i. F)) bs (Ok c.next) o → Reads (counted most F) bs m o
  unfolding counted
  counted-read c o w f =
      reads_then (byte (between 0 most) no_count) (λ count. times count (λ i. F)) bs m c.value c.next o (w.reads no_count.listed) f

-- each format after those before it
abbrev Whole : List ℕ → Met State → Type 0
Whole bs o = ReadsAs (policy_image in_use) state_of bs (Ok 0) o

module _ (bs : List ℕ) where
  pub head-refused : (e : Refused) → ReadsSome (head in_use.latest) bs (Ok 0) (Err e) → Whole bs (Err e)
  unfolding policy_image
  head-refused e f = then-refused (head in_use.latest) (λ v. body version1) bs (Ok 0) e f

  module _ (top : ℕ) (h : ReadsSome (head in_use.latest) bs (Ok 0) (Ok top)) where
    -- what comes of the whole is what comes of the body
    behind-head : (o : Met Policy) → Reads (body version1) bs (Ok top) o → Reads (policy_image in_use) bs (Ok 0) o
    unfolding policy_image
    behind-head o f = reads_then (head in_use.latest) (λ v. body version1) bs (Ok 0) h.0 top o h.1 f

    pub count-refused : (e : Refused) → NumberRead byte bs (Ok top) 1 most_in_version1 count_wrong (Err e) → Whole bs (Err e)
    unfolding body
    count-refused e w =
        behind-head (Err e)
        (then-refused (byte (between 1 most_in_version1) no_count) (λ count. parent_bytes (count - 1) >>= with_roles version1) bs (Ok top) e
        (w.reads no_count.listed))

    module _ (c : Read ℕ) (n-read : NumberRead byte bs (Ok top) 1 most_in_version1 count_wrong (Ok c)) where
      behind-count : (o : Met Policy) → Reads (parent_bytes (c.value - 1) >>= with_roles version1) bs (Ok c.next) o → Reads (policy_image in_use) bs (Ok 0) o
      unfolding body
      behind-count o f =
          behind-head o
          (reads_then (byte (between 1 most_in_version1) no_count) (λ count. parent_bytes (count - 1) >>= with_roles version1) bs (Ok top) c.value c.next o
          (n-read.reads no_count.listed) f)

      pub tree-refused : (e : Refused) → TreeRead c.value bs (Ok c.next) (Err e) → Whole bs (Err e)
      tree-refused e f = behind-count (Err e) (then-refused (parent_bytes (c.value - 1)) (with_roles version1) bs (Ok c.next) e f)

      module _ (g : Read Tree) (t-read : TreeMade c.value bs (Ok c.next) g.value g.next) (d : ℕ) (deep : IsDepth g.value d) where
        abbrev n : ℕ
        n = g.value.n

        abbrev ps : List ℕ
        ps = t-read.parents

        behind-tree : (o : Met Policy) → Reads (with_roles version1 ps) bs (Ok g.next) o → Reads (policy_image in_use) bs (Ok 0) o
        behind-tree o f = behind-count o (reads_then (parent_bytes (c.value - 1)) (with_roles version1) bs (Ok c.next) ps g.next o t-read.reads f)

        depth_same : d ≡ depth_of (tree_of ps)
        depth_same =
            let is = t-read.is in
            (depth-exactly (tree_of ps) (subst IsTree is t-read.grown) d).0 (subst (λ (x : Tree). IsDepth x d) is deep)

        parents_same : n - 1 ≡ length ps
        unfolding tree_of
        parents_same = let i : n ≡ suc (length ps) = ap (λ (t : Tree). t.n) t-read.is in omega arith

        -- the shelves, over the parents and the depth of their tree
        abbrev rows_of : Bool → Format Expressions
        rows_of file = shelf (kinds_of file) (length ps) (depth_of (tree_of ps))

        over : (file : Bool) (count : ℕ) (m : Result ℕ Refused) (o : Met (List Expressions))
            → Reads (times count (λ i. shelf (kinds_of file) (n - 1) d)) bs m o → Reads (times count (λ i. rows_of file)) bs m o
        over file count m o f = subst₂ (λ (i j : ℕ). Reads (times count (λ _. shelf (kinds_of file) i j)) bs m o) parents_same depth_same f

        roles-refused : (e : Refused) → Reads (counted most_roles (rows_of false)) bs (Ok g.next) (Err e) → Whole bs (Err e)
        unfolding with_roles
        roles-refused e f = behind-tree (Err e) (then-refused (counted most_roles (rows_of false)) (with_files version1 ps) bs (Ok g.next) e f)

        pub role-count-refused : (e : Refused) → NumberRead byte bs (Ok g.next) 0 most_roles count_wrong (Err e) → Whole bs (Err e)
        role-count-refused e w = roles-refused e (counted-refused most_roles (rows_of false) bs (Ok g.next) e w)

        module _ (rc : Read ℕ) (rc-read : NumberRead byte bs (Ok g.next) 0 most_roles count_wrong (Ok rc)) where
          pub roles-part-refused : (all : List Role) (e : Refused)
              → RowsRead as_role no_role most_roles (shelf (kinds_of false) (n - 1) d) rc.value bs (Ok rc.next) all (Err e) → Whole bs (Err e)
          roles-part-refused all e f =
              roles-refused e (counted-read most_roles (rows_of false) bs (Ok g.next) rc (Err e) rc-read (over false rc.value (Ok rc.next) (Err e) f))

          module _ (roles : List Role) (filed : ℕ)
              (r-read : RowsRead as_role no_role most_roles (shelf (kinds_of false) (n - 1) d) rc.value bs (Ok rc.next) roles (Ok filed)) where
            behind-roles : (o : Met Policy) → Reads (with_files version1 ps r-read.rows) bs (Ok filed) o → Reads (policy_image in_use) bs (Ok 0) o
            unfolding with_roles
            behind-roles o f =
                let all = over false rc.value (Ok rc.next) (read_to r-read.rows filed) r-read.reads in
                behind-tree o
                (reads_then (counted most_roles (rows_of false)) (with_files version1 ps) bs (Ok g.next) r-read.rows filed o
                (counted-read most_roles (rows_of false) bs (Ok g.next) rc (read_to r-read.rows filed) rc-read all) f)

            abbrev policy_with : List Expressions → Policy
            policy_with files = record { tree = tree_of ps; roles = r-read.rows; files = files }

            files-met : (o : Met (List Expressions)) → Reads (counted most_files (rows_of true)) bs (Ok filed) o
                → Reads (policy_image in_use) bs (Ok 0) (remade policy_with o)
            unfolding with_files
            files-met o f = behind-roles (remade policy_with o) (reads_made (counted most_files (rows_of true)) policy_with bs (Ok filed) o f)

            pub file-count-refused : (e : Refused) → NumberRead byte bs (Ok filed) 0 most_files count_wrong (Err e) → Whole bs (Err e)
            file-count-refused e w = files-met (Err e) (counted-refused most_files (rows_of true) bs (Ok filed) e w)

            module _ (fc : Read ℕ) (fc-read : NumberRead byte bs (Ok filed) 0 most_files count_wrong (Ok fc)) where
              files-read : (o : Met (List Expressions)) → Reads (times fc.value (λ i. shelf (kinds_of true) (n - 1) d)) bs (Ok fc.next) o
                  → Reads (policy_image in_use) bs (Ok 0) (remade policy_with o)
              files-read o f =
                  files-met o (counted-read most_files (rows_of true) bs (Ok filed) fc o fc-read (over true fc.value (Ok fc.next) o f))

              pub files-part-refused : (all : List File) (e : Refused)
                  → RowsRead as_file no_file most_files (shelf (kinds_of true) (n - 1) d) fc.value bs (Ok fc.next) all (Err e) → Whole bs (Err e)
              files-part-refused all e f = files-read (Err e) f

              -- the state that all of them make
              pub image-read : (files : List File) (end : ℕ)
                  → RowsRead as_file no_file most_files (shelf (kinds_of true) (n - 1) d) fc.value bs (Ok fc.next) files (Ok end)
                  → {slots : List ℕ} → slots ≡ replicate slot_count 0 → Whole bs (read_to (record {
                    tree = g.value;
                    nroles = rc.value;
                    roles = roles;
                    nfiles = fc.value;
                    files = files;
                    slots = slots;
                  }) end)
              unfolding as_role as_file
              image-read files end f-read free = (
                policy_with f-read.rows,
                files-read (read_to f-read.rows end) f-read.reads,
                cc (t-read.is, r-read.many, r-read.is, f-read.many, f-read.is, free),
              )

-- what a load gives back: only an image that is taken is granted
module _ (bs : List ℕ) (before : State) (a : Answer) where
  pub load-refused : (e : Refused) → Whole bs (Err e) → Ends bs (Err e) a → Loads bs before (record { answer = a; state = before })
  load-refused e w i = go (alone-ends (policy_image in_use) bs (Err e) a w i)
    where
      go : ((r : Read Policy) × (Err e ≡ Ok r) × (policy_image in_use).Takes bs r.value × Is a done 0)
          ⊎ ((n : ℕ) × (k : ℕ) × image.Refuses bs n k × Is a n k) → Loads bs before (record { answer = a; state = before })
      go (inl (r, q, t, i)) = absurd (cc)
      go (inr (n, k, f, i)) = record {
        answers = answers-refused image bs a f i;
        leaves = record { on-grant = λ g. absurd (not_done image bs n k f (sym i.number ∙ g)); on-refusal = λ _. refl };
      }

  module _ (s : State) (end : ℕ) (w : Whole bs (read_to s end)) (e : Ends bs (Ok end) a) where
    abbrev Ended : Type 0
    Ended =
        ((r : Read Policy) × (read_to w.0 end ≡ Ok r) × (policy_image in_use).Takes bs r.value × Is a done 0)
        ⊎ ((n : ℕ) × (k : ℕ) × image.Refuses bs n k × Is a n k)

    ended : Ended
    ended = alone-ends (policy_image in_use) bs (read_to w.0 end) a w.1 e

    pub load-granted : Granted a → Loads bs before (record { answer = a; state = s })
    load-granted g = go ended
      where
        go : Ended → Loads bs before (record { answer = a; state = s })
        go (inl (r, q, t, i)) =
            let v : w.0 ≡ r.value = cc in
            let taken = subst (λ (p : Policy). (policy_image in_use).Takes bs p) (sym v) t in
            record {
              answers = answers-done image bs a (w.0, taken) i;
              leaves = record { on-grant = λ _. (w.0, taken, w.2); on-refusal = λ n. absurd (n g) };
            }
        go (inr (n, k, r, i)) = absurd (not_done image bs n k r (sym i.number ∙ g))

    pub load-left-over : (Granted a → ⊥) → Loads bs before (record { answer = a; state = before })
    load-left-over n = go ended
      where
        go : Ended → Loads bs before (record { answer = a; state = before })
        go (inl (r, q, t, i)) = absurd (n i.number)
        go (inr (m, k, r, i)) = record {
          answers = answers-refused image bs a r i;
          leaves = record { on-grant = λ g. absurd (n g); on-refusal = λ _. refl };
        }
