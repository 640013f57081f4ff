-- What a print is answered, and what it leaves in the output. Assumes nothing.
use Rattle.std.specs.Prelude.{◌≡◌, refl, false, List, [], ◌∷◌, ℕ, ◌≤◌, length}
use Rattle.std.proofs.Common.{sym, ap, ◌∙◌, subst, inl, inr, append-nil, arith}
use Rattle.std.proofs.lemmas.Bool.{false≢true}
use Rattle.answer.specs.declared.Answer.{Answer}
use Rattle.answer.specs.Numbers.{done}
use Rattle.answer.specs.Answers.{Condition, Is, Granted, Decides, AllHold, FirstFails, Leaves}
use Rattle.answer.specs.Lists.{granted-all}
use Rattle.writing.specs.Laws.{front-written}
use Rattle.expression.specs.Expression.{Expr}
use Rattle.expression.specs.declared.Kind.TheVariants.{Protection}
use Rattle.expression.specs.Bytes.{bytes, longest}
use Rattle.expression.specs.Judge.{InOrderOver}
use Rattle.expression.specs.Scan.{nil-of}
use Rattle.policy.specs.declared.State.{State}
use Rattle.print.specs.declared.Printing.{Printing}
use Rattle.print.specs.Print.{PrintOf, of-nothing, of-expression, printed, print_conditions, print_grants, print_makes}
use Rattle.print.specs.Writing.{Ahead, PrintsFront}
use Rattle.print.specs.Longest.{print-fits}

module _ (grants : ℕ → Type 0) (a : Answer) where
  -- the answer of a list that holds, and of one that refuses
  all-decide : (cs : List Condition) → AllHold cs → Granted a → grants a.place → Decides cs grants a
  all-decide [] h g p = (g, p)
  all-decide (c ∷ cs) h g p = inr (h.0, all-decide cs h.1 g p)

  fails-decide : (cs : List Condition) → FirstFails cs a.number a.place → Decides cs grants a
  fails-decide [] f = absurd f
  fails-decide (c ∷ cs) (inl f) = inl (f.0, sym f.1, f.2)
  fails-decide (c ∷ cs) (inr f) = inr (f.0, fails-decide cs f.1)

-- a list does not both hold and refuse
fails-not-all : (cs : List Condition) (n k : ℕ) → FirstFails cs n k → AllHold cs → ⊥
fails-not-all [] n k f h = f
fails-not-all (c ∷ cs) n k (inl f) h = f.0 h.0
fails-not-all (c ∷ cs) n k (inr f) h = fails-not-all cs n k f.1 h.1

-- the answer, and what it leaves of the output
abbrev pub Answers : State → List ℕ → List ℕ → Answer → List ℕ → Type 0
Answers s x before a after =
    Decides (print_conditions s x (length before)) (print_grants x) a × Leaves a (print_makes x before) before after

module _ (s : State) (x before : List ℕ) where
  -- a refusal
  pub print-refused : (a : Answer) → FirstFails (print_conditions s x (length before)) a.number a.place → Answers s x before a before
  print-refused a f =
      let cs = print_conditions s x (length before) in
      let d = fails-decide (print_grants x) a cs f in (
        d,
        record { on-grant = λ g. absurd (fails-not-all cs _ _ f (granted-all (print_grants x) a cs refl d g)); on-refusal = λ _. refl },
      )

  module _ (held : AllHold (print_conditions s x (length before))) where
    -- length 0 prints nothing
    pub print-empty : (a : Answer) → length x ≡ 0 → Is a done 0 → Answers s x before a before
    print-empty a e is =
        let none : PrintOf x [] = subst (λ (y : List ℕ). PrintOf y []) (sym (nil-of x e)) of-nothing in (
          all-decide (print_grants x) a (print_conditions s x (length before)) held is.number ([], none, is.place),
          record { on-grant = λ _. ([], none, refl); on-refusal = λ n. absurd (n is.number) },
        )

    -- else there is an expression
    module _ (some : length x ≡ 0 → ⊥) where
      expression : (e : Expr) × (x ≡ bytes e)
      expression = go held.1.0
        where
          go : InOrderOver Protection s.tree x → (e : Expr) × (x ≡ bytes e)
          go (k, p, (l, inl q)) = absurd (some (ap length q))
          go (k, p, (l, inr (e, f, q))) = (e, q)

      few : length x ≤ longest
      few = held.1.0.2.0

      pub print-ahead : Ahead x false before 0
      print-ahead =
          let e = expression.0 in
          let is = expression.1 in
          record {
            expr = e;
            tail = [];
            is = is ∙ sym (append-nil (bytes e));
            joined = λ t. absurd (false≢true t);
            room = omega (arith, print-fits e (subst (λ (y : List ℕ). length y ≤ longest) is few), held.1.1.0);
          }

      pub print-done : {after : List ℕ} {r : Printing} (a : Answer) → PrintsFront x false before 0 after r → Is a done r.to → Answers s x before a after
      print-done {after} {r} a w i =
          let e = expression.0 in
          let o = (w e [] (expression.1 ∙ sym (append-nil (bytes e)))).1 in
          let is : PrintOf x (printed e) = subst (λ (y : List ℕ). PrintOf y (printed e)) (sym expression.1) (of-expression e) in (
            all-decide (print_grants x) a (print_conditions s x (length before)) held i.number (printed e, is, i.place ∙ o.next ∙ omega arith),
            record { on-grant = λ _. (printed e, is, front-written o); on-refusal = λ n. absurd (n i.number) },
          )
