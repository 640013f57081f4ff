-- What holds between two records of a run: what was printed is written, and what the rest prints comes after it. Assumes nothing.
use mathlib.Core.Path.{◌≡◌, refl, sym, ap, ◌∙◌, subst}
use mathlib.Core.List.{List, [], ◌++◌, append-nil}
use mathlib.Core.Logic.{inl, inr}
use Prim.Native.Nat.{ℕ, ◌+◌, ◌-◌, ◌<◌, ◌≤◌}
use native.Mathlib.Omega.{arith}
use lib.ListN.{length, drop}
use lib.Seq.{drop-drop}
use Rattle.std.specs.Prelude.{Some, None}
use Rattle.std.proofs.Common.{Bor}
use Rattle.policy.specs.declared.State.{State}
use Rattle.script.specs.Script.{Plays, ended, cut, cut_line}
use Rattle.script.specs.Inner.{Puts, ToldIs, PlayedOn}
use Rattle.script.specs.Records.{record-left}
use Rattle.script.specs.FillLaws.{puts_none, puts-both}
use Rattle.script.specs.Windows.{PlaysTo, none_yet}
use Rattle.script.specs.WindowLaws.{record-later, one-call-on, then-further, then-out}

-- so far: the state, the bytes that are left, and the output with its count
pub record Going (s₀ : State) (input first : List ℕ) (n : ℕ) (s : State) (rest before : List ℕ) (k : ℕ) : Type 0 where
  pub within : length rest ≤ length input
  pub left : rest ≡ drop (length input - length rest) input
  pub long : length before ≡ length first
  pub printed : List ℕ
  pub put : Puts printed first n before k
  pub on : (later : List ℕ) → PlaysTo (Some s₀) (input ++ later) (Some s) (rest ++ later) printed

pub going-first : (s : State) (input first : List ℕ) (n : ℕ) → Going s input first n s input first n
going-first s input first n =
    let none : length input - length input ≡ 0 = omega arith in
    record {
      within = omega arith;
      left = ap (λ (k : ℕ). drop k input) (sym none);
      long = refl;
      printed = [];
      put = puts_none first n;
      on = λ later. none_yet;
    }

module _ {s₀ : State} {input first : List ℕ} {n : ℕ} {s : State} {rest before : List ℕ} {k : ℕ} (g : Going s₀ input first n s rest before k)
  where
    -- what is written last
    ends_with : {after : List ℕ} {r : ℕ} (w : List ℕ) → Plays s rest w → Puts w before k after r → PlayedOn s₀ input first n after r
    ends_with {after} {r} w p q =
        let out = then-out w (g.on []) (subst (λ (l : List ℕ). Plays s l w) (sym (append-nil rest)) p) in
        record {
          printed = g.printed ++ w;
          plays = subst (λ (l : List ℕ). Plays s₀ l (g.printed ++ w)) (append-nil input) out;
          put = puts-both g.printed w first before after n k r g.put q;
        }

    pub stops : (t : State) {after : List ℕ} {r : ℕ} → ToldIs s rest before k t after r None → PlayedOn s₀ input first n after r
    stops t (inl e) = ends_with [] (subst (λ (l : List ℕ). Plays s l []) (sym e.0) ended) e.1
    stops t (inr e) = ends_with cut_line (cut e.0 e.1) e.2

    -- and what goes on
    pub goes : {t : State} {after : List ℕ} {r : ℕ} (left : Bor (List ℕ)) → ToldIs s rest before k t after r (Some left) → length after ≡ length before
        → (length left.now < length rest) × Going s₀ input first n t left.now after r
    goes {after = after} {r = r} left e h =
        let w = record-left e.2 in
        let p = e.4 in
        let d : drop (length rest - length left.now) (drop (length input - length rest) input) ≡ drop (length input - length left.now) input =
        drop-drop (length rest - length left.now) (length input - length rest) input
        ∙ ap (λ (j : ℕ). drop j input) (omega (arith, w.0, g.within)) in (
          w.0,
          record {
            within = omega (arith, w.0, g.within);
            left = w.1 ∙ ap (drop (length rest - length left.now)) g.left ∙ d;
            long = h ∙ g.long;
            printed = g.printed ++ p.0;
            put = puts-both g.printed p.0 first before after n k r g.put p.2;
            on = λ later. then-further (g.on later) (one-call-on (record-later e.2 later) e.3 p.1);
          },
        )
