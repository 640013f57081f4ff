-- Demand 3, in the user's words: "Take any sequence of requests after a granted load, with no later load and no bypass change granted in it. Then every
-- indelible part is still the loaded one. And if content could have moved from one file to another, by sessions that each read a file and later wrote the
-- next, any number of files long, then nobody passes the indelible read conditions of the last file without passing those of the first." And 02's [2]: "in
-- demand 3 content moves by a granted Read or Execute, then a Write." Below, each sentence is followed by its theorem. Assumes nothing.
use Rattle.std.specs.Prelude.{◌≡◌, List, ℕ}
use Rattle.std.proofs.Common.{ap, ◌∙◌}
use Rattle.answer.specs.declared.Answer.{Answer}
use Rattle.answer.specs.Answers.{Granted}
use Rattle.securon.specs.Sets.{Set}
use Rattle.expression.specs.Bytes.{SET}
use Rattle.policy.specs.declared.State.{State}
use Rattle.policy.specs.State.{IsMode, e_of, g_of}
use Rattle.machine.specs.Machine.{load, Step, GateEvent, GateRun}
use Rattle.claims.specs.Trace.{Quiet, Reached, ReachedInTime, PassesIndelible}
use Rattle.claims.proofs.TraceLaws.{run-keeps}
use Rattle.claims.proofs.MoveLaws.{reached-confines, in-time, passes-first, passes_kept, passes-loaded}

-- "Take any sequence of requests after a granted load, with no later load and no bypass change granted in it.": whatever the state before was, a load
-- was granted and left `loaded`; then came these requests, in which no load and no bypass was granted, and left `present`
pub record AfterLoad (loaded present : State) (es : List GateEvent) : Type 0 where
  pub before : State
  pub image : List ℕ
  pub answer : Answer
  pub loads : Step before (load image) answer loaded
  pub granted : Granted answer
  pub then : GateRun loaded es present
  pub quiet : Quiet es

-- every E and G of every row of every file, byte for byte
pub record IndelibleKept (loaded present : State) : Type 0 where
  pub e : (file mode : ℕ) → IsMode mode → e_of present file mode ≡ e_of loaded file mode
  pub g : (file mode : ℕ) → IsMode mode → g_of present file mode ≡ g_of loaded file mode

-- and as sets, over the tree
pub record IndelibleSetsKept (loaded present : State) : Type 1 where
  pub e : (file mode : ℕ) → IsMode mode → SET present.tree (e_of present file mode) ≡ SET loaded.tree (e_of loaded file mode)
  pub g : (file mode : ℕ) → IsMode mode → SET present.tree (g_of present file mode) ≡ SET loaded.tree (g_of loaded file mode)

module _ {loaded present : State} {es : List GateEvent} (w : AfterLoad loaded present es) where
  -- "Then every indelible part is still the loaded one."
  pub every-indelible-part-is-still-the-loaded-one : IndelibleKept loaded present
  every-indelible-part-is-still-the-loaded-one = let k = run-keeps w.then w.quiet in record { e = k.e; g = k.g }

  pub and-so-is-its-set : IndelibleSetsKept loaded present
  and-so-is-its-set =
      let k = run-keeps w.then w.quiet in
      record {
        e = λ file mode h. ap (λ x. SET x (e_of present file mode)) k.tree ∙ ap (SET loaded.tree) (k.e file mode h);
        g = λ file mode h. ap (λ x. SET x (g_of present file mode)) k.tree ∙ ap (SET loaded.tree) (k.g file mode h);
      }

  -- "And if content could have moved from one file to another, by sessions that each read a file and later wrote the next, any number of files long, then
  -- nobody passes the indelible read conditions of the last file without passing those of the first.": whoever has V+, V-, M1, M2, of a loaded role or
  -- not; to run a file is to read it; the conditions are judged in the loaded state
  pub nobody-reads-the-last-without-the-first : {a b : ℕ} → Reached es a b → (v_plus v_minus m1 m2 : Set)
      → PassesIndelible loaded b v_plus v_minus m1 m2 → PassesIndelible loaded a v_plus v_minus m1 m2
  nobody-reads-the-last-without-the-first r = passes-first (reached-confines w.then w.quiet r)

  -- and so judged in the present state
  pub nor-in-the-present-state : {a b : ℕ} → Reached es a b → (v_plus v_minus m1 m2 : Set)
      → PassesIndelible present b v_plus v_minus m1 m2 → PassesIndelible present a v_plus v_minus m1 m2
  nor-in-the-present-state {a} {b} r v_plus v_minus m1 m2 p =
      let k = run-keeps w.then w.quiet in
      let first = nobody-reads-the-last-without-the-first r v_plus v_minus m1 m2 (passes-loaded k b v_plus v_minus m1 m2 p) in
      passes_kept k a v_plus v_minus m1 m2 first

  -- and so for moves one after another in time
  pub nor-in-time : {a b : ℕ} → ReachedInTime es a b → (v_plus v_minus m1 m2 : Set)
      → PassesIndelible loaded b v_plus v_minus m1 m2 → PassesIndelible loaded a v_plus v_minus m1 m2
  nor-in-time r = nobody-reads-the-last-without-the-first (in-time r)
