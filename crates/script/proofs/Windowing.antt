-- What the records of a window come to: what they print fits, and the replay goes on, has to wait or is over. Assumes nothing.
use mathlib.Core.Path.{◌≡◌, sym, ap, ap₂, ◌∙◌, subst}
use mathlib.Core.Bool.{Bool, true, false, true≢false, false≢true}
use mathlib.Core.List.{List, [], ◌++◌, append-nil}
use mathlib.Core.Logic.{◌⊎◌, inl, inr}
use Prim.Native.Nat.{ℕ, ◌+◌, ◌-◌, ◌<◌, ◌≤◌}
use native.Mathlib.Omega.{arith}
use lib.ListN.{length, get_or, drop, length-append}
use lib.Seq.{get_or-drop}
use Rattle.std.specs.Prelude.{Option, Some, None}
use Rattle.std.proofs.Common.{Bor}
use Rattle.policy.specs.declared.State.{State}
use Rattle.script.specs.Script.{Plays, ended, cut, cut_line, longest_record, Filled}
use Rattle.script.specs.Playing.{NoRecord}
use Rattle.script.specs.Windows.{line_room, Waits, WindowIs}
use Rattle.script.specs.Inner.{Puts, ToldIs}
use Rattle.script.specs.FillLaws.{filled_none, all-written, still-fits}
use Rattle.script.specs.WindowLaws.{none-later, then-out}
use Rattle.script.proofs.Going.{Going}

module _ {s₀ : State} {window first : List ℕ} {s : State} {rest before : List ℕ} {k : ℕ} (g : Going s₀ window first 0 s rest before k)
    (h : k ≤ length first) where
  held : Filled g.printed first before k
  held = g.put first [] (filled_none first)

  -- what is left of the window once all before the rest is used
  unused : length window - (length window - length rest) ≡ length rest
  unused = omega (arith, g.within)

  pub paused : (ends : Bool) → Waits longest_record line_room ends (length rest) (length before - k)
      → WindowIs (Some s₀) window ends first before (record { state = Some s; used = length window - length rest; n = k; more = true })
  paused ends w = record {
    printed = g.printed;
    count = (all-written held h).0;
    fits = h;
    is = (all-written held h).1;
    within = omega arith;
    goes = λ _ later. rw (sym g.left) (g.on later);
    stops = λ m. absurd (true≢false m);
    waits = λ _ _. rw (unused, sym g.long) w;
  }

  module _ (room : line_room ≤ length before - k) where
    -- where the run goes on, what is written fits
    pub fits_on : {t : State} {out : List ℕ} {r : ℕ} (left : Bor (List ℕ)) → ToldIs s rest before k t out r (Some left) → r ≤ length first
    fits_on left q =
        let p = q.4 in
        still-fits g.printed p.0 held h (omega (arith, g.long, p.3)) (p.2 first g.printed held)

    module _ (ends : Bool) (enough : (ends ≡ true) ⊎ (longest_record ≤ length rest)) (bytes : (i : ℕ) → get_or window i 0 < 256) where
      byte : (i : ℕ) → get_or rest i 0 < 256
      byte i =
          let used = length window - length rest in
          omega (arith, bytes (used + i), ap (λ (l : List ℕ). get_or l i 0) g.left, get_or-drop used window i 0)

      -- what is written last
      over-with : {out : List ℕ} {r : ℕ} (u : Option State) (w : List ℕ) → length w ≤ line_room
          → ((later : List ℕ) → (ends ≡ true → later ≡ []) → Plays s (rest ++ later) w) → Puts w before k out r
          → WindowIs (Some s₀) window ends first out (record { state = u; used = length window - length rest; n = r; more = false })
      over-with u w short plays q =
          let f = q first g.printed held in
          let fits = still-fits g.printed w held h (omega (arith, g.long)) f in
          record {
            printed = g.printed ++ w;
            count = (all-written f fits).0;
            fits = fits;
            is = (all-written f fits).1;
            within = omega arith;
            goes = λ m. absurd (false≢true m);
            stops = λ _ later z. then-out w (g.on later) (plays later z);
            waits = λ m. absurd (false≢true m);
          }

      -- the end of the window is that of the input, and where it has no record the input has none there
      ended_here : rest ≡ [] → (later : List ℕ) → (ends ≡ true → later ≡ []) → Plays s (rest ++ later) []
      ended_here e later z = go enough
        where
          go : (ends ≡ true) ⊎ (longest_record ≤ length rest) → Plays s (rest ++ later) []
          go (inl y) = subst (λ (l : List ℕ). Plays s l []) (sym (ap₂ ◌++◌ e (z y))) ended
          go (inr y) = absurd (omega (arith, ap length e))

      cut-here : (rest ≡ [] → ⊥) → NoRecord rest → (later : List ℕ) → (ends ≡ true → later ≡ []) → Plays s (rest ++ later) cut_line
      cut-here some none later z = go enough
        where
          go : (ends ≡ true) ⊎ (longest_record ≤ length rest) → Plays s (rest ++ later) cut_line
          go (inl y) =
              subst (λ (l : List ℕ). Plays s (rest ++ l) cut_line) (sym (z y))
              (subst (λ (l : List ℕ). Plays s l cut_line) (sym (append-nil rest)) (cut some none))
          go (inr y) = cut {bytes = rest ++ later} (λ e. omega (arith, ap length e, length-append rest later)) (none-later rest later byte y none)

      pub finished : (t : State) {out : List ℕ} {r : ℕ} (u : Option State) → ToldIs s rest before k t out r None
          → WindowIs (Some s₀) window ends first out (record { state = u; used = length window - length rest; n = r; more = false })
      finished t u (inl e) = over-with u [] (omega arith) (ended_here e.0) e.1
      finished t u (inr e) = over-with u cut_line (omega arith) (cut-here e.0 e.1) e.2
