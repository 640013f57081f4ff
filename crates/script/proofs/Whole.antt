-- What an input prints is what its parts print: `cut` alone, the load's line, or that line and what the records print. Assumes nothing.
use mathlib.Core.Path.{◌≡◌, refl, sym, ap, ◌∙◌, subst}
use mathlib.Core.Bool.{Bool, true, false, true≢false, false≢true}
use mathlib.Core.List.{List, [], ◌++◌, append-nil}
use mathlib.Core.Logic.{◌⊎◌, inl, inr}
use Prim.Native.Nat.{ℕ, ◌+◌, ◌-◌, ◌<◌, ◌≤◌}
use native.Mathlib.Nat.{sub-zero}
use native.Mathlib.Omega.{arith}
use lib.ListN.{length, take, drop, length-append, length-take, length-drop}
use Rattle.std.specs.Prelude.{Option, Some, None, is_some}
use Rattle.std.proofs.Common.{Bor}
use Rattle.image.specs.declared.Loaded.{Loaded as Image-as-Loaded}
use Rattle.image.specs.Load.{Loads}
use Rattle.policy.specs.declared.State.{State}
use Rattle.policy.specs.State.{fresh_state}
use Rattle.script.specs.Script.{Plays, Prints, Replays, stated, image_in, longest_front, cut_line}
use Rattle.script.specs.Windows.{PlaysTo, none_yet, line_room, Waits, WindowIs}
use Rattle.script.specs.Inner.{Puts, PutsLine, PlayedOn, RecordsAre}
use Rattle.script.specs.FillLaws.{filled_none, puts-both, all-written, still-fits}
use Rattle.script.specs.WindowLaws.{load-later}

-- what is written to the front of an output fills it
replayed : (input w before after : List ℕ) (r : ℕ) → Prints input w → Puts w before 0 after r → Replays input before after r
replayed input w before after r p q = record { printed = w; prints = p; filled = q before [] (filled_none before) }

pub only-cut : (input before after : List ℕ) (r : ℕ) → length input < 2 → Puts cut_line before 0 after r → Replays input before after r
only-cut input before after r h q = replayed input cut_line before after r (inl (h, refl)) q

module _ (input : List ℕ) (two : 2 ≤ length input) {image : List ℕ} (is-image : image ≡ image_in input) {fresh : State} (is-fresh : fresh ≡ fresh_state)
    {d : Image-as-Loaded} (l : Loads image fresh d) {before between : List ℕ} {n : ℕ} (p : PutsLine d.answer before 0 between n) where
  loads : Loads (image_in input) fresh_state d
  loads = subst (λ (s : State). Loads (image_in input) s d) is-fresh (subst (λ (b : List ℕ). Loads b fresh d) is-image l)

  prints : (rest : List ℕ) → (2 + stated input ≤ length input → Plays d.state (drop (2 + stated input) input) rest)
      → (length input < 2 + stated input → rest ≡ []) → Prints input (p.0 ++ rest)
  prints rest all short =
      inr
      (record {
        two = two;
        answer = d.answer;
        state = d.state;
        line = p.0;
        rest = rest;
        loads = loads;
        is-line = p.1;
        is = refl;
        whole = all;
        short = short;
      })

  only-line : length input < 2 + stated input → Prints input p.0
  only-line m = subst (Prints input) (append-nil p.0) (prints [] (λ e. absurd (omega arith)) (λ _. refl))

  pub image-short : length input < 2 + stated input → Replays input before between n
  image-short m = replayed input p.0 before between n (only-line m) p.2

  pub image-whole : {records after : List ℕ} {r : ℕ} → 2 + stated input ≤ length input → records ≡ drop (2 + stated input) input
      → PlayedOn d.state records between n after r → Replays input before after r
  image-whole {after = after} {r = r} m e q =
      replayed input (p.0 ++ q.printed) before after r
      (prints q.printed (λ _. subst (λ (b : List ℕ). Plays d.state b q.printed) e q.plays) (λ s. absurd (omega arith)))
      (puts-both p.0 q.printed before between after 0 n r p.2 q.put)

  -- the same as a window
  pub front-window : (ends : Bool) (records : Option (Bor (List ℕ))) → RecordsAre input records → 2 + stated input ≤ longest_front
      → (ends ≡ true) ⊎ (longest_front ≤ length input) → line_room ≤ length before
      → WindowIs None input ends before between (record { state = Some d.state; used = 2 + length image; n = n; more = is_some records })
  front-window ends records are few enough room =
      let filled = p.2 before [] (filled_none before) in
      let fits = still-fits [] p.0 (filled_none before) (omega arith) (omega (arith, p.3)) filled in
      let long : length image ≡ length (image_in input) = ap length is-image in
      let in-it = length-take (stated input) (drop 2 input) in
      let past = length-drop 2 input in
      let To : List ℕ → ℕ → Type 0 = λ later k. PlaysTo None (input ++ later) (Some d.state) (drop k input ++ later) p.0 in
      record {
        printed = p.0;
        count = (all-written filled fits).0;
        fits = fits;
        is = (all-written filled fits).1;
        within = omega arith;
        goes = λ m later.
            let whole = all-there records are m in
            subst (To later) (omega (arith, whole)) (load-later input later whole loads p.1);
        stops = λ m later z.
            let short = not-there records are m in
            rw (z (ends-here short), append-nil) (only-line short);
        waits = λ _ e. absurd (true≢false e);
      }
    where
      all-there : (records : Option (Bor (List ℕ))) → RecordsAre input records → is_some records ≡ true → 2 + stated input ≤ length input
      all-there None a m = absurd (false≢true m)
      all-there (Some b) a m = a.0

      not-there : (records : Option (Bor (List ℕ))) → RecordsAre input records → is_some records ≡ false → length input < 2 + stated input
      not-there None a m = a
      not-there (Some b) a m = absurd (true≢false m)

      ends-here : length input < 2 + stated input → ends ≡ true
      ends-here short = go enough
        where
          go : (ends ≡ true) ⊎ (longest_front ≤ length input) → ends ≡ true
          go (inl y) = y
          go (inr y) = absurd (omega (arith, short, few))

-- under two bytes that are all
pub cut-window : {window : List ℕ} (ends : Bool) {before after : List ℕ} {n : ℕ} → (ends ≡ true) ⊎ (longest_front ≤ length window)
    → line_room ≤ length before → length window < 2 → Puts cut_line before 0 after n
    → WindowIs None window ends before after (record { state = None; used = 0; n = n; more = false })
cut-window {window} ends {before} enough room few q =
    let filled = q before [] (filled_none before) in
    let fits = still-fits [] cut_line (filled_none before) (omega arith) (omega arith) filled in
    record {
      printed = cut_line;
      count = (all-written filled fits).0;
      fits = fits;
      is = (all-written filled fits).1;
      within = omega arith;
      goes = λ m. absurd (false≢true m);
      stops = λ _ later z. inl (omega (arith, length-append window later, ap length (z (ends-here enough))), refl);
      waits = λ m. absurd (false≢true m);
    }
  where
    ends-here : (ends ≡ true) ⊎ (longest_front ≤ length window) → ends ≡ true
    ends-here (inl y) = y
    ends-here (inr y) = absurd (omega arith)

-- and too few bytes, or too little room
pub front-waits : (window : List ℕ) (ends : Bool) (before : List ℕ) → Waits longest_front line_room ends (length window) (length before)
    → WindowIs None window ends before before (record { state = None; used = 0; n = 0; more = true })
front-waits window ends before w = record {
  printed = [];
  count = refl;
  fits = omega arith;
  is = refl;
  within = omega arith;
  goes = λ _ later. none_yet;
  stops = λ m. absurd (true≢false m);
  waits = λ _ _. rw (sub-zero (length window), sub-zero (length before)) w;
}
