-- The mark and the version, read one after another. Assumes nothing.
use Rattle.std.specs.Prelude.{ℕ, Result}
use Rattle.std.specs.declared.result.Result.TheVariants.{Ok, Err}
use mathlib.Core.List.{List}
use native.Mathlib.Omega.{arith}
use Rattle.answer.specs.Numbers.{mark_wrong, version_wrong}
use Rattle.fields.specs.declared.Read.{Read}
use Rattle.fields.specs.declared.Refused.{Refused}
use Rattle.fields.specs.Format.{Format}
use Rattle.fields.specs.Combine.{◌>>◌}
use Rattle.fields.specs.Parts.{between, just, byte, word}
use Rattle.fields.specs.Reading.{Met, Reads, ReadsSome, NumberRead}
use Rattle.fields.specs.Readings.{byte-as, reads_then, then-refused}
use Rattle.image.specs.Image.{mark_s, mark_p, mark_t, no_mark, no_version, in_use, head}

module _ (bs : List ℕ) where
  -- a byte of the mark, and what follows it
  mark-read : (b : ℕ) (m : Result ℕ Refused) (r : Met ℕ) → NumberRead byte bs m b b mark_wrong r → Reads (byte (just b) no_mark) bs m r
  mark-read b m r w =
      byte-as (between b b) (just b) (λ v. ((λ i. omega (arith, i.0, i.1)), λ e. (omega arith, omega arith))) no_mark bs m r
      (w.reads no_mark.listed)

  module _ (b : ℕ) (G : Format ℕ) {m : Result ℕ Refused} where
    mark-then : {r : Read ℕ} → NumberRead byte bs m b b mark_wrong (Ok r) → (o : Met ℕ) → Reads G bs (Ok r.next) o
        → Reads (byte (just b) no_mark >> G) bs m o
    mark-then {r} w o f = reads_then (byte (just b) no_mark) (λ _. G) bs m r.value r.next o (mark-read b m (Ok r) w) f

    mark-refused : {e : Refused} → NumberRead byte bs m b b mark_wrong (Err e) → Reads (byte (just b) no_mark >> G) bs m (Err e)
    mark-refused {e} w = then-refused (byte (just b) no_mark) (λ _. G) bs m e (mark-read b m (Err e) w)

  abbrev version : Format ℕ
  version = word (between 1 in_use.latest) no_version

  abbrev third : Format ℕ
  third = byte (just mark_t) no_mark >> version

  abbrev second : Format ℕ
  second = byte (just mark_p) no_mark >> third

  -- each of them is refused, or all are read
  pub head-first : {e : Refused} → NumberRead byte bs (Ok 0) mark_s mark_s mark_wrong (Err e) → ReadsSome (head in_use.latest) bs (Ok 0) (Err e)
  unfolding head
  head-first a = mark-refused mark_s second a

  module _ {s : Read ℕ} (a : NumberRead byte bs (Ok 0) mark_s mark_s mark_wrong (Ok s)) where
    pub head-second : {e : Refused} → NumberRead byte bs (Ok s.next) mark_p mark_p mark_wrong (Err e) → ReadsSome (head in_use.latest) bs (Ok 0) (Err e)
    unfolding head
    head-second b = mark-then mark_s second a (Err _) (mark-refused mark_p third b)

    module _ {p : Read ℕ} (b : NumberRead byte bs (Ok s.next) mark_p mark_p mark_wrong (Ok p)) where
      pub head-third : {e : Refused} → NumberRead byte bs (Ok p.next) mark_t mark_t mark_wrong (Err e) → ReadsSome (head in_use.latest) bs (Ok 0) (Err e)
      unfolding head
      head-third c = mark-then mark_s second a (Err _) (mark-then mark_p third b (Err _) (mark-refused mark_t version c))

      module _ {t : Read ℕ} (c : NumberRead byte bs (Ok p.next) mark_t mark_t mark_wrong (Ok t)) where
        all : (o : Met ℕ) → NumberRead word bs (Ok t.next) 1 in_use.latest version_wrong o → Reads (head in_use.latest) bs (Ok 0) o
        unfolding head
        all o d = mark-then mark_s second a o (mark-then mark_p third b o (mark-then mark_t version c o (d.reads no_version.listed)))

        pub head-version : {e : Refused} → NumberRead word bs (Ok t.next) 1 in_use.latest version_wrong (Err e)
            → ReadsSome (head in_use.latest) bs (Ok 0) (Err e)
        head-version {e} d = all (Err e) d

        pub head_read : {v : Read ℕ} → NumberRead word bs (Ok t.next) 1 in_use.latest version_wrong (Ok v)
            → ReadsSome (head in_use.latest) bs (Ok 0) (Ok v.next)
        head_read {v} d = (v.value, all (Ok v) d)
