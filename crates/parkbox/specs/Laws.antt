-- An input prints one thing. Assumes nothing.
use Rattle.std.specs.Prelude.{◌≡◌, refl, List, [], ◌++◌, ℕ, length}
use Rattle.std.proofs.Common.{sym, ap, ap₂, subst, arith}
use Rattle.answer.specs.declared.Answer.{Answer}
use Rattle.machine.specs.Laws.{Same}
use Rattle.lines.specs.Lines.{Line}
use Rattle.lines.specs.Laws.{one_line}
use Rattle.records.specs.Records.{Unrecorded}
use Rattle.door.specs.declared.BoxRecord.{BoxRecord}
use Rattle.door.specs.Box.{Call, IsBoxRecord, CallDoes}
use Rattle.door.specs.Laws.{matched, one-box-record, one-done}
use Rattle.parkbox.specs.Parking.{lent_room, NoBoxRecord, BoxPrints, input-over, record-made, record-broken, ParkPrints}

-- what is no record of the table is none of a call
pub unrecorded : {bs : List ℕ} → Unrecorded bs → NoBoxRecord bs
unrecorded n c rest w = let v = matched w in n v.code v.fields rest v.recorded

-- nothing is no record
some_bytes : {rest : List ℕ} {c : Call} → IsBoxRecord [] c rest → ⊥
some_bytes w = let e = ap length (matched w).recorded.is in omega arith

-- a call has one answer, gives out the same bytes, and leaves one box
module _ (b x y : BoxRecord) (c d : Call) (m n : Answer) (g h : List ℕ) (p : CallDoes b.state c lent_room m x.state g)
    (q : CallDoes b.state d lent_room n y.state h) (e : c ≡ d) where
  same : Same m n x.state y.state × (g ≡ h)
  same =
      one-done b.state c lent_room m n x.state y.state g h p
      (subst (λ (o : Call). CallDoes b.state o lent_room n y.state h) (sym e) q)

  same-box : x ≡ y
  same-box = λ j. record { state = same.0.state j }

  same-told : {k l : List ℕ} → Line m g k → Line n h l → k ≡ l
  same-told {l = l} u v =
      one_line u (subst (λ (a : Answer). Line a g l) (sym same.0.answer) (subst (λ (z : List ℕ). Line n z l) (sym same.1) v))

-- so from a box the bytes print one thing
pub one-box-print : {b : BoxRecord} {bytes u v : List ℕ} → BoxPrints b bytes u → BoxPrints b bytes v → u ≡ v
one-box-print input-over input-over = refl
one-box-print input-over (record-made i d l p) = absurd (some_bytes i)
one-box-print input-over (record-broken some none) = absurd (some refl)
one-box-print (record-made i d l p) input-over = absurd (some_bytes i)
one-box-print {b} (record-made {after = x} {rest = rest} {given = g} {c = c} {a = m} i d l p)
    (record-made {after = y} {given = h} {printed = printed} {c = e} {a = n} j f k q) =
    let o = one-box-record i j in
    let after = subst (λ (bs : List ℕ). BoxPrints y bs printed) (sym o.1) q in
    let further = subst (λ (z : BoxRecord). BoxPrints z rest printed) (sym (same-box b x y c e m n g h d f o.0)) after in
    ap₂ ◌++◌ (same-told b x y c e m n g h d f o.0 l k) (one-box-print p further)
one-box-print (record-made i d l p) (record-broken some none) = absurd (none _ _ i)
one-box-print (record-broken some none) input-over = absurd (some refl)
one-box-print (record-broken some none) (record-made i d l p) = absurd (none _ _ i)
one-box-print (record-broken some none) (record-broken some₂ none₂) = refl

-- and for every input there is one output
pub one-park-print : {input u v : List ℕ} → ParkPrints input u → ParkPrints input v → u ≡ v
one-park-print p q = one-box-print p q
