-- `next_size` meets its contract: what stands at the front is a record alone. Assumes nothing.
use mathlib.Core.Path.{◌≡◌, sym, ap, ◌∙◌, subst}
use mathlib.Core.List.{List, []}
use Prim.Native.Nat.{ℕ}
use native.Mathlib.Omega.{arith}
use lib.ListN.{length, take, length-append}
use lib.Seq.{take_at}
use Rattle.records.specs.declared.Record.{Record}
use Rattle.records.specs.Records.{Recorded, Stands}
use Rattle.records.specs.Laws.{record-alone}
use Rattle.door.specs.Box.{Call, IsBoxRecord}
use Rattle.door.specs.Laws.{is_call}
use Rattle.parkbox.specs.Inner.{Sized}
use Rattle.parkbox.proofs.next_size.Goals as goal

alone-call : {bs : List ℕ} {code : ℕ} {fs : List (List ℕ)} → Recorded bs code fs [] → (c : Call) × IsBoxRecord bs c []
alone-call w = (_, is_call w.listed w.fields w)

sized : (bs : List ℕ) (r : Record) → Stands bs r → Sized bs r.end
sized bs r w =
    let v = record-alone w.recorded in
    let alone = v.recorded in
    let long = ap length v.is ∙ length-append v.front w.rest in
    let ends = w.ends in
    let some = ap length alone.is in
    let front : take r.end bs ≡ v.front = ap (take r.end) v.is ∙ take_at v.front w.rest r.end (omega arith) in
    record {
      some = omega arith;
      within = omega arith;
      stands = subst (λ (l : List ℕ). (c : Call) × IsBoxRecord l c []) (sym front) (alone-call alone);
    }

pub returns : goal.returns
returns c = sized _ _ c.in_ok-read_record.ensures
