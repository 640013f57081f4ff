-- A box's life: calls on one box, one after another, and the requests that they are. Definitions only.
use Rattle.std.specs.Prelude.{List, [], ◌++◌, ℕ}
use Rattle.machine.specs.Machine.{load, GateEvent}
use Rattle.door.specs.declared.BoxRecord.{BoxRecord}
use Rattle.door.specs.Box.{requests, requested, Refills, Called, Uncalled}

-- from b to c the box met these requests: those of the records that it was given, and each image; a print makes none, nor do bytes
-- that are no record
pub data BoxLife : BoxRecord → List GateEvent → BoxRecord → Type 0 where
  not_yet : {b : BoxRecord} → BoxLife b [] b
  given-a-record : {b m c : BoxRecord} {es : List GateEvent} {rec out after : List ℕ} {r : ℕ}
      → (w : Called b rec out r m after) → BoxLife m es c → BoxLife b (requested b.state w.call w.makes.answer ++ es) c
  given-no-record : {b m c : BoxRecord} {es : List GateEvent} {rec out after : List ℕ} {r : ℕ}
      → Uncalled b rec out r m after → BoxLife m es c → BoxLife b es c
  given-an-image : {b m c : BoxRecord} {es : List GateEvent} {image : List ℕ} {r : ℕ}
      → (w : Refills b image r m) → BoxLife m es c → BoxLife b (requested b.state (requests (load image)) w.answer ++ es) c
