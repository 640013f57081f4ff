-- A box's life is a run of the requests that its records are, so the demands hold of every box. Assumes nothing.
use Rattle.std.proofs.Common.{subst}
use Rattle.std.specs.Prelude.{List, ℕ, length}
use Rattle.answer.specs.Answers.{Granted}
use Rattle.machine.specs.Runs.{none, next}
use Rattle.machine.specs.RunLaws.{run-joined}
use Rattle.machine.specs.Machine.{load, GateEvent, GateRun}
use Rattle.door.specs.declared.BoxRecord.{BoxRecord}
use Rattle.door.specs.Box.{Refills}
use Rattle.door.specs.Laws.{done-runs}
use Rattle.claims.specs.Trace.{Quiet}
use Rattle.claims.proofs.Demand3.{AfterLoad}
use Rattle.claims.specs.Boxes.{BoxLife, not_yet, given-a-record, given-no-record, given-an-image}

pub a-box-lives-a-run : {b c : BoxRecord} {es : List GateEvent} → BoxLife b es c → GateRun b.state es c.state
a-box-lives-a-run not_yet = none
a-box-lives-a-run {b} (given-a-record {m = m} {out = out} w l) =
    let made = w.makes in
    run-joined (done-runs b.state m.state w.call (length out) made.answer made.given made.does) (a-box-lives-a-run l)
a-box-lives-a-run {b} {c} {es} (given-no-record w l) =
    subst (λ (m : BoxRecord). GateRun m.state es c.state) w.unaltered (a-box-lives-a-run l)
a-box-lives-a-run {b} (given-an-image {image = image} w l) =
    next {e = record { before = b.state; request = load image; answer = w.answer }} w.steps (a-box-lives-a-run l)

-- so demand 3 speaks of every box after a granted load, whatever memory it was before
pub demand-3-holds-of-a-box : {b m c : BoxRecord} {es : List GateEvent} {image : List ℕ} {r : ℕ} → (w : Refills b image r m) → Granted w.answer
    → BoxLife m es c → Quiet es → AfterLoad m.state c.state es
demand-3-holds-of-a-box {b} {image = image} w g l q = record {
  before = b.state;
  image = image;
  answer = w.answer;
  loads = w.steps;
  granted = g;
  then = a-box-lives-a-run l;
  quiet = q;
}
