-- What the program prints is the print of a run. Assumes nothing.
use Rattle.std.specs.Prelude.{refl, List, [], ◌∷◌, ◌++◌, ℕ}
use Rattle.std.proofs.Common.{sym, ap, ◌∙◌, append_assoc, inl, inr}
use Rattle.policy.specs.State.{fresh_state}
use Rattle.machine.specs.Runs.{none, next}
use Rattle.machine.specs.RunLaws.{run-joined}
use Rattle.script.specs.Script.{cut_line}
use Rattle.door.specs.declared.BoxRecord.{BoxRecord}
use Rattle.door.specs.Laws.{done-runs}
use Rattle.parkbox.specs.Parking.{lent_room, BoxPrints, input-over, record-made, record-broken, ParkPrints}
use Rattle.parkbox.specs.BoxRuns.{no-further, one_further, CallMade, no_lines, line-then, EndPrints, BoxRun}

-- no record is left
at_rest : (b : BoxRecord) (rest last : List ℕ) → EndPrints rest last → BoxRun b.state rest last
at_rest b rest last e = record {
  calls = [];
  last-state = b.state;
  made = none;
  runs = none;
  rest = rest;
  are-records = no-further;
  lines = [];
  are-lines = no_lines;
  last = last;
  last-prints = e;
  is = refl;
}

pub box-run : {b : BoxRecord} {bytes printed : List ℕ} → BoxPrints b bytes printed → BoxRun b.state bytes printed
box-run {b} input-over = at_rest b [] [] (inl (refl, refl))
box-run {b} {bytes} (record-broken some not) = at_rest b bytes cut_line (inr (some, not, refl))
box-run {b} (record-made {after = after} {given = given} {line = line} {c = c} {a = a} i d l p) =
    let w = box-run p in
    let e : CallMade = record { before = b.state; request = record { call = c; given = given }; answer = a } in
    record {
      calls = e ∷ w.calls;
      last-state = w.last-state;
      made = next {e = e} d w.made;
      runs = run-joined (done-runs b.state after.state c lent_room a given d) w.runs;
      rest = w.rest;
      are-records = one_further i w.are-records;
      lines = line ++ w.lines;
      are-lines = line-then {e = e} l w.are-lines;
      last = w.last;
      last-prints = w.last-prints;
      is = ap (line ++◌) w.is ∙ sym (append_assoc line w.lines w.last);
    }

-- every input prints what a run from the fresh state answers
pub every-park-is-a-run : {input printed : List ℕ} → ParkPrints input printed → BoxRun fresh_state input printed
every-park-is-a-run p = box-run p
