-- What `Prints` gives for an input is the print of a run, and the demands hold of it. Assumes nothing.
use Rattle.std.specs.Prelude.{◌≡◌, refl, List, [], ◌∷◌, ◌++◌, ◌⊎◌, ℕ, ◌+◌, ◌≤◌, ◌<◌, length, drop}
use Rattle.std.proofs.Common.{sym, ap, ◌∙◌, append_assoc, inl, inr}
use Rattle.answer.specs.declared.Answer.{Answer}
use Rattle.answer.specs.Answers.{Granted}
use Rattle.policy.specs.declared.State.{State}
use Rattle.policy.specs.State.{fresh_state}
use Rattle.machine.specs.Runs.{none, next}
use Rattle.machine.specs.Machine.{Request, load, GateEvent, GateRun}
use Rattle.script.specs.Script.{Plays, ended, called, cut, cut_line, no_lines, line-then, stated, image_in, Prints, Loaded}
use Rattle.claims.specs.Trace.{Quiet}
use Rattle.claims.proofs.Demand3.{AfterLoad}
use Rattle.claims.specs.Replayed.{AreRecords, no_more, record-then, LastPrints, RecordsRun, InputRun}

pub records-run : {s : State} {bytes printed : List ℕ} → Plays s bytes printed → RecordsRun s bytes printed
records-run {s} ended = record {
  calls = [];
  last-state = s;
  runs = none;
  rest = [];
  are-records = no_more;
  lines = [];
  are-lines = no_lines;
  last = [];
  last-prints = inl (refl, refl);
  is = refl;
}
records-run {s} {bytes} (cut some not) = record {
  calls = [];
  last-state = s;
  runs = none;
  rest = bytes;
  are-records = no_more;
  lines = [];
  are-lines = no_lines;
  last = cut_line;
  last-prints = inr (some, not, refl);
  is = refl;
}
records-run {s} (called {t = t} {line = line} {printed = printed} {q = q} {a = a} r st l p) =
    let w = records-run p in
    let e : GateEvent = record { before = s; request = q; answer = a } in
    record {
      calls = e ∷ w.calls;
      last-state = w.last-state;
      runs = next {e = e} st w.runs;
      rest = w.rest;
      are-records = record-then r w.are-records;
      lines = line ++ w.lines;
      are-lines = line-then {e = e} l w.are-lines;
      last = w.last;
      last-prints = w.last-prints;
      is = ap (line ++◌) w.is ∙ sym (append_assoc line w.lines w.last);
    }

-- every input prints `cut` alone, being under two bytes, or what a run from the fresh state answers
pub every-replay-is-a-run : {input printed : List ℕ} → Prints input printed → ((length input < 2) × (printed ≡ cut_line)) ⊎ InputRun input printed
every-replay-is-a-run (inl p) = inl p
every-replay-is-a-run {input} (inr p) = inr (record {
  answer = p.answer;
  loaded = p.state;
  loads = p.loads;
  line = p.line;
  is-line = p.is-line;
  more = p.rest;
  is = p.is;
  whole = λ h. records-run (p.whole h);
  short = p.short;
})

-- the load and the records are one run from the fresh state
pub from-the-fresh-state : {input printed : List ℕ} (p : InputRun input printed) (h : 2 + stated input ≤ length input)
    → let w = p.whole h in
    GateRun fresh_state (record { before = fresh_state; request = load (image_in input); answer = p.answer } ∷ w.calls) w.last-state
from-the-fresh-state {input} p h =
    next {e = record { before = fresh_state; request = load (image_in input); answer = p.answer }} p.loads (p.whole h).runs

-- so demand 3 speaks of every replay whose load is granted and that grants no bypass
pub demand-3-holds-of-it : {input printed : List ℕ} (p : InputRun input printed) (h : 2 + stated input ≤ length input) → Granted p.answer
    → let w = p.whole h in Quiet w.calls → AfterLoad p.loaded w.last-state w.calls
demand-3-holds-of-it {input} p h g q = record {
  before = fresh_state;
  image = image_in input;
  answer = p.answer;
  loads = p.loads;
  granted = g;
  then = (p.whole h).runs;
  quiet = q;
}
