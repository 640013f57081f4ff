-- The machine: a request, what it does to a state, and requests one after another. Definitions only.
use Rattle.std.specs.Prelude.{List, ℕ}
use Rattle.answer.specs.declared.Answer.{Answer}
use Rattle.policy.specs.declared.State.{State}
use Rattle.image.specs.Load.{Loads}
use Rattle.gate.specs.Requests.{Begins, Ends, Asks, Changes, Bypasses}
use Rattle.machine.specs.Runs.{Event, Run}

-- a request with its arguments, whatever they are
pub data Request : Type 0 where
  load : List ℕ → Request
  begin : ℕ → ℕ → Request
  end : ℕ → Request
  ask : ℕ → ℕ → ℕ → Request
  change : ℕ → ℕ → ℕ → List ℕ → List ℕ → Request
  bypass : ℕ → ℕ → ℕ → List ℕ → List ℕ → Request

-- in the state s the request gives the answer a and leaves the state t: each line is the promise of the function that serves it
abbrev pub Step : State → Request → Answer → State → Type 0
Step s (load image) a t = Loads image s (record { answer = a; state = t })
Step s (begin slot role) a t = Begins s slot role (record { answer = a; state = t })
Step s (end slot) a t = Ends s slot (record { answer = a; state = t })
Step s (ask slot file mode) a t = Asks s slot file mode (record { answer = a; state = t })
Step s (change slot file mode t1 t2) a t = Changes s slot file mode t1 t2 (record { answer = a; state = t })
Step s (bypass slot file mode e g) a t = Bypasses s slot file mode e g (record { answer = a; state = t })

-- a request that was made of the gate; requests to it, one after another
abbrev pub GateEvent : Type 0
GateEvent = Event State Request

abbrev pub GateRun : State → List GateEvent → State → Type 0
GateRun = Run Step
