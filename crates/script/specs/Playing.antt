-- What comes of the next record of an input, and what the function that plays it promises. Definitions only.
use Rattle.std.specs.Prelude.{◌≡◌, List, [], ℕ}
use Rattle.policy.specs.declared.State.{State}
use Rattle.machine.specs.Machine.{Request, Step}
use Rattle.gate.specs.Effects.{Tells}
use Rattle.script.specs.declared.Played.{Played}
use Rattle.script.specs.declared.Played.TheVariants.{Ended, Cut, Called}
use Rattle.script.specs.Script.{IsRecord}

-- no record stands at the front
abbrev pub NoRecord : List ℕ → Type 0
NoRecord bs = (q : Request) (rest : List ℕ) → IsRecord bs q rest → ⊥

-- what comes of the next record in the state s: the input has ended; no record stands there; or one does, with these bytes after it, and this is what
-- its call gives. Where no call is made there is no answer, and no state after it
abbrev pub PlayedIs : State → List ℕ → Played → Type 0
PlayedIs s bs Ended = bs ≡ []
PlayedIs s bs Cut = (bs ≡ [] → ⊥) × NoRecord bs
PlayedIs s bs (Called effect left) = (q : Request) × IsRecord bs q left.now × Tells s (λ o. Step s q o.answer o.state) effect
