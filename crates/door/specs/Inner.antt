-- What the functions inside tell: the request at the places of a record's fields, and what a record comes to. A device of the proofs.
use Rattle.std.specs.Prelude.{◌≡◌, List, [], ℕ, ◌<◌, ◌≤◌, length, get_or}
use Rattle.std.proofs.Common.{inl, inr}
use Rattle.answer.specs.declared.Answer.{Answer}
use Rattle.answer.specs.Answers.{Is, packed}
use Rattle.policy.specs.declared.State.{State}
use Rattle.policy.specs.declared.Examined.{Examined}
use Rattle.policy.specs.WellFormed.{Examines}
use Rattle.policy.specs.Seen.{Of}
use Rattle.gate.specs.declared.Effect.{Effect}
use Rattle.gate.specs.Effects.{Tells}
use Rattle.machine.specs.Machine.{Request, load, Step}
use Rattle.machine.specs.Served.{request_of}
use Rattle.records.specs.declared.Span.{Span}
use Rattle.records.specs.Records.{no_span}
use Rattle.records.specs.Walk.{spanned}
use Rattle.door.specs.declared.BoxRecord.{BoxRecord}
use Rattle.door.specs.declared.Served.{Served}
use Rattle.door.specs.Box.{no_record, requests, prints, IsBoxRecord, Makes, Serves, Refills}

-- the places are within the bytes
abbrev pub Inside : List ℕ → List Span → Type 0
Inside bs ps = (i : ℕ) → ((get_or ps i no_span).from ≤ (get_or ps i no_span).to) × ((get_or ps i no_span).to ≤ length bs)

-- the request of a code with the fields at these places
abbrev pub field_at : List ℕ → List Span → ℕ → List ℕ
field_at bs ps i = spanned bs (get_or ps i no_span)

abbrev pub byte_in : List ℕ → List Span → ℕ → ℕ
byte_in bs ps i = get_or (field_at bs ps i) 0 0

abbrev pub request_at : ℕ → List ℕ → List Span → Request
request_at code bs ps = request_of code (byte_in bs ps 0) (byte_in bs ps 1) (byte_in bs ps 2) (field_at bs ps 3) (field_at bs ps 4)

-- what was seen of a state for the slot and the file that the first two fields name
abbrev pub SeenIn : State → List ℕ → List Span → Examined → Type 0
SeenIn s bs ps = Examines s (byte_in bs ps 0) (byte_in bs ps 1)

-- the effect tells a step by the request of a code with the fields at these places, of every state that was seen so for its slot and its file
abbrev pub EffectIs : Examined → List ℕ → ℕ → List Span → Effect → Type 0
EffectIs seen bs code ps e = Of (byte_in bs ps 0) (byte_in bs ps 1) seen (λ s. Tells s (λ o. Step s (request_at code bs ps) o.answer o.state) e)

-- what was answered, and how many bytes were given out
abbrev pub answer_in : {b after : BoxRecord} {rec out out' : List ℕ} {r : ℕ} → Serves b rec out r after out' → Answer
answer_in (inl w) = w.makes.answer
answer_in (inr w) = record { number = no_record; place = 0 }

abbrev pub given_in : {b after : BoxRecord} {rec out out' : List ℕ} {r : ℕ} → Serves b rec out r after out' → ℕ
given_in (inl w) = length w.makes.given
given_in (inr w) = 0

-- what bytes came to on the box: how they were served, told by the answer as one number; what the answer was, and how many bytes were given out
pub record ServedIs (b : BoxRecord) (rec out : List ℕ) (r : Served) (after : BoxRecord) (out' : List ℕ) : Type 0 where
  pub serves : Serves b rec out (packed r.answer) after out'
  pub answers : r.answer ≡ answer_in serves
  pub counted : r.given ≡ given_in serves
  pub small : r.answer.place < 65536

-- a print came to this: nothing is altered
pub record PrintIs (b : BoxRecord) (x out : List ℕ) (r : Served) (out' : List ℕ) : Type 0 where
  pub makes : Makes b (prints x) out (packed r.answer) b out'
  pub answers : r.answer ≡ makes.answer
  pub count : r.given ≡ length makes.given
  pub small : r.answer.place < 65536

-- of every box whose state was seen so
abbrev pub PrintsSeen : Examined → List ℕ → List ℕ → Served → List ℕ → Type 0
PrintsSeen seen x out r out' = (b : BoxRecord) (slot file : ℕ) → Examines b.state slot file seen → PrintIs b x out r out'

-- the record of a load on the box; or there is none, and nothing is altered
pub record LoadIs (b : BoxRecord) (rec : List ℕ) (a : Answer) (after : BoxRecord) : Type 0 where
  pub load-made : (image : List ℕ) → IsBoxRecord rec (requests (load image)) [] → Refills b image (packed a) after
  pub no-load : ((image : List ℕ) → IsBoxRecord rec (requests (load image)) [] → ⊥) → Is a no_record 0 × (after ≡ b)
