-- `records::read_field` meets its contract: its number is cut, it is cut, or it is there. Assumes nothing.
use mathlib.Core.Path.{◌≡◌, ap₂, ◌∙◌}
use mathlib.Core.List.{[], ◌∷◌}
use Prim.Native.Nat.{ℕ}
use native.Mathlib.Omega.{arith}
use lib.ListN.{drop}
use Rattle.records.specs.Records.{size}
use Rattle.records.specs.Laws.{size_in}
use Rattle.records.specs.Places.{size-at, no_number, no_field, a-field}
use Rattle.records.proofs.read_field.Goals as goal

pub returns-then-bytes-at : goal.returns-then-bytes-at
returns-then-bytes-at c =
    let lead = c.lead-lead.ensures.0 in
    no_number c.args.shape c.args.bytes.now c.args.at c.requires (omega (arith, c.if-bytes-at.true))

pub returns-then-bytes-from : goal.returns-then-bytes-from
returns-then-bytes-from c =
    let a = c.args in
    let n : c.size-size.result ≡ size_in a.shape (drop a.at a.bytes.now) =
    c.size-size.ensures.0 ∙ ap₂ (λ (x y : ℕ). size a.shape (x ∷ y ∷ [])) c.byte_at.ensures c.byte_at-2.ensures ∙ size-at a.shape a.bytes.now a.at c.requires in
    let lead = c.lead-lead.ensures.0 in
    no_field a.shape a.bytes.now a.at c.requires c.size-size.result n (omega (arith, c.if-bytes-from.true))

pub returns : goal.returns
returns c =
    let a = c.args in
    let n : c.size-size.result ≡ size_in a.shape (drop a.at a.bytes.now) =
    c.size-size.ensures.0 ∙ ap₂ (λ (x y : ℕ). size a.shape (x ∷ y ∷ [])) c.byte_at.ensures c.byte_at-2.ensures ∙ size-at a.shape a.bytes.now a.at c.requires in
    let lead = c.lead-lead.ensures.0 in
    rw lead (a-field a.shape a.bytes.now a.at c.requires c.size-size.result n (omega (arith, c.if-bytes-from.false, c.if-bytes-at.false)))
