-- The cycle of calls {and_level, item, or_level} meets its contracts: each level follows from the one below it, and where one stops those after it stay.
-- Assumes nothing.
use mathlib.Core.Bool.{false≢true}
use mathlib.Core.Path.{◌≡◌, refl, sym, ap, ◌∙◌}
use native.Mathlib.Omega.{arith}
use lib.ListN.{length}
use Rattle.text.proofs.Levels.{shuts, one_number, a-range, and_last, and-more, or-last, or-more, stopped_there, beside-good}
use Rattle.text.proofs.Levels.{still-signed, still-ands, still-ors}
use Rattle.text.proofs.reader.Reader.+and_level_item_or_level.Goals as goal

pub and_level-returns-in_err-item : goal.and_level-returns-in_err-item
and_level-returns-in_err-item t c = rw (stopped_there _ _ _ c.from_residual.ensures.1) (and_last _ _ _ c.in_err-item.ensures (λ z. absurd (false≢true z)))

pub and_level-returns-in_err-sign : goal.and_level-returns-in_err-sign
and_level-returns-in_err-sign t c =
    let h = c.in_err-sign.ensures in
    rw (stopped_there _ _ _ c.from_residual-in_err-sign.ensures.1)
    (and-more _ _ _ c.in_ok-item.ensures (sym c.stands.ensures ∙ c.if-stands.true) _ h _ (λ z. absurd (false≢true z)) _ (still-ands _ _ _ h.on.good.within _))

pub and_level-returns-then-stands : goal.and_level-returns-then-stands
and_level-returns-then-stands t c =
    and-more _ _ _ c.in_ok-item.ensures (sym c.stands.ensures ∙ c.if-stands.true) _ c.in_ok-sign.ensures _ (λ _. c.insert.ensures) _ c.and_level.ensures

pub and_level-returns : goal.and_level-returns
and_level-returns t c = and_last _ _ _ c.in_ok-item.ensures (λ _. sym c.stands.ensures ∙ c.if-stands.false)

pub item-returns-in_err-sign : goal.item-returns-in_err-sign
item-returns-in_err-sign t c =
    let h = c.in_err-sign.ensures in
    let w = h.on.good.within in
    rw (stopped_there _ _ _ c.from_residual.ensures.1)
    (shuts _ c.requires (sym c.stands.ensures ∙ c.if-stands.true) _ h _ (still-ors _ _ _ w _) _ (still-signed _ _ _ w _))

pub item-returns-in_err-or_level : goal.item-returns-in_err-or_level
item-returns-in_err-or_level t c =
    let h = c.in_err-or_level.ensures in
    rw (stopped_there _ _ _ c.from_residual-in_err-or_level.ensures.1)
    (shuts _ c.requires (sym c.stands.ensures ∙ c.if-stands.true) _ c.in_ok-sign.ensures _ h _ (still-signed _ _ _ h.on.good.within _))

pub item-returns-then-stands : goal.item-returns-then-stands
item-returns-then-stands t c =
    shuts _ c.requires (sym c.stands.ensures ∙ c.if-stands.true) _ c.in_ok-sign.ensures _ c.in_ok-or_level.ensures _ c.sign-then-stands.ensures

pub item-returns-in_err-number : goal.item-returns-in_err-number
item-returns-in_err-number t c =
    rw (stopped_there _ _ _ c.from_residual-in_err-number.ensures.1)
    (one_number _ c.requires (sym c.stands.ensures ∙ c.if-stands.false) _ c.in_err-number.ensures (λ z. absurd (false≢true z)) _ (λ z. absurd (false≢true z)))

pub item-returns-in_err-range : goal.item-returns-in_err-range
item-returns-in_err-range t c =
    rw (stopped_there _ _ _ c.from_residual-in_err-range.ensures.1)
    (a-range _ c.requires (sym c.stands.ensures ∙ c.if-stands.false) _ c.in_ok-number.ensures _ c.in_err-range.ensures _ (λ z. absurd (false≢true z)))

pub item-returns-in_ok-range : goal.item-returns-in_ok-range
item-returns-in_ok-range t c =
    a-range _ c.requires (sym c.stands.ensures ∙ c.if-stands.false) _ c.in_ok-number.ensures _ c.in_ok-range.ensures _ (λ _. c.insert.ensures)

pub item-returns-else-stands-2 : goal.item-returns-else-stands-2
item-returns-else-stands-2 t c =
    let n = sym c.stands-2.ensures ∙ c.if-stands-2.false in
    one_number _ c.requires (sym c.stands.ensures ∙ c.if-stands.false) _ c.in_ok-number.ensures (λ _. n) _ (λ _. c.insert-else-stands-2.ensures)

pub or_level-returns-in_err-and_level : goal.or_level-returns-in_err-and_level
or_level-returns-in_err-and_level t c =
    rw (stopped_there _ _ _ c.from_residual.ensures.1) (or-last _ _ _ c.in_err-and_level.ensures (λ z. absurd (false≢true z)))

pub or_level-returns-in_err-sign : goal.or_level-returns-in_err-sign
or_level-returns-in_err-sign t c =
    let h = c.in_err-sign.ensures in
    rw (stopped_there _ _ _ c.from_residual-in_err-sign.ensures.1)
    (or-more _ _ _ c.in_ok-and_level.ensures (sym c.stands.ensures ∙ c.if-stands.true) _ h _ (λ z. absurd (false≢true z)) _
    (still-ors _ _ _ h.on.good.within _))

pub or_level-or_level-requires : goal.or_level-or_level-requires
or_level-or_level-requires t c =
    let l : length c.sign.new.self.text.now ≡ length c.args.self.now.text.now =
    ap length c.in_ok-sign.ensures.on.same ∙ ap length c.in_ok-and_level.ensures.on.same in
    let past = c.in_ok-sign.ensures.past refl (sym c.stands.ensures ∙ c.if-stands.true) in
    (omega (arith, c.in_ok-and_level.ensures.on.on, c.in_ok-sign.ensures.on.good.within), beside-good _ c.in_ok-sign.ensures.on.good)

pub or_level-returns-then-stands : goal.or_level-returns-then-stands
or_level-returns-then-stands t c =
    or-more _ _ _ c.in_ok-and_level.ensures (sym c.stands.ensures ∙ c.if-stands.true) _ c.in_ok-sign.ensures _ (λ _. c.insert.ensures) _ c.or_level.ensures

pub or_level-returns : goal.or_level-returns
or_level-returns t c = or-last _ _ _ c.in_ok-and_level.ensures (λ _. sym c.stands.ensures ∙ c.if-stands.false)
