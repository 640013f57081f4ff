-- `range` meets its contract: its parts follow each other, and where one stops those after it stay. Assumes nothing.
use Rattle.text.proofs.Levels.{ranged, still-signed, still-numbered, still-dotted, stopped_there}
use Rattle.text.proofs.reader.Reader.range.Goals as goal

pub returns-in_err-sign : goal.returns-in_err-sign
returns-in_err-sign c =
    let h = c.in_err-sign.ensures in
    let w = h.on.good.within in
    rw (stopped_there _ _ _ c.from_residual.ensures.1)
    (ranged _ c.requires.1 _ h _ (still-numbered _ _ _ w) _ (still-dotted _ _ _ w) _ (still-numbered _ _ _ w) _ (still-signed _ _ _ w _))

pub returns-in_err-number : goal.returns-in_err-number
returns-in_err-number c =
    let h = c.in_err-number.ensures in
    let w = h.on.good.within in
    rw (stopped_there _ _ _ c.from_residual-in_err-number.ensures.1)
    (ranged _ c.requires.1 _ c.in_ok-sign.ensures _ h _ (still-dotted _ _ _ w) _ (still-numbered _ _ _ w) _ (still-signed _ _ _ w _))

pub returns-in_err-dots : goal.returns-in_err-dots
returns-in_err-dots c =
    let h = c.in_err-dots.ensures in
    let w = h.on.good.within in
    rw (stopped_there _ _ _ c.from_residual-in_err-dots.ensures.1)
    (ranged _ c.requires.1 _ c.in_ok-sign.ensures _ c.in_ok-number.ensures _ h _ (still-numbered _ _ _ w) _ (still-signed _ _ _ w _))

pub returns-in_err-number-2 : goal.returns-in_err-number-2
returns-in_err-number-2 c =
    let h = c.in_err-number-2.ensures in
    rw (stopped_there _ _ _ c.from_residual-in_err-number-2.ensures.1)
    (ranged _ c.requires.1 _ c.in_ok-sign.ensures _ c.in_ok-number.ensures _ c.in_ok-dots.ensures _ h _ (still-signed _ _ _ h.on.good.within _))

pub returns : goal.returns
returns c =
    ranged _ c.requires.1 _ c.in_ok-sign.ensures _ c.in_ok-number.ensures _ c.in_ok-dots.ensures _ c.in_ok-number-2.ensures _ c.sign-2.ensures
