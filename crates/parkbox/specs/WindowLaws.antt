-- The blocks of a run that reads window by window are what its whole input prints. Assumes nothing.
use Rattle.std.specs.Prelude.{◌≡◌, List, [], ◌++◌, ℕ, ◌≤◌, length, take, drop}
use Rattle.std.proofs.Common.{sym, ap, subst, ◌∙◌, append-nil, append_assoc, take_at}
use Rattle.answer.specs.declared.Answer.{Answer}
use Rattle.lines.specs.Lines.{Line}
use Rattle.records.specs.Records.{longest_in_table, Unrecorded}
use Rattle.records.specs.Laws.{AllBytes, record-onward, record-decided}
use Rattle.door.specs.declared.BoxRecord.{BoxRecord}
use Rattle.door.specs.Box.{Call, fresh_box, IsBoxRecord, begins, ends, asks, changes, bypasses, loads, a-print, CallDoes}
use Rattle.parkbox.specs.Parking.{lent_room, NoBoxRecord, BoxPrints, record-made, ParkPrints}
use Rattle.parkbox.specs.Windows.{PrintsTo, still-there, past-record, BoxBlocks, block_last, block-next}
use Rattle.parkbox.specs.Laws.{unrecorded, one-park-print}

-- ---- what comes later
-- a record stays one
pub box-record-onward : {bs rest : List ℕ} {c : Call} (later : List ℕ) → IsBoxRecord bs c rest → IsBoxRecord (bs ++ later) c (rest ++ later)
box-record-onward later (begins w) = begins (record-onward later w)
box-record-onward later (ends w) = ends (record-onward later w)
box-record-onward later (asks w) = asks (record-onward later w)
box-record-onward later (changes w) = changes (record-onward later w)
box-record-onward later (bypasses w) = bypasses (record-onward later w)
box-record-onward later (loads w) = loads (record-onward later w)
box-record-onward later (a-print w) = a-print (record-onward later w)

-- and where so many bytes begin with none, nothing that comes later makes one
pub unrecorded-onward : (window later : List ℕ) → AllBytes window → longest_in_table ≤ length window → Unrecorded window → NoBoxRecord (window ++ later)
unrecorded-onward window later bytes enough none =
    unrecorded (λ code fs rest w. let v = record-decided window later bytes enough w in none code fs v.0 v.1)

-- ---- one after another
pub one-record-on : {b after : BoxRecord} {bytes rest given line : List ℕ} {c : Call} {a : Answer} → IsBoxRecord bytes c rest
    → CallDoes b.state c lent_room a after.state given → Line a given line → PrintsTo b bytes after rest line
one-record-on {b} {after} {bytes} {rest} {given} {line} i d l =
    subst (λ (p : List ℕ). PrintsTo b bytes after rest p) (append-nil line) (past-record {b = b} {mid = after} {given = given} i d l still-there)

pub prints-further : {b c d : BoxRecord} {x y z v w : List ℕ} → PrintsTo b x c y v → PrintsTo c y d z w → PrintsTo b x d z (v ++ w)
prints-further still-there q = q
prints-further {b} (past-record {mid = mid} {given = given} i d l p) q =
    rw append_assoc (past-record {b = b} {mid = mid} {given = given} i d l (prints-further p q))

pub prints-out : {b c : BoxRecord} {x y v : List ℕ} (w : List ℕ) → PrintsTo b x c y v → BoxPrints c y w → BoxPrints b x (v ++ w)
prints-out w still-there q = q
prints-out {b} w (past-record {mid = mid} {given = given} i d l p) q =
    rw append_assoc (record-made {b = b} {after = mid} {given = given} i d l (prints-out w p q))

-- the blocks of the windows, one after another, are what is printed from there
blocks-out : {b : BoxRecord} {input blocks : List ℕ} → BoxBlocks b input blocks → BoxPrints b input blocks
blocks-out {b} (block_last window later {before = before} {r = r} x m e) =
    let n = r.printed in
    let is = ap (take n) x.is ∙ take_at x.printed (drop n before) n (sym x.count) in
    subst (BoxPrints b (window ++ later)) (sym is) (x.stops m later e)
blocks-out {b} (block-next window later {before = before} {blocks = blocks} {r = r} {used = used} x m more) =
    let n = r.printed in
    let is = ap (take n) x.is ∙ take_at x.printed (drop n before) n (sym x.count) in
    subst (λ (w : List ℕ). BoxPrints b (window ++ later) (w ++ blocks)) (sym is) (prints-out blocks (x.goes used m later) (blocks-out more))

-- and from the fresh box, what the whole input prints
pub park-blocks : {input blocks : List ℕ} → BoxBlocks fresh_box input blocks → ParkPrints input blocks
park-blocks x = blocks-out x

-- which is one, however the input is cut into windows
pub one-park : {input u v : List ℕ} → BoxBlocks fresh_box input u → BoxBlocks fresh_box input v → u ≡ v
one-park x y = one-park-print (park-blocks x) (park-blocks y)
