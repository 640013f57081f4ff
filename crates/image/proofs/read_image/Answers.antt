-- `image::read_image` meets its contract: each format follows those before it, and what they make is the state of the policy. Assumes nothing.
use Rattle.std.specs.Prelude.{refl}
use Rattle.std.proofs.Common.{ap, length, arith}
use Rattle.std.proofs.Common.{rules}
use Rattle.policy.specs.declared.State.{State}
use Rattle.image.proofs.Assembly.{head-refused, count-refused, tree-refused, role-count-refused, roles-part-refused}
use Rattle.image.proofs.Assembly.{file-count-refused, files-part-refused, image-read}
use Rattle.image.proofs.read_image.Goals as goal

pub returns-in_err-top : goal.returns-in_err-top
returns-in_err-top c =
    search (rules, head-refused _ _ c.in_err-top.ensures)

pub returns-in_err-securons : goal.returns-in_err-securons
returns-in_err-securons c =
    search (rules, count-refused _ _ c.in_ok-top.ensures _ c.in_err-securons.ensures)

pub returns-in_err-grown : goal.returns-in_err-grown
returns-in_err-grown c =
    search (rules, tree-refused _ _ c.in_ok-top.ensures _ c.in_ok-securons.ensures _ c.in_err-grown.ensures)

pub returns-in_err-roles : goal.returns-in_err-roles
returns-in_err-roles c =
    let top = c.in_ok-top.ensures in
    let count = c.in_ok-securons.ensures in
    let tree = c.in_ok-grown.ensures in
    let deep = c.levels-levels.ensures.depth in
    search (rules, role-count-refused _ _ top _ count _ tree _ deep _ c.in_err-roles.ensures)

pub returns-in_err-after : goal.returns-in_err-after
returns-in_err-after c =
    let top = c.in_ok-top.ensures in
    let count = c.in_ok-securons.ensures in
    let tree = c.in_ok-grown.ensures in
    let deep = c.levels-levels.ensures.depth in
    search (rules, roles-part-refused _ _ top _ count _ tree _ deep _ c.in_ok-roles.ensures c.read_rows.new.rows _ c.in_err-after.ensures)

pub returns-in_err-files : goal.returns-in_err-files
returns-in_err-files c =
    let top = c.in_ok-top.ensures in
    let count = c.in_ok-securons.ensures in
    let tree = c.in_ok-grown.ensures in
    let deep = c.levels-levels.ensures.depth in
    let rows = ap (λ (s : State). length s.roles) c.fresh-state.ensures in
    let roles = rw rows at c.in_ok-after.ensures in
    search (rules, file-count-refused _ _ top _ count _ tree _ deep _ c.in_ok-roles.ensures _ _ roles _ c.in_err-files.ensures)

pub read_rows-requires-2 : goal.read_rows-requires-2
read_rows-requires-2 c =
    let zero = ap (λ (s : State). s.files) c.fresh-state.ensures in
    let few = c.in_ok-files.ensures.in_range.1 in
    rw zero (record { zero = refl; few = omega arith })

pub returns-in_err-next : goal.returns-in_err-next
returns-in_err-next c =
    let top = c.in_ok-top.ensures in
    let count = c.in_ok-securons.ensures in
    let tree = c.in_ok-grown.ensures in
    let deep = c.levels-levels.ensures.depth in
    let rows = ap (λ (s : State). length s.roles) c.fresh-state.ensures in
    let roles = rw rows at c.in_ok-after.ensures in
    let files = c.in_ok-files.ensures in
    let held = c.read_rows-2.new.rows in
    search (rules, files-part-refused _ _ top _ count _ tree _ deep _ c.in_ok-roles.ensures _ _ roles _ files held _ c.in_err-next.ensures)

pub returns : goal.returns
returns c =
    let top = c.in_ok-top.ensures in
    let count = c.in_ok-securons.ensures in
    let tree = c.in_ok-grown.ensures in
    let deep = c.levels-levels.ensures.depth in
    let rows = ap (λ (s : State). length s.roles) c.fresh-state.ensures in
    let roles = rw rows at c.in_ok-after.ensures in
    let many = ap (λ (s : State). length s.files) c.fresh-state.ensures in
    let files = rw many at c.in_ok-next.ensures in
    let free = ap (λ (s : State). s.slots) c.fresh-state.ensures in
    image-read _ _ top _ count _ tree _ deep _ c.in_ok-roles.ensures _ _ roles _ c.in_ok-files.ensures _ _ files free
