-- `print_seen` meets its contract: a refusal leaves the output, length 0 prints nothing, and an expression is printed. Assumes nothing.
use Rattle.std.proofs.Common.{rules}
use Rattle.print.proofs.Answering.{print-refused, print-empty, print-ahead, print-done}
use Rattle.print.proofs.print_seen.Goals as goal

pub returns-in-Err-clause-of_each : goal.returns-in-Err-clause-of_each
returns-in-Err-clause-of_each c = λ slot file s v.
    (print-refused s c.args.x.now c.args.out.now c.in-Err.refusal (c.in-Err.ensures slot file s v)).0

pub returns-in-Err-clause-leaves : goal.returns-in-Err-clause-leaves
returns-in-Err-clause-leaves c =
    let (slot, (file, (s, v))) = c.requires in
    (print-refused s c.args.x.now c.args.out.now c.in-Err.refusal (c.in-Err.ensures slot file s v)).1

pub returns-then-is_empty-clause-of_each : goal.returns-then-is_empty-clause-of_each
returns-then-is_empty-clause-of_each c = λ slot file s v.
    (print-empty s c.args.x.now c.args.out.now (c.in_default.ensures slot file s v) _ (search (rules, c.is_empty.ensures)) c.of.ensures).0

pub returns-then-is_empty-clause-leaves : goal.returns-then-is_empty-clause-leaves
returns-then-is_empty-clause-leaves c =
    let (slot, (file, (s, v))) = c.requires in
    (print-empty s c.args.x.now c.args.out.now (c.in_default.ensures slot file s v) _ (search (rules, c.is_empty.ensures)) c.of.ensures).1

pub print_front-printed-requires : goal.print_front-printed-requires
print_front-printed-requires c =
    let (slot, (file, (s, v))) = c.requires in
    print-ahead s c.args.x.now c.args.out.now (c.in_default.ensures slot file s v) (search (rules, c.is_empty.ensures))

pub returns-clause-of_each : goal.returns-clause-of_each
returns-clause-of_each c = λ slot file s v.
    (print-done s c.args.x.now c.args.out.now (c.in_default.ensures slot file s v) (search (rules, c.is_empty.ensures)) _
    c.print_front-printed.ensures c.at.ensures).0

pub returns-clause-leaves : goal.returns-clause-leaves
returns-clause-leaves c =
    let (slot, (file, (s, v))) = c.requires in
    (print-done s c.args.x.now c.args.out.now (c.in_default.ensures slot file s v) (search (rules, c.is_empty.ensures)) _
    c.print_front-printed.ensures c.at.ensures).1
