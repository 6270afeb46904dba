use Rattle.std.proofs.Common.{◌∙◌, ap, length}
use Rattle.std.proofs.lemmas.List.FromFn.{length-range_with_len}
use Rattle.qf_ir.proofs.Accepted.{step-found, step-counts, targets-known}
use Rattle.qf_ir.proofs.making.faults.step.Goals as goal

pub fault_of-requires-clause-columns : goal.fault_of-requires-clause-columns
fault_of-requires-clause-columns c = targets-known c.args.kinds.now c.of-tally.result c.args.statement.now c.requires.width c.of-tally.ensures

pub fault_of-requires-clause-all : goal.fault_of-requires-clause-all
fault_of-requires-clause-all c = rw (ap length c.requires.all ∙ length-range_with_len 0 (length c.args.kinds.now)) c.requires.all

pub returns-in-Some : goal.returns-in-Some
returns-in-Some c =
    step-found c.args.kinds.now c.args.all.now c.args.progress c.advanced-next.result c.of-tally.result c.args.statement.now _
    c.requires.all c.of-tally.ensures c.advanced-next.ensures c.in-Some.ensures

pub returns-in-None : goal.returns-in-None
returns-in-None c =
    let none = step-found c.args.kinds.now c.args.all.now c.args.progress c.advanced-next.result c.of-tally.result c.args.statement.now _
    c.requires.all c.of-tally.ensures c.advanced-next.ensures c.in-None.ensures in
    (none, step-counts c.args.kinds.now c.args.progress c.advanced-next.result c.of-tally.result c.args.statement.now c.of-tally.ensures c.advanced-next.ensures none)
