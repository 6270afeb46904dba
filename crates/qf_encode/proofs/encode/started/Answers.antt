use Rattle.std.proofs.Common.{ap, ◌∙◌, [], length}
use Rattle.qf_encode.specs.declared.coded.Coded.{Coded}
use Rattle.qf_encode.specs.Coding.{coded, start_coding}
use Rattle.qf_encode.proofs.Growing.{fewer, coded_grows}
use Rattle.qf_encode.proofs.Statements.{start_follows}
use Rattle.qf_encode.proofs.RowBirths.{start_length}
use Rattle.qf_encode.proofs.encode.started.Goals as goal

pub start-requires : goal.start-requires
start-requires c =
    let first = start_coding c.args.cells.now in
    let few = fewer first.circuit (coded c.args.statements.now first).circuit _ (coded_grows c.args.statements.now first) c.requires.circuit.few in
    record { few = rw (start_length c.args.cells.now) at few }

pub followed-requires-clause-within : goal.followed-requires-clause-within
followed-requires-clause-within c =
    let width = ap (λ (x : Coded). length x.columns) c.in_ok-row.ensures ∙ (start_follows [] c.args.cells.now).same_length in
    rw width c.requires.within
