use Rattle.std.proofs.Common.{ap, ◌∙◌, [], length}
use Rattle.qf_encode.specs.declared.coded.Coded.{Coded}
use Rattle.qf_encode.specs.Coding.{coded, insert_coding}
use Rattle.qf_encode.proofs.Growing.{fewer, coded_grows}
use Rattle.qf_encode.proofs.RowBirths.{items_length}
use Rattle.qf_encode.proofs.encode.born.Goals as goal

pub insert-requires : goal.insert-requires
insert-requires c =
    let first = insert_coding c.args.width c.args.columns.now c.args.tuple.now in
    record { few = fewer first.circuit (coded c.args.rest.now first).circuit _ (coded_grows c.args.rest.now first) c.requires.circuit.few }

pub followed-requires-clause-within : goal.followed-requires-clause-within
followed-requires-clause-within c =
    let width = ap (λ (x : Coded). length x.columns) c.in_ok-row.ensures ∙ items_length c.args.columns.now c.args.tuple.now c.args.width 0 [] in
    rw width c.requires.within
