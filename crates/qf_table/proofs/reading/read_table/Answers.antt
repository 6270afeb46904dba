use Rattle.std.proofs.Common.{◌≡◌, ◌∙◌, ap, map, subst, arith}
use Rattle.csv.specs.Records.{fields_of}
use Rattle.qf_csv.specs.Records.{records_of}
use Rattle.qf_table.specs.Faults.{Gives}
use Rattle.qf_table.specs.Tables.{table_in}
use Rattle.qf_table.proofs.Limits.{table_limit}
use Rattle.qf_table.proofs.Soundness.{sound-read}
use Rattle.qf_table.proofs.reading.read_table.Goals as goal

pub returns-clause-table : goal.returns-clause-table
returns-clause-table c =
    let same : table_in (map fields_of c.as_slice.result.now) ≡ table_in (records_of c.args.bytes.now) =
    ap (λ rows. table_in (map fields_of rows)) c.as_slice.ensures.value ∙ ap table_in c.in_ok-records.ensures.records ∙ table_limit 200001 (omega arith) (records_of c.args.bytes.now) in
    subst (λ t. Gives c.table_in.result t) same c.table_in.ensures

pub returns-clause-sound : goal.returns-clause-sound
returns-clause-sound c = sound-read c.table_in.result (map fields_of c.as_slice.result.now) c.table_in.ensures
