use Rattle.qf_splice.proofs.Splicing.{log_count, says_where_ok}
use Rattle.qf_splice.proofs.Unchanged.{log_apart}
use Rattle.qf_splice.proofs.splice.repaired.Goals as goal

pub with_values-requires-clause-order : goal.with_values-requires-clause-order
with_values-requires-clause-order c = rw (c.as_slice.ensures, c.parameters.ensures) (log_apart c.args.bytes.now c.args.log.now c.requires.read)

pub with_values-requires-clause-count : goal.with_values-requires-clause-count
with_values-requires-clause-count c = rw (c.as_slice.ensures, c.parameters.ensures) (log_count c.args.bytes.now c.args.log.now c.requires.few c.requires.read)

pub returns-clause-says : goal.returns-clause-says
returns-clause-says c =
    says_where_ok c.args.bytes.now c.args.log.now c.args.point.now c.with_values.result c.requires.read c.requires.point (rw (c.as_slice.ensures, c.parameters.ensures) at c.with_values.ensures)
