use Rattle.qf_table.proofs.Soundness.{says-read}
use Rattle.qf_table.proofs.laws.tables_say_their_records.Goals as goal

pub returns : goal.returns
returns c = says-read
