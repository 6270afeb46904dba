use Rattle.std.proofs.Common.{ℕ, ◌<◌, get_or}
use Rattle.qf_base.specs.declared.names.RowName.{RowName}
use Rattle.qf_search.specs.Grounding.{AreTools, IsOpenRow}
use Rattle.qf_search.proofs.grounds.Grounds.complained_refutation.Given as goal

abbrev pub invariant-loop-place : goal.invariant-loop-place
invariant-loop-place l = record {
  tools : AreTools l.self l.tools;
  open_rows : (k : ℕ) (d : RowName) → k < l.place → IsOpenRow l.self l.region (get_or l.rows k d);
}
