use Rattle.std.proofs.Common.{◌≡◌, drop, length}
use Rattle.qf_encode.specs.Coding.{with_columns}
use Rattle.qf_encode.specs.Lives.{SetsIn}
use Rattle.qf_encode.proofs.row.put_columns.Given as goal

abbrev pub invariant-loop-place : goal.invariant-loop-place
invariant-loop-place l = record {
  rest : with_columns l.columns (drop l.place l.sets) (drop l.place l.news) ≡ with_columns l.fn.columns l.sets l.news;
  within : SetsIn (length l.columns) (drop l.place l.sets);
}
