use Rattle.std.proofs.Common.{◌≡◌, ◌+◌, ◌++◌, drop}
use Rattle.qf_rows.specs.Encoding.{rows_from, rows_of}
use Rattle.qf_rows.proofs.system.inequalities_of.Given as goal

abbrev pub invariant-loop-def : goal.invariant-loop-def
invariant-loop-def l = record {
  rest : l.rows.rows ++ rows_from l.root (l.def-index + 1) (drop l.def-index l.defs) ≡ rows_of l.root l.defs;
  number : l.var ≡ l.def-index;
}
