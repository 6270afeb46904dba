use Rattle.std.proofs.Common.{◌≡◌, ◌+◌, ◌++◌, drop}
use Rattle.qf_rows.specs.Encoding.{selectors_from, selectors_of}
use Rattle.qf_rows.proofs.system.selectors_of.Given as goal

abbrev pub invariant-loop-def : goal.invariant-loop-def
invariant-loop-def l = record {
  rest : l.selectors ++ selectors_from (l.def-index + 1) (drop l.def-index l.defs) ≡ selectors_of l.defs;
  number : l.var ≡ l.def-index;
}
