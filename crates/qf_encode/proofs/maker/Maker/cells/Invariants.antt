use Rattle.std.proofs.Common.{◌≡◌, ◌++◌, ◌+◌, map, drop, length}
use Rattle.qf_circuit.specs.declared.circuit.Def.TheVariants as def
use Rattle.qf_ir.specs.Value.{number_of}
use Rattle.qf_encode.specs.Coding.{numbers_from}
use Rattle.qf_encode.proofs.maker.Maker.cells.Given as goal

abbrev pub invariant-loop-cell : goal.invariant-loop-cell
invariant-loop-cell l = record {
  made : l.self ++ map (λ cell. def.Const (number_of cell)) (drop l.cell-index l.cells) ≡ l.fn.self ++ map (λ cell. def.Const (number_of cell)) l.cells;
  numbers : l.numbers ++ numbers_from (length l.self + 1) (drop l.cell-index l.cells) ≡ numbers_from (length l.fn.self + 1) l.cells;
}
