use Rattle.std.proofs.Common.{ap, arith, drop, length, map, length-append, length-drop}
use Rattle.std.proofs.lemmas.List.{length-map}
use Rattle.qf_circuit.specs.declared.circuit.Def.{Def}
use Rattle.qf_circuit.specs.declared.circuit.Def.TheVariants as def
use Rattle.qf_ir.specs.declared.cell.Cell.{Cell}
use Rattle.qf_ir.specs.Value.{number_of}
use Rattle.qf_encode.proofs.maker.Maker.cells.Goals as goal

abbrev const : Cell → Def
const cell = def.Const (number_of cell)

pub push-requires-clause-few : goal.push-requires-clause-few
push-requires-clause-few c =
    let cells = c.args.cells.now in
    let i = c.loop-cell.cell-index in
    omega (arith, ap length c.loop-cell.invariant.made, length-append c.loop-cell.self (map const (drop i cells)), length-append c.args.self.now (map const cells), length-map (drop i cells) const, length-map cells const, length-drop i cells, c.loop-cell-test.true, c.requires.few)
