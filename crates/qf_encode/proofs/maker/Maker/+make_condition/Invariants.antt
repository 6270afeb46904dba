use Rattle.std.proofs.Common.{◌≡◌, ◌++◌, drop}
use Rattle.qf_encode.specs.Making.{PartsTurn, made_parts}
use Rattle.qf_encode.proofs.maker.Maker.+make_condition.Given as goal

abbrev pub invariant-parts-loop-part : goal.invariant-parts-loop-part
invariant-parts-loop-part l =
    let whole = made_parts l.columns l.fn.self l.parts in
    let rest = made_parts l.columns l.self (drop l.part-index l.parts) in
    record {
      made : rest.0 ≡ whole.0;
      numbers : l.numbers ++ rest.1 ≡ l.fn.numbers ++ whole.1;
      turn : PartsTurn (drop l.part-index l.parts);
    }
