use Rattle.std.proofs.Common.{◌≡◌, ◌++◌, drop}
use Rattle.qf_encode.specs.Coding.{made_equals}
use Rattle.qf_encode.specs.Making.{ExprsTurn}
use Rattle.qf_encode.proofs.maker.Maker.equals.Given as goal

abbrev pub invariant-loop-item : goal.invariant-loop-item
invariant-loop-item l =
    let whole = made_equals l.columns l.fn.self l.x l.items in
    let rest = made_equals l.columns l.self l.x (drop l.item-index l.items) in
    record {
      made : rest.0 ≡ whole.0;
      numbers : l.numbers ++ rest.1 ≡ l.fn.numbers ++ whole.1;
      turn : ExprsTurn (drop l.item-index l.items);
    }
