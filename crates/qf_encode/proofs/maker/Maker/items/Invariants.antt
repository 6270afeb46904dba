use Rattle.std.proofs.Common.{◌≡◌, ◌++◌, ◌-◌}
use Rattle.qf_encode.specs.Coding.{made_items}
use Rattle.qf_encode.proofs.maker.Maker.items.Given as goal

abbrev pub invariant-loop-column : goal.invariant-loop-column
invariant-loop-column l =
    let whole = made_items l.columns l.tuple l.fn.self 0 l.width in
    let rest = made_items l.columns l.tuple l.self l.column (l.width - l.column) in
    record {
      made : rest.0 ≡ whole.0;
      numbers : l.numbers ++ rest.1 ≡ whole.1;
    }
