use Rattle.std.proofs.Common.{◌≡◌, ◌+◌, ◌++◌, drop, length}
use Rattle.qf_encode.specs.Coding.{made_values}
use Rattle.qf_encode.proofs.row.RowMaker.values.Given as goal

abbrev pub invariant-loop-set : goal.invariant-loop-set
invariant-loop-set l =
    let whole = made_values l.fn.self.columns l.fn.self.maker l.sets in
    let rest = made_values l.fn.self.columns l.self.maker (drop l.set-index l.sets) in
    record {
      made : rest.0 ≡ whole.0;
      news : l.self.news.items ++ rest.1 ≡ l.fn.self.news.items ++ whole.1;
      count : length l.self.news.items ≡ length l.fn.self.news.items + l.set-index;
      columns : l.self.columns ≡ l.fn.self.columns;
      live : l.self.live ≡ l.fn.self.live;
    }
