use Rattle.std.proofs.Common.{◌≡◌, ◌++◌, drop, take, length}
use Rattle.qf_encode.specs.Coding.{made_choices}
use Rattle.qf_encode.proofs.row.RowMaker.choices.Given as goal

abbrev pub invariant-loop-place : goal.invariant-loop-place
invariant-loop-place l =
    let whole = made_choices l.fn.self.columns l.test l.fn.self.maker l.sets l.fn.self.news.items in
    let rest = made_choices l.fn.self.columns l.test l.self.maker (drop l.place l.sets) (drop l.place l.self.news.items) in
    record {
      made : rest.0 ≡ whole.0;
      news : take l.place l.self.news.items ++ rest.1 ≡ whole.1;
      same : length l.self.news.items ≡ length l.sets;
      columns : l.self.columns ≡ l.fn.self.columns;
      live : l.self.live ≡ l.fn.self.live;
    }
