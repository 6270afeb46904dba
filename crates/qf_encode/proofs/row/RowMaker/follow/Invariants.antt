use Rattle.std.proofs.Common.{◌≡◌, drop, length}
use Rattle.qf_encode.specs.Coding.{coded}
use Rattle.qf_encode.specs.Lives.{StatementsIn}
use Rattle.qf_encode.specs.Making.{StatementsTurn}
use Rattle.qf_encode.specs.RowsMade.{coded_now}
use Rattle.qf_encode.proofs.row.RowMaker.follow.Given as goal

abbrev pub invariant-loop-statement : goal.invariant-loop-statement
invariant-loop-statement l = record {
  rest : coded (drop l.statement-index l.statements) (coded_now l.self) ≡ coded l.statements (coded_now l.fn.self);
  within : StatementsIn (length l.self.columns) (drop l.statement-index l.statements);
  turn : StatementsTurn (drop l.statement-index l.statements);
}
