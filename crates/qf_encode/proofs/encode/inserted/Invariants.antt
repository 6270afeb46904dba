use Rattle.std.proofs.Common.{◌≡◌, drop}
use Rattle.qf_encode.specs.Coding.{inserted_coding}
use Rattle.qf_encode.specs.Lives.{StatementsIn}
use Rattle.qf_encode.specs.Making.{StatementsTurn}
use Rattle.qf_encode.proofs.encode.inserted.Given as goal

abbrev pub invariant-loop-i : goal.invariant-loop-i
invariant-loop-i l = record {
  within : StatementsIn l.width (drop l.i l.statements);
  turn : StatementsTurn (drop l.i l.statements);
  rest : inserted_coding l.width (drop l.i l.statements) l.place ≡ inserted_coding l.width l.statements l.fn.place;
}
