use Rattle.std.proofs.Common.{◌≡◌, take, drop}
use Rattle.qf_grammar.specs.Statements.{cut_at}
use Rattle.qf_grammar.proofs.Pieces.{glued}
use Rattle.qf_grammar.proofs.judging.cut.Given as goal

abbrev pub invariant-loop-place : goal.invariant-loop-place
invariant-loop-place l = glued (take l.place l.lexemes) (cut_at (drop l.place l.lexemes)) ≡ cut_at l.lexemes
