use Rattle.std.proofs.Common.{◌≡◌, ◌+◌, ◌≤◌, length}
use Rattle.qf_grammar.specs.Statements.{statements_from, statements_of}
use Rattle.qf_grammar.proofs.Pieces.{pieces_left}
use Rattle.qf_grammar.proofs.JudgingLaws.{joined, left_count, nows}
use Rattle.qf_grammar.proofs.judging.statements.Given as goal

abbrev pub invariant-loop-left : goal.invariant-loop-left
invariant-loop-left l = (joined l.found (statements_from l.numbers l.first l.number (pieces_left (nows l.left))) ≡ statements_of l.numbers l.lexemes) × (l.number + left_count (nows l.left) ≤ length l.lexemes + 2)

abbrev pub decreases-loop-left : goal.decreases-loop-left
decreases-loop-left l = left_count (nows l.left)
