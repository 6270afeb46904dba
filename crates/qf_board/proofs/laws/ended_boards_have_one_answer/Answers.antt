use Rattle.std.proofs.Common.{◌≡◌, true}
use Rattle.qf_board.proofs.Truth.{answer_after, same_answer}
use Rattle.qf_board.proofs.laws.ended_boards_have_one_answer.Goals as goal

pub returns-clause-answer : goal.returns-clause-answer
returns-clause-answer c repairs refutes root prices explorers events same spans sound can ended = answer_after (λ q. repairs q ≡ true) (λ b row steps. refutes b row steps ≡ true) root sound prices explorers events same spans can ended

pub returns-clause-same : goal.returns-clause-same
returns-clause-same c repairs refutes root prices m n first second same spans sound can can' ended ended' = same_answer (λ q. repairs q ≡ true) (λ b row steps. refutes b row steps ≡ true) root sound prices m n first second same spans can can' ended ended'
