use Rattle.std.proofs.Common.{◌≡◌, true}
use Rattle.qf_board.proofs.Truth.{no_repair_lost}
use Rattle.qf_board.proofs.laws.boards_lose_no_repair.Goals as goal

pub returns : goal.returns
returns c repairs refutes root prices explorers events same spans sound can = no_repair_lost (λ q. repairs q ≡ true) (λ b row steps. refutes b row steps ≡ true) root sound prices explorers events same spans can
