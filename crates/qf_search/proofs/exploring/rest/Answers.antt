use Rattle.std.proofs.Common.{sym, refl}
use Rattle.qf_search.proofs.Endings.{ended_not_idle, left_idle}
use Rattle.qf_search.proofs.exploring.rest.Goals as goal

pub returns-then-finish-clause-idle : goal.returns-then-finish-clause-idle
returns-then-finish-clause-idle c = λ who free.
    (λ e. absurd (cc), λ idle. absurd (ended_not_idle c.args.board.now who c.requires.sound (sym c.if-finish.ensures) idle))

pub returns-else-finish-clause-idle : goal.returns-else-finish-clause-idle
returns-else-finish-clause-idle c = λ who free.
    (λ e. left_idle c.args.board.now who (sym c.if-finish.ensures) c.requires.wanted free, λ idle. refl)
