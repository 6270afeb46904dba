use Rattle.std.proofs.Common.{sym, ap, ◌∙◌, subst, List}
use Rattle.std.specs.Prelude.{not}
use Rattle.std.specs.List.{AllByRecursion}
use Rattle.qf_board.specs.declared.nodes.Link.{Link}
use Rattle.qf_board.specs.Kept.{IsReal, best_number}
use Rattle.qf_board.proofs.Takes.{real_keys, ended_is, still_held, not_not}
use Rattle.qf_board.proofs.board.Board.finish.Goals as goal

pub best_open-requires-clause-keys : goal.best_open-requires-clause-keys
best_open-requires-clause-keys c =
    subst (λ (ls : List Link). AllByRecursion (IsReal c.self.inside.olds ls) c.self.inside.left.keys) (sym c.as_slice.ensures.value) (real_keys c.self.inside c.self.invariant)

pub returns-then-self-eq0 : goal.returns-then-self-eq0
returns-then-self-eq0 c =
    let number = c.best_open.ensures.number ∙ ap (λ (ls : List Link). best_number c.self.inside.olds c.self.inside.best.best ls c.self.inside.left.keys) c.as_slice.ensures.value in
    let ended = ended_is c.self.inside c.self.invariant c.best_open.ensures.ordered c.if-self-eq0.true c.best_open.result number in
    rw (← c.self.view_is) (sym (not_not c.is_none.result) ∙ (sym (ap not c.is_none.ensures) ∙ ended))

pub returns-else-self-eq0 : goal.returns-else-self-eq0
returns-else-self-eq0 c =
    rw (← c.self.view_is) (still_held c.self.inside c.self.invariant c.if-self-eq0.false)
