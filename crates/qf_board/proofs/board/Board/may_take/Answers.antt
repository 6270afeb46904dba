use Rattle.std.proofs.Common.{ap, ◌∙◌, arith, ◌<◌, ℕ, List, length}
use Rattle.std.specs.declared.option.Option.{Option}
use Rattle.qf_board.specs.Kept.{held_number}
use Rattle.qf_board.proofs.Offers.{take_test}
use Rattle.qf_board.proofs.board.Board.may_take.Goals as goal

pub returns-then-who-len : goal.returns-then-who-len
returns-then-who-len c =
    let number = c.held_by.ensures ∙ ap (λ (hs : List (Option ℕ)). held_number hs c.args.who) c.as_slice.ensures.value in
    let small : c.args.who < length c.self.inside.held.items = omega (arith, c.if-who-len.true, c.len.ensures, c.self.inside.held.ok.0) in
    rw (← c.self.view_is) (take_test c.self.inside c.args.who c.held_by.result c.is_none.result c.self.invariant small number c.is_none.ensures)
