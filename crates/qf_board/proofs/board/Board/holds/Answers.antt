use Rattle.std.proofs.Common.{ap, ◌∙◌, ℕ, List}
use Rattle.std.specs.declared.option.Option.{Option}
use Rattle.qf_board.specs.Kept.{held_number}
use Rattle.qf_board.proofs.Offers.{holder_test}
use Rattle.qf_board.proofs.board.Board.holds.Goals as goal

pub returns : goal.returns
returns c =
    let number = c.held_by.ensures ∙ ap (λ (hs : List (Option ℕ)). held_number hs c.args.who) c.as_slice.ensures.value in
    rw (c.is_some.ensures, ← c.self.view_is) (holder_test c.self.inside c.args.who c.held_by.result c.self.invariant number)
