use Rattle.std.proofs.Common.{sym, ap, ◌∙◌, arith, rules, w64, ℕ, List}
use Rattle.std.proofs.lemmas.Int.{to_z-of_z}
use mir.Val.{SFits}
use Rattle.std.specs.declared.option.Option.{Option}
use Rattle.qf_board.specs.Kept.{held_number}
use Rattle.qf_board.proofs.Offers.{cut_test, no_cut, number_small}
use Rattle.qf_board.proofs.board.Board.may_cut.Goals as goal

pub index-requires : goal.index-requires
index-requires c =
    let number = sym (c.in-Some.ensures ∙ ap (λ (hs : List (Option ℕ)). held_number hs c.args.who) c.as_slice.ensures.value) in
    omega (arith, number_small c.self.inside c.args.who c.in-Some.at c.self.invariant number, c.self.inside.links.ok.0)

pub returns-in-Some : goal.returns-in-Some
returns-in-Some c =
    let number = sym (c.in-Some.ensures ∙ ap (λ (hs : List (Option ℕ)). held_number hs c.args.who) c.as_slice.ensures.value) in
    let f : SFits w64 c.args.cut = search rules in
    let test = simp to_z-of_z at c.can_cut.ensures in
    rw (← c.self.view_is) (cut_test c.self.inside c.args.who c.in-Some.at c.index.result.now c.args.param c.args.cut c.can_cut.result c.self.invariant number c.index.ensures test)

pub returns-in-None : goal.returns-in-None
returns-in-None c =
    let number = sym (c.in-None.ensures ∙ ap (λ (hs : List (Option ℕ)). held_number hs c.args.who) c.as_slice.ensures.value) in
    rw (← c.self.view_is) (no_cut c.self.inside c.args.who c.args.param c.args.cut c.self.invariant number)
