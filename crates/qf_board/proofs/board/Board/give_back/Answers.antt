use Rattle.std.proofs.Common.{sym, ap, ◌∙◌, refl, ◌-◌, ℕ, List, [], ◌∷◌}
use Rattle.std.specs.declared.option.Option.{Option}
use Rattle.qf_board.specs.Boards.{put_if, Open}
use Rattle.qf_board.specs.Kept.{held_number, state_of}
use Rattle.qf_board.proofs.Keeps.{held_somewhere, held_spot, held_count, kept_open, holds_inside}
use Rattle.qf_board.proofs.board.Board.give_back.Goals as goal

pub returns-in_default : goal.returns-in_default
returns-in_default c =
    let h = holds_inside c.self.inside c.args.self.now c.args.who c.self.view_is c.requires in
    held_somewhere c.self.inside c.args.who h.0 c.self.invariant h.1 (sym (c.in_default.ensures ∙ ap (λ (hs : List (Option ℕ)). held_number hs c.args.who) c.as_slice.ensures.value))

pub put_kind-requires : goal.put_kind-requires
put_kind-requires c =
    let h = holds_inside c.self.inside c.args.self.now c.args.who c.self.view_is c.requires in
    let number = sym (c.in-Some.ensures ∙ ap (λ (hs : List (Option ℕ)). held_number hs c.args.who) c.as_slice.ensures.value) in
    (held_spot c.self.inside c.args.who h.0 c.in-Some.held c.self.invariant h.1 number).small

pub overflow_sub-self : goal.overflow_sub-self
overflow_sub-self c =
    let h = holds_inside c.self.inside c.args.self.now c.args.who c.self.view_is c.requires in
    let number = sym (c.in-Some.ensures ∙ ap (λ (hs : List (Option ℕ)). held_number hs c.args.who) c.as_slice.ensures.value) in
    held_count c.self.inside c.self.invariant c.args.who h.0 c.in-Some.held h.1 number

pub invariant_of-self : goal.invariant_of-self
invariant_of-self c =
    let h = holds_inside c.self.inside c.args.self.now c.args.who c.self.view_is c.requires in
    let number = sym (c.in-Some.ensures ∙ ap (λ (hs : List (Option ℕ)). held_number hs c.args.who) c.as_slice.ensures.value) in
    (kept_open c.self.inside c.self.invariant c.args.who h.0 c.in-Some.held h.1 number c.put_kind.new.links c.let_go.new.held (c.self.inside.holding - 1) c.self.inside.best c.self.inside.room c.put_kind.ensures c.let_go.ensures refl c.self.invariant.best c.self.invariant.room).0

pub returns : goal.returns
returns c =
    let h = holds_inside c.self.inside c.args.self.now c.args.who c.self.view_is c.requires in
    let number = sym (c.in-Some.ensures ∙ ap (λ (hs : List (Option ℕ)). held_number hs c.args.who) c.as_slice.ensures.value) in
    rw (← c.self.view_is)
    ((kept_open c.self.inside c.self.invariant c.args.who h.0 c.in-Some.held h.1 number c.put_kind.new.links c.let_go.new.held (c.self.inside.holding - 1) c.self.inside.best c.self.inside.room c.put_kind.ensures c.let_go.ensures refl c.self.invariant.best c.self.invariant.room).1
    ∙ ap (λ (o : Option ℕ). put_if (state_of c.self.inside) o (Open ∷ [])) (sym h.1))
