use Rattle.std.proofs.Common.{sym, ap, ◌∙◌, refl, arith, ◌-◌, ◌+◌, ℕ, List, [], ◌∷◌}
use Rattle.std.specs.declared.option.Option.{Option}
use Rattle.qf_board.specs.Boards.{put_if, Refuted}
use Rattle.qf_board.specs.Kept.{held_number, state_of}
use Rattle.qf_board.proofs.Keeps.{held_somewhere, held_spot, held_count, kept_refuted, holds_inside, usable, made_key, held_is_left, kept_room}
use Rattle.qf_board.proofs.board.Board.refute.Goals as goal

pub returns-in_default-clause-ok : goal.returns-in_default-clause-ok
returns-in_default-clause-ok c =
    let h = holds_inside c.self.inside c.args.self.now c.args.who c.self.view_is c.requires in
    held_somewhere c.self.inside c.args.who h.0 c.self.invariant h.1 (sym (c.in_default.ensures ∙ ap (λ (hs : List (Option ℕ)). held_number hs c.args.who) c.as_slice.ensures.value))

pub index-requires : goal.index-requires
index-requires c =
    let h = holds_inside c.self.inside c.args.self.now c.args.who c.self.view_is c.requires in
    let number = sym (c.in-Some.ensures ∙ ap (λ (hs : List (Option ℕ)). held_number hs c.args.who) c.as_slice.ensures.value) in
    let spot = held_spot c.self.inside c.args.who h.0 c.in-Some.at c.self.invariant h.1 number in
    omega (arith, spot.small, c.self.inside.links.ok.0)

pub key_of-requires-clause-olds : goal.key_of-requires-clause-olds
key_of-requires-clause-olds c =
    let h = holds_inside c.self.inside c.args.self.now c.args.who c.self.view_is c.requires in
    let number = sym (c.in-Some.ensures ∙ ap (λ (hs : List (Option ℕ)). held_number hs c.args.who) c.as_slice.ensures.value) in
    let spot = held_spot c.self.inside c.args.who h.0 c.in-Some.at c.self.invariant h.1 number in
    let it = usable c.self.inside h.0 c.in-Some.at c.index.result.now c.self.invariant spot c.index.ensures in
    it.olds

pub key_of-requires-clause-room : goal.key_of-requires-clause-room
key_of-requires-clause-room c =
    let h = holds_inside c.self.inside c.args.self.now c.args.who c.self.view_is c.requires in
    let number = sym (c.in-Some.ensures ∙ ap (λ (hs : List (Option ℕ)). held_number hs c.args.who) c.as_slice.ensures.value) in
    let spot = held_spot c.self.inside c.args.who h.0 c.in-Some.at c.self.invariant h.1 number in
    let it = usable c.self.inside h.0 c.in-Some.at c.index.result.now c.self.invariant spot c.index.ensures in
    it.room

pub key_of-requires-clause-spans : goal.key_of-requires-clause-spans
key_of-requires-clause-spans c =
    let h = holds_inside c.self.inside c.args.self.now c.args.who c.self.view_is c.requires in
    let number = sym (c.in-Some.ensures ∙ ap (λ (hs : List (Option ℕ)). held_number hs c.args.who) c.as_slice.ensures.value) in
    let spot = held_spot c.self.inside c.args.who h.0 c.in-Some.at c.self.invariant h.1 number in
    let it = usable c.self.inside h.0 c.in-Some.at c.index.result.now c.self.invariant spot c.index.ensures in
    it.spans

pub invariant_of-self : goal.invariant_of-self
invariant_of-self c =
    let h = holds_inside c.self.inside c.args.self.now c.args.who c.self.view_is c.requires in
    let number = sym (c.in-Some.ensures ∙ ap (λ (hs : List (Option ℕ)). held_number hs c.args.who) c.as_slice.ensures.value) in
    let spot = held_spot c.self.inside c.args.who h.0 c.in-Some.at c.self.invariant h.1 number in
    let it = usable c.self.inside h.0 c.in-Some.at c.index.result.now c.self.invariant spot c.index.ensures in
    kept_room c.self.inside c.key_of.new.room (c.in_err-key.ensures.room ∙ sym it.olds) c.self.invariant

pub put_kind-requires : goal.put_kind-requires
put_kind-requires c =
    let h = holds_inside c.self.inside c.args.self.now c.args.who c.self.view_is c.requires in
    let number = sym (c.in-Some.ensures ∙ ap (λ (hs : List (Option ℕ)). held_number hs c.args.who) c.as_slice.ensures.value) in
    let spot = held_spot c.self.inside c.args.who h.0 c.in-Some.at c.self.invariant h.1 number in
    spot.small

pub overflow_sub-self : goal.overflow_sub-self
overflow_sub-self c =
    let h = holds_inside c.self.inside c.args.self.now c.args.who c.self.view_is c.requires in
    let number = sym (c.in-Some.ensures ∙ ap (λ (hs : List (Option ℕ)). held_number hs c.args.who) c.as_slice.ensures.value) in
    let spot = held_spot c.self.inside c.args.who h.0 c.in-Some.at c.self.invariant h.1 number in
    held_count c.self.inside c.self.invariant c.args.who h.0 c.in-Some.at h.1 number

pub invariant_of-self-2 : goal.invariant_of-self-2
invariant_of-self-2 c =
    let h = holds_inside c.self.inside c.args.self.now c.args.who c.self.view_is c.requires in
    let number = sym (c.in-Some.ensures ∙ ap (λ (hs : List (Option ℕ)). held_number hs c.args.who) c.as_slice.ensures.value) in
    let spot = held_spot c.self.inside c.args.who h.0 c.in-Some.at c.self.invariant h.1 number in
    let it = usable c.self.inside h.0 c.in-Some.at c.index.result.now c.self.invariant spot c.index.ensures in
    let mine = made_key c.self.inside c.in-Some.at c.index.result.now c.in_ok-key.key it.same (held_is_left c.self.inside c.args.who h.0 c.in-Some.at spot h.1) c.in_ok-key.ensures.key in
    (kept_refuted c.self.inside c.self.invariant c.args.who h.0 c.in-Some.at h.1 number c.args.row c.args.steps c.in_ok-key.key c.put_kind.new.links c.let_go.new.held c.remove.new.self (c.self.inside.counted + 1) (c.self.inside.holding - 1) c.key_of.new.room c.put_kind.ensures c.let_go.ensures refl refl (c.in_ok-key.ensures.room ∙ sym it.olds) mine c.remove.ensures.keys c.remove.ensures.updates.1).0

pub returns-clause-ok : goal.returns-clause-ok
returns-clause-ok c =
    let h = holds_inside c.self.inside c.args.self.now c.args.who c.self.view_is c.requires in
    let number = sym (c.in-Some.ensures ∙ ap (λ (hs : List (Option ℕ)). held_number hs c.args.who) c.as_slice.ensures.value) in
    let spot = held_spot c.self.inside c.args.who h.0 c.in-Some.at c.self.invariant h.1 number in
    let it = usable c.self.inside h.0 c.in-Some.at c.index.result.now c.self.invariant spot c.index.ensures in
    let mine = made_key c.self.inside c.in-Some.at c.index.result.now c.in_ok-key.key it.same (held_is_left c.self.inside c.args.who h.0 c.in-Some.at spot h.1) c.in_ok-key.ensures.key in
    rw (← c.self.view_is) ((kept_refuted c.self.inside c.self.invariant c.args.who h.0 c.in-Some.at h.1 number c.args.row c.args.steps c.in_ok-key.key c.put_kind.new.links c.let_go.new.held c.remove.new.self (c.self.inside.counted + 1) (c.self.inside.holding - 1) c.key_of.new.room c.put_kind.ensures c.let_go.ensures refl refl (c.in_ok-key.ensures.room ∙ sym it.olds) mine c.remove.ensures.keys c.remove.ensures.updates.1).1 ∙ ap (λ (o : Option ℕ). put_if (state_of c.self.inside) o (Refuted c.args.row c.args.steps ∷ [])) (sym h.1))
