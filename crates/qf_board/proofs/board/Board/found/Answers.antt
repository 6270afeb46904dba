use Rattle.std.proofs.Common.{sym, ap, ◌∙◌, refl, arith, ◌-◌, ℕ, List}
use Rattle.std.specs.declared.option.Option.{Option}
use Rattle.qf_point.specs.Bests.{Found}
use Rattle.qf_board.specs.Kept.{held_number}
use Rattle.qf_board.proofs.Keeps.{held_somewhere, held_spot, held_count, kept_open, holds_inside, usable, found_is}
use Rattle.qf_board.proofs.board.Board.found.Goals as goal

pub returns-in_default : goal.returns-in_default
returns-in_default c =
    let h = holds_inside c.self.inside c.args.self.now c.args.who c.self.view_is c.requires in
    held_somewhere c.self.inside c.args.who h.0 c.self.invariant h.1 (sym (c.in_default.ensures ∙ ap (λ (hs : List (Option ℕ)). held_number hs c.args.who) c.as_slice.ensures.value))

pub index-requires : goal.index-requires
index-requires c =
    let h = holds_inside c.self.inside c.args.self.now c.args.who c.self.view_is c.requires in
    let number = sym (c.in-Some.ensures ∙ ap (λ (hs : List (Option ℕ)). held_number hs c.args.who) c.as_slice.ensures.value) in
    let spot = held_spot c.self.inside c.args.who h.0 c.in-Some.at c.self.invariant h.1 number in
    omega (arith, spot.small, c.self.inside.links.ok.0)

pub cheapest-requires-clause-olds : goal.cheapest-requires-clause-olds
cheapest-requires-clause-olds c =
    let h = holds_inside c.self.inside c.args.self.now c.args.who c.self.view_is c.requires in
    let number = sym (c.in-Some.ensures ∙ ap (λ (hs : List (Option ℕ)). held_number hs c.args.who) c.as_slice.ensures.value) in
    let spot = held_spot c.self.inside c.args.who h.0 c.in-Some.at c.self.invariant h.1 number in
    let it = usable c.self.inside h.0 c.in-Some.at c.index.result.now c.self.invariant spot c.index.ensures in
    it.olds

pub cheapest-requires-clause-into : goal.cheapest-requires-clause-into
cheapest-requires-clause-into c =
    let h = holds_inside c.self.inside c.args.self.now c.args.who c.self.view_is c.requires in
    let number = sym (c.in-Some.ensures ∙ ap (λ (hs : List (Option ℕ)). held_number hs c.args.who) c.as_slice.ensures.value) in
    let spot = held_spot c.self.inside c.args.who h.0 c.in-Some.at c.self.invariant h.1 number in
    let it = usable c.self.inside h.0 c.in-Some.at c.index.result.now c.self.invariant spot c.index.ensures in
    it.room

pub cheapest-requires-clause-spans : goal.cheapest-requires-clause-spans
cheapest-requires-clause-spans c =
    let h = holds_inside c.self.inside c.args.self.now c.args.who c.self.view_is c.requires in
    let number = sym (c.in-Some.ensures ∙ ap (λ (hs : List (Option ℕ)). held_number hs c.args.who) c.as_slice.ensures.value) in
    let spot = held_spot c.self.inside c.args.who h.0 c.in-Some.at c.self.invariant h.1 number in
    let it = usable c.self.inside h.0 c.in-Some.at c.index.result.now c.self.invariant spot c.index.ensures in
    it.spans

pub offer-requires-clause-point : goal.offer-requires-clause-point
offer-requires-clause-point c =
    let h = holds_inside c.self.inside c.args.self.now c.args.who c.self.view_is c.requires in
    let number = sym (c.in-Some.ensures ∙ ap (λ (hs : List (Option ℕ)). held_number hs c.args.who) c.as_slice.ensures.value) in
    let spot = held_spot c.self.inside c.args.who h.0 c.in-Some.at c.self.invariant h.1 number in
    let it = usable c.self.inside h.0 c.in-Some.at c.index.result.now c.self.invariant spot c.index.ensures in
    c.cheapest.ensures.len ∙ (sym it.olds ∙ sym c.self.invariant.best)

pub put_kind-requires : goal.put_kind-requires
put_kind-requires c =
    let h = holds_inside c.self.inside c.args.self.now c.args.who c.self.view_is c.requires in
    let number = sym (c.in-Some.ensures ∙ ap (λ (hs : List (Option ℕ)). held_number hs c.args.who) c.as_slice.ensures.value) in
    let spot = held_spot c.self.inside c.args.who h.0 c.in-Some.at c.self.invariant h.1 number in
    spot.small

pub overflow_sub-self : goal.overflow_sub-self
overflow_sub-self c =
    let h = holds_inside c.self.inside c.args.self.now c.args.who c.self.view_is c.requires in
    let number = sym (c.in-Some.ensures ∙ ap (λ (hs : List (Option ℕ)). held_number hs c.args.who) c.as_slice.ensures.value) in
    let spot = held_spot c.self.inside c.args.who h.0 c.in-Some.at c.self.invariant h.1 number in
    held_count c.self.inside c.self.invariant c.args.who h.0 c.in-Some.at h.1 number

pub invariant_of-self : goal.invariant_of-self
invariant_of-self c =
    let h = holds_inside c.self.inside c.args.self.now c.args.who c.self.view_is c.requires in
    let number = sym (c.in-Some.ensures ∙ ap (λ (hs : List (Option ℕ)). held_number hs c.args.who) c.as_slice.ensures.value) in
    let spot = held_spot c.self.inside c.args.who h.0 c.in-Some.at c.self.invariant h.1 number in
    let it = usable c.self.inside h.0 c.in-Some.at c.index.result.now c.self.invariant spot c.index.ensures in
    (kept_open c.self.inside c.self.invariant c.args.who h.0 c.in-Some.at h.1 number c.put_kind.new.links c.let_go.new.held (c.self.inside.holding - 1) c.offer.new.self c.cheapest.new.into c.put_kind.ensures c.let_go.ensures refl (ap (λ (w : Found). w.params) c.offer.ensures ∙ c.self.invariant.best) (c.cheapest.ensures.len ∙ sym it.olds)).0

pub returns : goal.returns
returns c =
    let h = holds_inside c.self.inside c.args.self.now c.args.who c.self.view_is c.requires in
    let number = sym (c.in-Some.ensures ∙ ap (λ (hs : List (Option ℕ)). held_number hs c.args.who) c.as_slice.ensures.value) in
    let spot = held_spot c.self.inside c.args.who h.0 c.in-Some.at c.self.invariant h.1 number in
    let it = usable c.self.inside h.0 c.in-Some.at c.index.result.now c.self.invariant spot c.index.ensures in
    rw (← c.self.view_is) ((kept_open c.self.inside c.self.invariant c.args.who h.0 c.in-Some.at h.1 number c.put_kind.new.links c.let_go.new.held (c.self.inside.holding - 1) c.offer.new.self c.cheapest.new.into c.put_kind.ensures c.let_go.ensures refl (ap (λ (w : Found). w.params) c.offer.ensures ∙ c.self.invariant.best) (c.cheapest.ensures.len ∙ sym it.olds)).1 ∙ found_is c.self.inside c.args.who h.0 c.in-Some.at c.index.result.now c.cheapest.new.into c.offer.new.self spot h.1 it.same c.cheapest.ensures.clamped c.offer.ensures)
