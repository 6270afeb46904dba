use Rattle.std.proofs.Common.{sym, ap, ◌∙◌, refl, arith, subst, List, ℕ, ◌<◌, ◌+◌, [], ◌∷◌}
use Rattle.std.specs.declared.option.Option.TheVariants.{Some}
use Rattle.std.specs.declared.option.Option.{Option}
use Rattle.std.specs.Option.{option_map}
use Rattle.std.specs.Vec.{with_item}
use Rattle.std.specs.List.{AllByRecursion}
use Rattle.qf_board.specs.declared.nodes.Link.{Link}
use Rattle.qf_board.specs.Boards.{BoardState, Box, Held, HoldsNone, put_if, box_at}
use Rattle.qf_board.specs.Kept.{IsReal, state_of, best_number}
use Rattle.qf_board.proofs.Keeps.{spot, usable}
use Rattle.qf_board.proofs.BoardLaws.{best_place_open}
use Rattle.qf_board.proofs.Takes.{real_keys, best_nowhere, best_somewhere, nothing_wanted, something_wanted, kept_take}
use Rattle.qf_board.proofs.board.Board.take.Goals as goal

pub best_open-requires-clause-keys : goal.best_open-requires-clause-keys
best_open-requires-clause-keys c =
    subst (λ (ls : List Link). AllByRecursion (IsReal c.self.inside.olds ls) c.self.inside.left.keys) (sym c.as_slice.ensures.value) (real_keys c.self.inside c.self.invariant)

pub returns-in_default-clause-ok : goal.returns-in_default-clause-ok
returns-in_default-clause-ok c =
    let none = best_nowhere c.self.inside c.self.invariant c.in_default.ensures.ordered (sym (c.in_default.ensures.number ∙ ap (λ (ls : List Link). best_number c.self.inside.olds c.self.inside.best.best ls c.self.inside.left.keys) c.as_slice.ensures.value)) in
    rw (← c.self.view_is) (ap (λ (o : Option ℕ). put_if (state_of c.self.inside) o (Held c.args.who ∷ [])) (sym none))

pub returns-in_default-clause-handed : goal.returns-in_default-clause-handed
returns-in_default-clause-handed c =
    let none = best_nowhere c.self.inside c.self.invariant c.in_default.ensures.ordered (sym (c.in_default.ensures.number ∙ ap (λ (ls : List Link). best_number c.self.inside.olds c.self.inside.best.best ls c.self.inside.left.keys) c.as_slice.ensures.value)) in
    rw (← c.self.view_is) (ap (option_map (box_at (state_of c.self.inside))) (sym none))

pub index-requires : goal.index-requires
index-requires c =
    let best = best_somewhere c.self.inside c.self.invariant c.in-Some.ensures.ordered c.in-Some.at (sym (c.in-Some.ensures.number ∙ ap (λ (ls : List Link). best_number c.self.inside.olds c.self.inside.best.best ls c.self.inside.left.keys) c.as_slice.ensures.value)) in
    let here = spot c.self.inside best.0 c.in-Some.at c.self.invariant (best_place_open (state_of c.self.inside) best.0 best.1).0 best.2 in
    omega (arith, here.small, c.self.inside.links.ok.0)

pub put_kind-requires : goal.put_kind-requires
put_kind-requires c =
    let best = best_somewhere c.self.inside c.self.invariant c.in-Some.ensures.ordered c.in-Some.at (sym (c.in-Some.ensures.number ∙ ap (λ (ls : List Link). best_number c.self.inside.olds c.self.inside.best.best ls c.self.inside.left.keys) c.as_slice.ensures.value)) in
    (spot c.self.inside best.0 c.in-Some.at c.self.invariant (best_place_open (state_of c.self.inside) best.0 best.1).0 best.2).small

pub invariant_of-self : goal.invariant_of-self
invariant_of-self c =
    let best = best_somewhere c.self.inside c.self.invariant c.in-Some.ensures.ordered c.in-Some.at (sym (c.in-Some.ensures.number ∙ ap (λ (ls : List Link). best_number c.self.inside.olds c.self.inside.best.best ls c.self.inside.left.keys) c.as_slice.ensures.value)) in
    let free = subst (λ (t : BoardState). HoldsNone t c.args.who) (sym c.self.view_is) c.requires.free in
    let small = subst (λ (t : BoardState). c.args.who < t.explorers) (sym c.self.view_is) c.requires.who in
    (kept_take c.self.inside c.self.invariant c.args.who best.0 c.in-Some.at best.1 best.2 free small c.put_kind.new.links (with_item c.self.inside.held c.args.who (Some c.in-Some.at)) (c.self.inside.holding + 1) c.put_kind.ensures refl refl).0

pub returns-clause-ok : goal.returns-clause-ok
returns-clause-ok c =
    let best = best_somewhere c.self.inside c.self.invariant c.in-Some.ensures.ordered c.in-Some.at (sym (c.in-Some.ensures.number ∙ ap (λ (ls : List Link). best_number c.self.inside.olds c.self.inside.best.best ls c.self.inside.left.keys) c.as_slice.ensures.value)) in
    let free = subst (λ (t : BoardState). HoldsNone t c.args.who) (sym c.self.view_is) c.requires.free in
    let small = subst (λ (t : BoardState). c.args.who < t.explorers) (sym c.self.view_is) c.requires.who in
    rw (← c.self.view_is) ((kept_take c.self.inside c.self.invariant c.args.who best.0 c.in-Some.at best.1 best.2 free small c.put_kind.new.links (with_item c.self.inside.held c.args.who (Some c.in-Some.at)) (c.self.inside.holding + 1) c.put_kind.ensures refl refl).1 ∙ ap (λ (o : Option ℕ). put_if (state_of c.self.inside) o (Held c.args.who ∷ [])) (sym best.1))

pub returns-clause-handed : goal.returns-clause-handed
returns-clause-handed c =
    let best = best_somewhere c.self.inside c.self.invariant c.in-Some.ensures.ordered c.in-Some.at (sym (c.in-Some.ensures.number ∙ ap (λ (ls : List Link). best_number c.self.inside.olds c.self.inside.best.best ls c.self.inside.left.keys) c.as_slice.ensures.value)) in
    let here = spot c.self.inside best.0 c.in-Some.at c.self.invariant (best_place_open (state_of c.self.inside) best.0 best.1).0 best.2 in
    let it = usable c.self.inside best.0 c.in-Some.at c.index.result.now c.self.invariant here c.index.ensures in
    rw (← c.self.view_is)
    (ap (λ (r : Box). Some r) (c.in_ok-region.ensures ∙ (ap (λ (l : Link). l.node.region) it.same ∙ here.region)) ∙ ap (option_map (box_at (state_of c.self.inside))) (sym best.1))

pub returns-in_default-clause-some : goal.returns-in_default-clause-some
returns-in_default-clause-some c =
    let number = sym (c.in_default.ensures.number ∙ ap (λ (ls : List Link). best_number c.self.inside.olds c.self.inside.best.best ls c.self.inside.left.keys) c.as_slice.ensures.value) in
    rw (← c.self.view_is) (nothing_wanted c.self.inside c.self.invariant c.in_default.ensures.ordered number)

pub returns-clause-some : goal.returns-clause-some
returns-clause-some c =
    let best = best_somewhere c.self.inside c.self.invariant c.in-Some.ensures.ordered c.in-Some.at (sym (c.in-Some.ensures.number ∙ ap (λ (ls : List Link). best_number c.self.inside.olds c.self.inside.best.best ls c.self.inside.left.keys) c.as_slice.ensures.value)) in
    rw (← c.self.view_is) (something_wanted c.self.inside c.self.invariant best.0 (best_place_open (state_of c.self.inside) best.0 best.1).0 best.3)
