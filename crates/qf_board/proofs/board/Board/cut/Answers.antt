use Rattle.std.proofs.Common.{sym, ap, ◌∙◌, refl, arith, rules, w64, subst, length, ◌≡◌, ◌-◌, ◌+◌, ℕ, List, [], ◌∷◌, suc}
use Rattle.std.specs.declared.option.Option.{Option}
use Rattle.std.proofs.lemmas.Int.{to_z-of_z}
use mir.Val.{SFits}
use Rattle.qf_point.specs.Points.{CanCut, lower_half, upper_half}
use Rattle.qf_board.specs.declared.nodes.BoxNode.{BoxNode}
use Rattle.qf_board.specs.declared.nodes.Kind.TheVariants as kind
use Rattle.qf_board.specs.declared.nodes.Link.{Link}
use Rattle.qf_board.specs.Boards.{BoardState, Box, Cut, CanHappen, put_if, Split, Open}
use Rattle.qf_board.specs.Kept.{held_number, state_of}
use Rattle.qf_board.proofs.Keeps.{held_somewhere, held_spot, held_count, usable, made_key, held_is_left, kept_room, kept_same, new_absent, counted_small}
use Rattle.qf_board.proofs.Cuts.{kept_cut, split_put, leaf_key, within_more}
use Rattle.qf_board.proofs.board.Board.cut.Goals as goal

pub returns-in_default-clause-ok : goal.returns-in_default-clause-ok
returns-in_default-clause-ok c =
    let can = subst (λ (t : BoardState). CanHappen t (Cut c.args.who c.args.param c.args.cut c.args.row)) (sym c.self.view_is) c.requires in
    held_somewhere c.self.inside c.args.who can.0 c.self.invariant can.1 (sym (c.in_default.ensures ∙ ap (λ (hs : List (Option ℕ)). held_number hs c.args.who) c.as_slice.ensures.value))

pub index-link-requires : goal.index-link-requires
index-link-requires c =
    let can = subst (λ (t : BoardState). CanHappen t (Cut c.args.who c.args.param c.args.cut c.args.row)) (sym c.self.view_is) c.requires in
    let number = sym (c.in-Some.ensures ∙ ap (λ (hs : List (Option ℕ)). held_number hs c.args.who) c.as_slice.ensures.value) in
    let spot = held_spot c.self.inside c.args.who can.0 c.in-Some.at c.self.invariant can.1 number in
    omega (arith, spot.small, c.self.inside.links.ok.0)

pub cut_parts-requires-clause-olds : goal.cut_parts-requires-clause-olds
cut_parts-requires-clause-olds c =
    let can = subst (λ (t : BoardState). CanHappen t (Cut c.args.who c.args.param c.args.cut c.args.row)) (sym c.self.view_is) c.requires in
    let number = sym (c.in-Some.ensures ∙ ap (λ (hs : List (Option ℕ)). held_number hs c.args.who) c.as_slice.ensures.value) in
    let spot = held_spot c.self.inside c.args.who can.0 c.in-Some.at c.self.invariant can.1 number in
    let it = usable c.self.inside can.0 c.in-Some.at c.index-link.result.now c.self.invariant spot c.index-link.ensures in
    it.olds

pub cut_parts-requires-clause-room : goal.cut_parts-requires-clause-room
cut_parts-requires-clause-room c =
    let can = subst (λ (t : BoardState). CanHappen t (Cut c.args.who c.args.param c.args.cut c.args.row)) (sym c.self.view_is) c.requires in
    let number = sym (c.in-Some.ensures ∙ ap (λ (hs : List (Option ℕ)). held_number hs c.args.who) c.as_slice.ensures.value) in
    let spot = held_spot c.self.inside c.args.who can.0 c.in-Some.at c.self.invariant can.1 number in
    let it = usable c.self.inside can.0 c.in-Some.at c.index-link.result.now c.self.invariant spot c.index-link.ensures in
    it.room

pub cut_parts-requires-clause-spans : goal.cut_parts-requires-clause-spans
cut_parts-requires-clause-spans c =
    let can = subst (λ (t : BoardState). CanHappen t (Cut c.args.who c.args.param c.args.cut c.args.row)) (sym c.self.view_is) c.requires in
    let number = sym (c.in-Some.ensures ∙ ap (λ (hs : List (Option ℕ)). held_number hs c.args.who) c.as_slice.ensures.value) in
    let spot = held_spot c.self.inside c.args.who can.0 c.in-Some.at c.self.invariant can.1 number in
    let it = usable c.self.inside can.0 c.in-Some.at c.index-link.result.now c.self.invariant spot c.index-link.ensures in
    it.spans

pub cut_parts-requires-clause-can : goal.cut_parts-requires-clause-can
cut_parts-requires-clause-can c =
    let can = subst (λ (t : BoardState). CanHappen t (Cut c.args.who c.args.param c.args.cut c.args.row)) (sym c.self.view_is) c.requires in
    let number = sym (c.in-Some.ensures ∙ ap (λ (hs : List (Option ℕ)). held_number hs c.args.who) c.as_slice.ensures.value) in
    let spot = held_spot c.self.inside c.args.who can.0 c.in-Some.at c.self.invariant can.1 number in
    let it = usable c.self.inside can.0 c.in-Some.at c.index-link.result.now c.self.invariant spot c.index-link.ensures in
    let f : SFits w64 c.args.cut = search rules in
    simp to_z-of_z (subst (λ (r : Box). CanCut r (c.args.param - 1) c.args.cut) (sym (ap (λ (l : Link). l.node.region) it.same ∙ spot.region)) can.3)

pub invariant_of-self : goal.invariant_of-self
invariant_of-self c =
    let can = subst (λ (t : BoardState). CanHappen t (Cut c.args.who c.args.param c.args.cut c.args.row)) (sym c.self.view_is) c.requires in
    let number = sym (c.in-Some.ensures ∙ ap (λ (hs : List (Option ℕ)). held_number hs c.args.who) c.as_slice.ensures.value) in
    let spot = held_spot c.self.inside c.args.who can.0 c.in-Some.at c.self.invariant can.1 number in
    let it = usable c.self.inside can.0 c.in-Some.at c.index-link.result.now c.self.invariant spot c.index-link.ensures in
    kept_room c.self.inside c.cut_parts.new.room (c.in_err-parts.ensures.room ∙ sym it.olds) c.self.invariant

pub add_parts-requires : goal.add_parts-requires
add_parts-requires c =
    new_absent c.self.inside c.in_ok-parts.parts.low c.self.invariant (c.in_ok-parts.ensures.low.leaf ∙ omega (arith, c.len-first.ensures, c.self.inside.links.ok.0))

pub invariant_of-self-in_err-add_parts : goal.invariant_of-self-in_err-add_parts
invariant_of-self-in_err-add_parts c =
    let can = subst (λ (t : BoardState). CanHappen t (Cut c.args.who c.args.param c.args.cut c.args.row)) (sym c.self.view_is) c.requires in
    let number = sym (c.in-Some.ensures ∙ ap (λ (hs : List (Option ℕ)). held_number hs c.args.who) c.as_slice.ensures.value) in
    let spot = held_spot c.self.inside c.args.who can.0 c.in-Some.at c.self.invariant can.1 number in
    let it = usable c.self.inside can.0 c.in-Some.at c.index-link.result.now c.self.invariant spot c.index-link.ensures in
    (kept_same c.self.inside c.add_parts.new.links c.add_parts.new.keys c.cut_parts.new.room c.in_err-add_parts.ensures.same_links c.in_err-add_parts.ensures.same_keys (c.in_ok-parts.ensures.room ∙ sym it.olds) c.self.invariant).0

pub returns-in_err-add_parts-clause-err : goal.returns-in_err-add_parts-clause-err
returns-in_err-add_parts-clause-err c =
    let can = subst (λ (t : BoardState). CanHappen t (Cut c.args.who c.args.param c.args.cut c.args.row)) (sym c.self.view_is) c.requires in
    let number = sym (c.in-Some.ensures ∙ ap (λ (hs : List (Option ℕ)). held_number hs c.args.who) c.as_slice.ensures.value) in
    let spot = held_spot c.self.inside c.args.who can.0 c.in-Some.at c.self.invariant can.1 number in
    let it = usable c.self.inside can.0 c.in-Some.at c.index-link.result.now c.self.invariant spot c.index-link.ensures in
    let same = (kept_same c.self.inside c.add_parts.new.links c.add_parts.new.keys c.cut_parts.new.room c.in_err-add_parts.ensures.same_links c.in_err-add_parts.ensures.same_keys (c.in_ok-parts.ensures.room ∙ sym it.olds) c.self.invariant).1 ∙ c.self.view_is in
    search rules

pub put_split-requires : goal.put_split-requires
put_split-requires c =
    let can = subst (λ (t : BoardState). CanHappen t (Cut c.args.who c.args.param c.args.cut c.args.row)) (sym c.self.view_is) c.requires in
    let number = sym (c.in-Some.ensures ∙ ap (λ (hs : List (Option ℕ)). held_number hs c.args.who) c.as_slice.ensures.value) in
    let spot = held_spot c.self.inside c.args.who can.0 c.in-Some.at c.self.invariant can.1 number in
    within_more c.self.inside.links.items c.add_parts.new.links.items _ c.in-Some.at c.in_ok-add_parts.ensures.links spot.small

pub overflow_sub-self : goal.overflow_sub-self
overflow_sub-self c =
    let can = subst (λ (t : BoardState). CanHappen t (Cut c.args.who c.args.param c.args.cut c.args.row)) (sym c.self.view_is) c.requires in
    let number = sym (c.in-Some.ensures ∙ ap (λ (hs : List (Option ℕ)). held_number hs c.args.who) c.as_slice.ensures.value) in
    let spot = held_spot c.self.inside c.args.who can.0 c.in-Some.at c.self.invariant can.1 number in
    held_count c.self.inside c.self.invariant c.args.who can.0 c.in-Some.at can.1 number

pub overflow_add-self : goal.overflow_add-self
overflow_add-self c =
    omega (arith, counted_small c.self.inside c.self.invariant, c.self.inside.links.small, c.self.inside.links.ok.0)

pub invariant_of-self-2 : goal.invariant_of-self-2
invariant_of-self-2 c =
    let can = subst (λ (t : BoardState). CanHappen t (Cut c.args.who c.args.param c.args.cut c.args.row)) (sym c.self.view_is) c.requires in
    let number = sym (c.in-Some.ensures ∙ ap (λ (hs : List (Option ℕ)). held_number hs c.args.who) c.as_slice.ensures.value) in
    let spot = held_spot c.self.inside c.args.who can.0 c.in-Some.at c.self.invariant can.1 number in
    let it = usable c.self.inside can.0 c.in-Some.at c.index-link.result.now c.self.invariant spot c.index-link.ensures in
    let f : SFits w64 c.args.cut = search rules in
    let box = ap (λ (l : Link). l.node.region) it.same ∙ spot.region in
    let lower = simp to_z-of_z at c.in_ok-parts.ensures.lower in
    let upper = simp to_z-of_z at c.in_ok-parts.ensures.upper in
    let first_is : c.len-first.result ≡ length c.self.inside.links.items = omega (arith, c.len-first.ensures, c.self.inside.links.ok.0) in
    let second_is : c.len-first.result + 1 ≡ suc (length c.self.inside.links.items) = omega (arith, first_is) in
    let low : BoxNode = record { region = c.in_ok-parts.parts.lower; kind = kind.Open } in
    let high : BoxNode = record { region = c.in_ok-parts.parts.upper; kind = kind.Open } in
    let mine = made_key c.self.inside c.in-Some.at c.index-link.result.now c.in_ok-parts.parts.gone it.same (held_is_left c.self.inside c.args.who can.0 c.in-Some.at spot can.1) c.in_ok-parts.ensures.gone in
    let low_key = leaf_key c.self.inside.olds c.in_ok-parts.parts.lower _ c.len-first.result (length c.self.inside.links.items) c.in_ok-parts.parts.low c.in_ok-parts.ensures.low c.in_ok-parts.ensures.lower first_is in
    let high_key = leaf_key c.self.inside.olds c.in_ok-parts.parts.upper _ (c.len-first.result + 1) (suc (length c.self.inside.links.items)) c.in_ok-parts.parts.high c.in_ok-parts.ensures.high c.in_ok-parts.ensures.upper second_is in
    let put_it = simp to_z-of_z at c.put_split.ensures in
    let put = split_put c.self.inside.links.items c.add_parts.new.links.items c.put_split.new.links.items c.in-Some.at c.len-first.result (kind.Split c.args.param c.args.cut c.args.row) low high c.index-link.result.now.next spot.small first_is c.in_ok-add_parts.ensures.links (ap (λ (l : Link). l.next) it.same) put_it in
    let done = kept_cut c.self.inside c.self.invariant c.args.who can.0 c.in-Some.at can.1 number c.args.param c.args.cut c.args.row can.3 low high (lower ∙ ap (λ (r : Box). lower_half r (c.args.param - 1) c.args.cut) box) (upper ∙ ap (λ (r : Box). upper_half r (c.args.param - 1) c.args.cut) box) refl refl c.in_ok-parts.parts.gone c.in_ok-parts.parts.low c.in_ok-parts.parts.high c.put_split.new.links c.let_go.new.held c.add_parts.new.keys (c.self.inside.counted + 1) (c.self.inside.holding - 1) c.cut_parts.new.room put c.let_go.ensures refl refl (c.in_ok-parts.ensures.room ∙ sym it.olds) mine low_key high_key c.in_ok-add_parts.ensures.keys c.in_ok-add_parts.ensures.gone in
    done.0

pub returns-clause-ok : goal.returns-clause-ok
returns-clause-ok c =
    let can = subst (λ (t : BoardState). CanHappen t (Cut c.args.who c.args.param c.args.cut c.args.row)) (sym c.self.view_is) c.requires in
    let number = sym (c.in-Some.ensures ∙ ap (λ (hs : List (Option ℕ)). held_number hs c.args.who) c.as_slice.ensures.value) in
    let spot = held_spot c.self.inside c.args.who can.0 c.in-Some.at c.self.invariant can.1 number in
    let it = usable c.self.inside can.0 c.in-Some.at c.index-link.result.now c.self.invariant spot c.index-link.ensures in
    let f : SFits w64 c.args.cut = search rules in
    let box = ap (λ (l : Link). l.node.region) it.same ∙ spot.region in
    let lower = simp to_z-of_z at c.in_ok-parts.ensures.lower in
    let upper = simp to_z-of_z at c.in_ok-parts.ensures.upper in
    let first_is : c.len-first.result ≡ length c.self.inside.links.items = omega (arith, c.len-first.ensures, c.self.inside.links.ok.0) in
    let second_is : c.len-first.result + 1 ≡ suc (length c.self.inside.links.items) = omega (arith, first_is) in
    let low : BoxNode = record { region = c.in_ok-parts.parts.lower; kind = kind.Open } in
    let high : BoxNode = record { region = c.in_ok-parts.parts.upper; kind = kind.Open } in
    let mine = made_key c.self.inside c.in-Some.at c.index-link.result.now c.in_ok-parts.parts.gone it.same (held_is_left c.self.inside c.args.who can.0 c.in-Some.at spot can.1) c.in_ok-parts.ensures.gone in
    let low_key = leaf_key c.self.inside.olds c.in_ok-parts.parts.lower _ c.len-first.result (length c.self.inside.links.items) c.in_ok-parts.parts.low c.in_ok-parts.ensures.low c.in_ok-parts.ensures.lower first_is in
    let high_key = leaf_key c.self.inside.olds c.in_ok-parts.parts.upper _ (c.len-first.result + 1) (suc (length c.self.inside.links.items)) c.in_ok-parts.parts.high c.in_ok-parts.ensures.high c.in_ok-parts.ensures.upper second_is in
    let put_it = simp to_z-of_z at c.put_split.ensures in
    let put = split_put c.self.inside.links.items c.add_parts.new.links.items c.put_split.new.links.items c.in-Some.at c.len-first.result (kind.Split c.args.param c.args.cut c.args.row) low high c.index-link.result.now.next spot.small first_is c.in_ok-add_parts.ensures.links (ap (λ (l : Link). l.next) it.same) put_it in
    let done = kept_cut c.self.inside c.self.invariant c.args.who can.0 c.in-Some.at can.1 number c.args.param c.args.cut c.args.row can.3 low high (lower ∙ ap (λ (r : Box). lower_half r (c.args.param - 1) c.args.cut) box) (upper ∙ ap (λ (r : Box). upper_half r (c.args.param - 1) c.args.cut) box) refl refl c.in_ok-parts.parts.gone c.in_ok-parts.parts.low c.in_ok-parts.parts.high c.put_split.new.links c.let_go.new.held c.add_parts.new.keys (c.self.inside.counted + 1) (c.self.inside.holding - 1) c.cut_parts.new.room put c.let_go.ensures refl refl (c.in_ok-parts.ensures.room ∙ sym it.olds) mine low_key high_key c.in_ok-add_parts.ensures.keys c.in_ok-add_parts.ensures.gone in
    rw (← c.self.view_is) (done.1 ∙ ap (λ (o : Option ℕ). put_if (state_of c.self.inside) o (Split c.args.param c.args.cut c.args.row ∷ Open ∷ Open ∷ [])) (sym can.1))
