use Rattle.std.proofs.Common.{◌<◌, length, sym, ap, ◌∙◌, subst}
use Rattle.std.specs.List.{find, AllByRecursion}
use Rattle.std.specs.Map.Iter.{deref}
use Rattle.std.proofs.lemmas.Map.Iter.{rest_more, rest_all}
use Rattle.std.proofs.lemmas.List.{get_or_default}
use Rattle.qf_board.specs.declared.keys.Key.{Key}
use Rattle.qf_board.specs.declared.nodes.Link.{Link}
use Rattle.qf_board.specs.Boards.{is_open}
use Rattle.qf_board.specs.Numbered.{nowhere, place_of_kind}
use Rattle.qf_board.specs.Kept.{is_open_at}
use Rattle.qf_board.proofs.Finds.{find_here, find_on, find_nowhere}
use Rattle.qf_board.proofs.keys.first_open.Goals as goal

pub loop-key-init : goal.loop-key-init
loop-key-init c =
    let all = c.into_iter-key-iterator.ensures.into_iter_gives ∙ c.iter-key-items.ensures.rest in
    record {
      can_next = tt;
      is_finite = tt;
      first = ap (find (λ (key : Key). is_open_at c.args.links.now key.leaf)) all;
      real = subst (AllByRecursion (λ (key : Key). key.leaf < length c.args.links.now)) (sym all) c.requires;
    }

pub returns-then-is_open-clause-first : goal.returns-then-is_open-clause-first
returns-then-is_open-clause-first c =
    let more = rest_more deref c.loop-key.key-iterator c.next.new.self c.next.result c.in-Some.key c.in-Some.is c.next.ensures.steps in
    let real = subst (AllByRecursion (λ (key : Key). key.leaf < length c.args.links.now)) more c.loop-key.invariant.real in
    let passes = sym (c.if-is_open.ensures ∙ ap (λ (l : Link). is_open (place_of_kind l.node.kind)) (get_or_default c.args.links.now c.in-Some.key.now.leaf c.index-links-key.result nowhere real.0)) in
    find_here (λ (key : Key). is_open_at c.args.links.now key.leaf) c.loop-key.key-iterator c.next.new.self c.in-Some.key.now _ more passes c.loop-key.invariant.first

pub loop-key-preserved : goal.loop-key-preserved
loop-key-preserved c =
    let more = rest_more deref c.loop-key.key-iterator c.next.new.self c.next.result c.in-Some.key c.in-Some.is c.next.ensures.steps in
    let real = subst (AllByRecursion (λ (key : Key). key.leaf < length c.args.links.now)) more c.loop-key.invariant.real in
    let fails = sym (c.if-is_open.ensures ∙ ap (λ (l : Link). is_open (place_of_kind l.node.kind)) (get_or_default c.args.links.now c.in-Some.key.now.leaf c.index-links-key.result nowhere real.0)) in
    record {
      can_next = tt;
      is_finite = tt;
      first = find_on (λ (key : Key). is_open_at c.args.links.now key.leaf) c.loop-key.key-iterator c.next.new.self c.in-Some.key.now _ more fails c.loop-key.invariant.first;
      real = real.1;
    }

pub returns-clause-first : goal.returns-clause-first
returns-clause-first c =
    find_nowhere (λ (key : Key). is_open_at c.args.links.now key.leaf) c.loop-key.key-iterator _ (rest_all deref c.loop-key.key-iterator c.next.new.self c.next.result c.in-None.is c.next.ensures.steps) c.loop-key.invariant.first
