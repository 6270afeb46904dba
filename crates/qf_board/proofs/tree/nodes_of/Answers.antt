use Rattle.std.proofs.Common.{sym, ap, ◌∙◌, arith, subst, length}
use Rattle.qf_point.specs.Points.{HasNoEmpty}
use Rattle.qf_board.specs.declared.nodes.Kind.{Kind}
use Rattle.qf_board.specs.declared.nodes.Link.{Link}
use Rattle.qf_board.specs.Boards.{tree_node}
use Rattle.qf_board.specs.Numbered.{chain, place_of_kind, link_at}
use Rattle.qf_board.proofs.Walks.{turn_fits, turn_walks, turn_ends, turn_link, plain_link, made_all, made_end}
use Rattle.qf_board.proofs.tree.nodes_of.Goals.{in-Some+in_ok-push, in_default}
use Rattle.qf_board.proofs.tree.nodes_of.Goals as goal

pub tree_node-requires-clause-olds : goal.tree_node-requires-clause-olds
tree_node-requires-clause-olds c =
    let fits = turn_fits (length c.args.olds.now) c.args.links.items c.loop-i.left.items c.take_kind-kind.new.links.items c.loop-i.next c.loop-i.i c.in-Some.at c.requires.linked c.requires.boxes (omega (arith, c.loop-i.left.ok.0, c.args.links.ok.0, c.len-i-end.ensures, c.loop-i.invariant.walk.many)) c.in-Some.is c.loop-i.invariant.walk c.take_kind-kind.ensures.links in
    let here = turn_link c.loop-i.left.items c.take_kind-kind.new.links.items c.in-Some.at c.index-in-Some.result.now fits.0 c.take_kind-kind.ensures.links c.index-in-Some.ensures in
    sym (ap (λ (l : Link). length l.node.region) here ∙ fits.1)

pub tree_node-requires-clause-room : goal.tree_node-requires-clause-room
tree_node-requires-clause-room c =
    let fits = turn_fits (length c.args.olds.now) c.args.links.items c.loop-i.left.items c.take_kind-kind.new.links.items c.loop-i.next c.loop-i.i c.in-Some.at c.requires.linked c.requires.boxes (omega (arith, c.loop-i.left.ok.0, c.args.links.ok.0, c.len-i-end.ensures, c.loop-i.invariant.walk.many)) c.in-Some.is c.loop-i.invariant.walk c.take_kind-kind.ensures.links in
    let here = turn_link c.loop-i.left.items c.take_kind-kind.new.links.items c.in-Some.at c.index-in-Some.result.now fits.0 c.take_kind-kind.ensures.links c.index-in-Some.ensures in
    c.loop-i.invariant.room ∙ sym (ap (λ (l : Link). length l.node.region) here ∙ fits.1)

pub tree_node-requires-clause-spans : goal.tree_node-requires-clause-spans
tree_node-requires-clause-spans c =
    let fits = turn_fits (length c.args.olds.now) c.args.links.items c.loop-i.left.items c.take_kind-kind.new.links.items c.loop-i.next c.loop-i.i c.in-Some.at c.requires.linked c.requires.boxes (omega (arith, c.loop-i.left.ok.0, c.args.links.ok.0, c.len-i-end.ensures, c.loop-i.invariant.walk.many)) c.in-Some.is c.loop-i.invariant.walk c.take_kind-kind.ensures.links in
    let here = turn_link c.loop-i.left.items c.take_kind-kind.new.links.items c.in-Some.at c.index-in-Some.result.now fits.0 c.take_kind-kind.ensures.links c.index-in-Some.ensures in
    subst (λ (l : Link). HasNoEmpty l.node.region) (sym here) fits.2

pub loop-i-preserved : goal.loop-i-preserved
loop-i-preserved c =
    elim c.match-next.branch [
      | in-Some+in_ok-push w ↦
          let fits = turn_fits (length c.args.olds.now) c.args.links.items c.loop-i.left.items w.take_kind-kind.new.links.items c.loop-i.next c.loop-i.i w.in-Some.at c.requires.linked c.requires.boxes (omega (arith, c.loop-i.left.ok.0, c.args.links.ok.0, c.len-i-end.ensures, c.loop-i.invariant.walk.many)) w.in-Some.is c.loop-i.invariant.walk w.take_kind-kind.ensures.links in
          let here = turn_link c.loop-i.left.items w.take_kind-kind.new.links.items w.in-Some.at w.index-in-Some.result.now fits.0 w.take_kind-kind.ensures.links w.index-in-Some.ensures in
          let before = plain_link c.loop-i.left.items w.in-Some.at w.index.result.now fits.0 w.index.ensures in
          let node = w.tree_node.ensures.node ∙ (ap (λ (l : Link). tree_node c.args.olds.now c.args.best.now.best (l.node.region, place_of_kind w.take_kind-kind.result)) here ∙ ap (λ (k : Kind). tree_node c.args.olds.now c.args.best.now.best ((link_at w.take_kind-kind.new.links.items w.in-Some.at).node.region, place_of_kind k)) w.take_kind-kind.ensures.kind) in
          let turned = turn_walks c.args.olds.now c.args.best.now.best c.args.links.items c.loop-i.left.items w.take_kind-kind.new.links.items c.loop-i.next w.index.result.now.next c.loop-i.i w.in-Some.at c.loop-i.nodes w.push.new.self _ w.tree_node.result c.requires.linked (omega (arith, c.loop-i.left.ok.0, c.args.links.ok.0, c.len-i-end.ensures, c.loop-i.invariant.walk.many)) w.in-Some.is c.loop-i.invariant.walk w.take_kind-kind.ensures.links (ap (λ (l : Link). l.next) before) node w.in_ok-push.ensures.ok c.loop-i.invariant.so_far in
          rw (w.room-is, w.left-is, w.nodes-is, w.next-is) (record { walk = turned.0; room = w.tree_node.ensures.room ∙ (ap (λ (l : Link). length l.node.region) here ∙ fits.1); so_far = turned.1 })
      | in_default w ↦ turn_ends c.args.links.items c.loop-i.left.items c.loop-i.next c.loop-i.i c.requires.linked (omega (arith, c.loop-i.left.ok.0, c.args.links.ok.0, c.len-i-end.ensures, c.loop-i.invariant.walk.many)) w.in_default.is c.loop-i.invariant.walk
    ]

pub returns : goal.returns
returns c =
    made_end c.args.olds.now c.args.best.now.best c.args.links.items (chain c.args.links.items) c.loop-i.i c.loop-i.nodes _ (omega (arith, c.loop-i.left.ok.0, c.args.links.ok.0, c.len-i-end.ensures, c.loop-i.invariant.walk.many, c.requires.linked.many)) c.loop-i.invariant.so_far
    ∙ sym (made_all c.args.olds.now c.args.best.now.best c.args.links.items (chain c.args.links.items))
