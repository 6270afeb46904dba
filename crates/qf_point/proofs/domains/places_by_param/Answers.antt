use Rattle.std.proofs.Common.{◌∙◌, arith, ap, length, refl, rules}
use Rattle.qf_point.proofs.Noting.{noted_start, noted_turn, noted_end, length-places_from}
use Rattle.qf_point.proofs.domains.places_by_param.Goals as goal

pub loop-at-init : goal.loop-at-init
loop-at-init c = c.in_ok-found.ensures.items_if_clones_equal (search rules) ∙ noted_start 1 c.args.params

pub loop-at-preserved : goal.loop-at-preserved
loop-at-preserved c =
    noted_turn c.args.params c.loop-at.at _ c.args.rows.now _ c.loop-at.found.items _ (omega arith) refl c.loop-at.invariant c.note.ensures

pub returns-clause-places : goal.returns-clause-places
returns-clause-places c = noted_end c.args.params c.loop-at.at c.args.rows.now c.loop-at.found.items (omega arith) c.loop-at.invariant

pub returns-clause-len : goal.returns-clause-len
returns-clause-len c = ap length (noted_end c.args.params c.loop-at.at c.args.rows.now c.loop-at.found.items (omega arith) c.loop-at.invariant) ∙ length-places_from 1 c.args.params c.args.rows.now
