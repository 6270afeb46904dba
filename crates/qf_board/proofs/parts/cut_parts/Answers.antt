use Rattle.std.proofs.Common.{sym, rules, w64, subst, ◌-◌}
use Rattle.std.proofs.lemmas.Int.{to_z-of_z}
use mir.Val.{SFits}
use Rattle.qf_point.specs.Points.{HasNoEmpty}
use Rattle.qf_point.proofs.PointLaws.{lower_spans, upper_spans}
use Rattle.qf_board.proofs.parts.cut_parts.Goals as goal

pub key_of-requires-2-clause-spans : goal.key_of-requires-2-clause-spans
key_of-requires-2-clause-spans c =
    let f : SFits w64 c.args.cut = search rules in
    let lower = simp to_z-of_z at c.in_ok-lower.ensures.lower in
    subst HasNoEmpty (sym lower) (lower_spans c.args.region.now (c.args.param - 1) c.args.cut c.requires.can c.requires.spans)

pub key_of-requires-3-clause-spans : goal.key_of-requires-3-clause-spans
key_of-requires-3-clause-spans c =
    let f : SFits w64 c.args.cut = search rules in
    let upper = simp to_z-of_z at c.in_ok-lower.ensures.upper in
    subst HasNoEmpty (sym upper) (upper_spans c.args.region.now (c.args.param - 1) c.args.cut c.requires.can c.requires.spans)
