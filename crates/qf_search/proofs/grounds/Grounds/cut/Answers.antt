use Rattle.std.proofs.Common.{◌∙◌, ap, length, rules, w64}
use Rattle.std.proofs.lemmas.Int.{to_z-of_z}
use mir.Val.{SFits}
use Rattle.qf_ir.specs.Plan.{Plan}
use Rattle.qf_search.proofs.Repairs.{box_spans, box_long}
use Rattle.qf_search.proofs.Exact.{point_closes}
use Rattle.qf_search.proofs.Rows.{needed_cut}
use Rattle.qf_search.proofs.grounds.Grounds.cut.Goals as goal

pub cut_of-requires-clause-spans : goal.cut_of-requires-clause-spans
cut_of-requires-clause-spans c = box_spans c.args.region.now c.args.self.now.root c.requires.inside

pub cut_of-requires-clause-olds : goal.cut_of-requires-clause-olds
cut_of-requires-clause-olds c =
    let g = c.args.self.now in
    ap length (c.as_slice.ensures ∙ c.olds-olds.ensures ∙ ap (λ (p : Plan). p.olds) c.program.ensures.value)
    ∙ box_long g.problem.now g.root c.args.region.now c.requires.grounds.sound c.requires.grounds.is.root c.requires.inside

pub unreachable-requires : goal.unreachable-requires
unreachable-requires c =
    let g = c.args.self.now in
    point_closes g.problem.now g.root c.args.region.now c.args.row c.requires.grounds.sound c.requires.grounds.is.root c.requires.inside c.in-None.ensures.none c.requires.failing c.requires.left.0

pub returns : goal.returns
returns c =
    let found = c.cuts.ensures c.if-cuts.true in
    let f : SFits w64 c.in-Some.cut = search rules in
    let can = simp to_z-of_z at found.1 in
    let needed = needed_cut c.args.self.now c.args.region.now c.in-Some.param c.in-Some.cut c.requires.grounds c.requires.inside found.0 can in
    simp to_z-of_z (found.0, (can, (needed, c.requires.left.1)))

pub returns-2 : goal.returns-2
returns-2 c =
    let found = c.in-Some-cut_of.ensures in
    let f : SFits w64 c.in-Some-cut_of.cut = search rules in
    let needed = needed_cut c.args.self.now c.args.region.now c.in-Some-cut_of.param c.in-Some-cut_of.cut c.requires.grounds c.requires.inside found.first found.cuts in
    simp to_z-of_z (found.first, (found.cuts, (needed, c.requires.left.1)))
