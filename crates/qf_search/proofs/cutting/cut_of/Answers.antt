use Rattle.std.proofs.Common.{rules, w64}
use Rattle.std.proofs.lemmas.Int.{to_z-of_z}
use mir.Val.{SFits}
use Rattle.qf_search.proofs.Widths.{cut_there, wide_there}
use Rattle.qf_search.proofs.cutting.cut_of.Goals as goal

pub halfway-requires : goal.halfway-requires
halfway-requires c =
    let low_fits : SFits w64 c.get-lo.result.0 = search rules in
    let high_fits : SFits w64 c.get-lo.result.1 = search rules in
    simp to_z-of_z (wide_there c.args.region.now c.in-Some.place c.get-lo.result c.get-lo.ensures c.in-Some.ensures.wide)

pub returns-in-Some-clause-cuts : goal.returns-in-Some-clause-cuts
returns-in-Some-clause-cuts c =
    let low_fits : SFits w64 c.get-lo.result.0 = search rules in
    let high_fits : SFits w64 c.get-lo.result.1 = search rules in
    let low = simp to_z-of_z at c.halfway.ensures.low in
    let high = simp to_z-of_z at c.halfway.ensures.high in
    let result_fits : SFits w64 c.halfway.result = search rules in
    simp to_z-of_z (cut_there c.args.region.now c.in-Some.place c.halfway.result c.get-lo.result c.in-Some.ensures.within c.get-lo.ensures low high)
