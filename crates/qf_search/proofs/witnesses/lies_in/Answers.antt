use Rattle.std.proofs.Common.{rules, SFits, w64}
use Rattle.std.proofs.lemmas.Int.{to_z-of_z}
use Rattle.qf_search.proofs.Openings.{between_more}
use Rattle.qf_search.proofs.witnesses.lies_in.Goals as goal

pub loop-place-preserved : goal.loop-place-preserved
loop-place-preserved c =
    let value : SFits w64 c.get.result = search rules in
    let low : SFits w64 c.get-in-loop-place.result.0 = search rules in
    let high : SFits w64 c.get-in-loop-place.result.1 = search rules in
    let between = simp to_z-of_z at (c.is_between.ensures c.if-not-is_between.false) in
    record {
      len = c.loop-place.invariant.len;
      each = between_more c.args.region.now c.args.point.now c.loop-place.place c.get-in-loop-place.result c.get.result c.get-in-loop-place.ensures c.get.ensures between c.loop-place.invariant.each;
    }
