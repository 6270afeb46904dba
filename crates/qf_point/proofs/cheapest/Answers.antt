use Rattle.std.proofs.Common.{ℤ, List, pos, arith, ap, sym, ◌∙◌, rules, length, w64, subst, get_or}
use Rattle.std.proofs.lemmas.Int.{to_z-of_z}
use Rattle.std.proofs.lemmas.List.{length-set}
use mir.Val.{SFits}
use Rattle.qf_point.proofs.Steps.{cheapest_step, cheapest_all, nearest_is, best_of}
use Rattle.qf_point.specs.Points.{In}
use Rattle.qf_point.proofs.PointLaws.{cheapest_in}
use Rattle.qf_point.proofs.cheapest.Goals as goal

pub loop-i-preserved : goal.loop-i-preserved
loop-i-preserved c =
    let f : SFits w64 c.nearest.result = search rules in
    let g : SFits w64 c.get-lo.result.0 = search rules in
    let g' : SFits w64 c.get-lo.result.1 = search rules in
    let o : SFits w64 (get_or c.as_slice.result.now c.loop-i.i (pos 0)) = search rules in
    let h = simp to_z-of_z at c.nearest.ensures in
    let k = simp to_z-of_z at c.set.ensures in
    let front = cheapest_step c.args.olds.now c.args.region.now c.loop-i.into c.loop-i.i c.nearest.result (omega arith) c.requires.olds (omega arith) c.loop-i.invariant.front (nearest_is _ _ _ _ _ _ c.as_slice.ensures c.get-lo.ensures h) in
    record { same_length = simp length-set at (ap length k) ∙ c.loop-i.invariant.same_length; front = rw k front }

pub returns-clause-clamped : goal.returns-clause-clamped
returns-clause-clamped c = cheapest_all _ _ _ _ (omega arith) (omega arith) (omega arith) c.loop-i.invariant.front

pub returns-clause-inside : goal.returns-clause-inside
returns-clause-inside c = subst (λ (v : List ℤ). In c.args.region.now v) (sym (returns-clause-clamped c)) (cheapest_in c.args.olds.now c.args.region.now c.requires.olds c.requires.spans)

pub returns-clause-best : goal.returns-clause-best
returns-clause-best c = best_of _ _ _ c.requires.olds (returns-clause-clamped c)
