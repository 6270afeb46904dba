use Rattle.std.proofs.Common.{rules, SFits, w64, arith, ap, sym, length, slice_get, ◌∙◌}
use Rattle.std.proofs.lemmas.Int.{to_z-of_z}
use Rattle.std.proofs.lemmas.Option.{slice_get_within}
use Rattle.std.proofs.lemmas.List.{length-set}
use Rattle.qf_base.proofs.BoxLaws.{length-In}
use Rattle.qf_point.proofs.DomainSteps.{sliced_step, sliced_end}
use Rattle.qf_point.proofs.domains.Domains.slice.Goals as goal

pub at-old-requires : goal.at-old-requires
at-old-requires c = omega (arith, length-In c.self.inside.region c.self.inside.olds c.self.invariant.0)

pub returns : goal.returns
returns c =
    let same = length-In c.self.inside.region c.self.inside.olds c.self.invariant.0 in
    let olds = ap (λ d. length d.olds) c.self.view_is in
    let domains = ap (λ d. length d.region) c.self.view_is in
    sliced_end c.args.self.now.olds c.args.self.now.region c.loop-i.region _ c.args.needed.now c.loop-i.i (omega (arith, same, olds, domains)) (omega (arith, same, olds, domains)) c.loop-i.invariant.whole

pub loop-i-preserved : goal.loop-i-preserved
loop-i-preserved c =
    let old_fits : SFits w64 c.at-old.result.now = search rules in
    let lo : SFits w64 c.sliced-lo.result.0 = search rules in
    let hi : SFits w64 c.sliced-lo.result.1 = search rules in
    let is = simp to_z-of_z at c.set.ensures in
    let w = rw c.has.ensures at (simp to_z-of_z at c.sliced-lo.ensures) in
    let domain = sym (ap (λ d. slice_get d.region c.loop-i.i) c.self.view_is) ∙ c.get.ensures in
    let old = sym (ap (λ d. slice_get d.olds c.from.result) c.self.view_is) ∙ c.at-old.ensures in
    record {
      len = simp length-set at (ap length is) ∙ c.loop-i.invariant.len;
      whole = sliced_step c.args.self.now.olds c.args.self.now.region c.loop-i.region c.set.new.self _ c.args.needed.now c.loop-i.i c.from.result c.at-old.result.now c.get.result c.sliced-lo.result c.from.ensures old domain (omega (arith, c.loop-i.invariant.len, slice_get_within c.args.self.now.region c.loop-i.i c.get.result domain)) w is c.loop-i.invariant.whole;
    }
