use Rattle.std.proofs.Common.{◌∙◌, ap, length, refl}
use Rattle.qf_ir.specs.Plan.{Plan}
use Rattle.qf_check.proofs.GroundLemmas.{olds_long}
use Rattle.qf_check.proofs.grounds.Grounds.begin.Goals as goal

pub returns : goal.returns
returns c =
    let case = c.args.self.now.problem.now in
    let root = c.args.self.now.root in
    let long = olds_long case root c.args.region.now c.program.ensures.sound c.requires.root c.requires.inside in
    let room = ap length (c.in_ok-new-2.ensures ∙ c.olds.ensures ∙ ap (λ (p : Plan). p.olds) c.program.ensures.value) in
    record {
      boxes = c.in_ok-new.ensures.boxes;
      line = refl;
      least = c.stated_least.ensures;
      any_open = refl;
      sound = record { boxes = c.in_ok-new.ensures.inside root c.requires.inside; made = c.new-2.ensures case root; room = room ∙ long.0 ∙ long.1 };
    }
