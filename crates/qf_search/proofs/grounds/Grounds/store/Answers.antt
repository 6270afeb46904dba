use Rattle.std.proofs.Common.{◌∙◌, ap, length}
use Rattle.qf_ir.specs.Plan.{Plan}
use Rattle.qf_instance.proofs.Boxes.{roots_span}
use Rattle.qf_search.proofs.Repairs.{box_long}
use Rattle.qf_search.proofs.grounds.Grounds.store.Goals as goal

pub returns : goal.returns
returns c =
    let g = c.args.self.now in
    let case = g.problem.now in
    let is = c.requires.is.root in
    let room = ap length (c.in_ok-point.ensures ∙ c.olds.ensures ∙ ap (λ (p : Plan). p.olds) c.program-program.ensures.value) in
    record {
      tools = record {
        made = c.new-5.ensures case g.root;
        replay = c.in_ok-replay.ensures ∙ ap (λ (p : Plan). length p.columns) c.program-program.ensures.value;
      };
      room = room ∙ box_long case g.root g.root c.requires.sound is (roots_span case g.root c.requires.sound is).1;
    }
