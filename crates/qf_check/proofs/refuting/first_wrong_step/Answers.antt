use Rattle.std.proofs.Common.{◌∙◌, ap}
use Rattle.qf_tree.specs.Refutations.{first_wrong_step}
use Rattle.qf_check.proofs.StepsTaken.{later-none}
use Rattle.qf_check.proofs.refuting.first_wrong_step.Goals as goal

pub loop-i-init : goal.loop-i-init
loop-i-init c =
    let system = c.args.system.now in
    let steps = c.as_slice-steps.result.now in
    record {
      tracked = c.new-refuting.ensures.tracked system c.requires.selectors c.requires.rising c.requires.fits;
      so_far = later-none (first_wrong_step system _ steps) ∙ ap (λ ps. first_wrong_step system ps steps) c.new-refuting.ensures.pending;
    }
