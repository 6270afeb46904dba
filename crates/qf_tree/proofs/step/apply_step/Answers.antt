use Rattle.qf_tree.proofs.StepLemmas.{step_keeps}
use Rattle.qf_tree.proofs.step.apply_step.Goals as goal

pub returns-clause-keeps : goal.returns-clause-keeps
returns-clause-keeps c =
    step_keeps c.args.system.now c.args.bounds.now c.take_step.new.bounds c.args.step.now c.take_step.result c.take_step.ensures.right c.take_step.ensures.bounds
