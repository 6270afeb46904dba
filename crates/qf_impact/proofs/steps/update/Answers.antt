use Rattle.std.proofs.Common.{◌∙◌, ap, ◌++◌}
use Rattle.qf_impact.specs.Atoms.{where_atoms}
use Rattle.qf_impact.proofs.SetSteps.{updated, on_ok}
use Rattle.qf_impact.proofs.steps.update.Goals as goal

pub returns : goal.returns
returns c =
    on_ok _ (updated c.args.first c.args.assignments.now c.args.filter.now c.as_slice.result.now c.args.sets.now c.copy_from_slice.new.self c.clear_sets.new.sets c.spread_sets.new.sets
    c.copy_from_slice.ensures.after
    (c.as_slice.ensures.value ∙ c.in_ok-gather_filter.ensures ∙ ap (λ items. items ++ where_atoms c.args.filter.now) c.new-atoms.ensures.items)
    c.clear_sets.ensures) c.spread_sets.ensures
