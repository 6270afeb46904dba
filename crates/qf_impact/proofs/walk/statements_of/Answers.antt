use Rattle.std.proofs.Common.{◌∙◌, sym, subst}
use Rattle.std.specs.List.{AllByRecursion}
use Rattle.qf_impact.specs.Sets.{IsWithin}
use Rattle.qf_impact.proofs.Ranges.{plan-within, plan-reaches}
use Rattle.qf_impact.proofs.walk.statements_of.Goals as goal

pub returns-clause-within : goal.returns-clause-within
returns-clause-within c =
    subst (AllByRecursion IsWithin) (sym (c.as_slice.ensures ∙ c.statements.ensures.value)) (plan-within c.args.program.now c.statements.ensures.sound)

pub returns-clause-own : goal.returns-clause-own
returns-clause-own c = plan-reaches c.args.program.now c.statements.ensures.sound
