use Rattle.qf_search.proofs.Crossing.{closes_in, written_in}
use Rattle.qf_search.proofs.closing.closing_step.Goals as goal

pub returns-in-Some-clause-some : goal.returns-in-Some-clause-some
returns-in-Some-clause-some c =
    closes_in c.args.system.now c.args.bounds.now c.as_slice-rows.result.now c.args.first c.in-Some.place c.index-rows-place.result c.step_of.result c.as_slice-rows.ensures c.requires.fit c.in-Some.ensures.within c.index-rows-place.is c.requires.single c.in-Some.ensures.after c.step_of.ensures c.in-Some.ensures.violated

pub returns-in-Some-clause-spelled : goal.returns-in-Some-clause-spelled
returns-in-Some-clause-spelled c =
    written_in c.args.system.now c.args.bounds.now c.as_slice-rows.result.now c.args.first c.in-Some.place c.index-rows-place.result c.step_of.result c.as_slice-rows.ensures c.requires.fit c.in-Some.ensures.within c.index-rows-place.is c.requires.single c.in-Some.ensures.after c.step_of.ensures c.requires.few c.len-variables.ensures.small
