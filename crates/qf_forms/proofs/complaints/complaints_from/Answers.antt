use Rattle.std.proofs.Common.{arith}
use Rattle.qf_forms.proofs.Steps.{elements_end}
use Rattle.qf_forms.proofs.Stating.{as-many}
use Rattle.qf_forms.proofs.complaints.complaints_from.Goals as goal

pub returns-clause-few : goal.returns-clause-few
returns-clause-few c =
    let l = c.loop-element in
    let read = elements_end l.found c.args.elements.now l.element-index l.number _ c.loop-element-test.false l.invariant.1 in
    let same = as-many 1 c.args.elements.now l.found read in
    omega (arith, same, c.requires)
