use Rattle.std.proofs.Common.{◌∙◌}
use Rattle.qf_check.proofs.SelectorLemmas.{found_in}
use Rattle.qf_check.proofs.refuting.is_selector.Goals as goal

pub returns : goal.returns
returns c =
    let position = rw c.as_slice.ensures at c.binary_search.ensures.position in
    c.is_ok.ensures.value ∙ found_in c.args.system.now.selectors c.args.var c.binary_search.result c.requires.rising position
