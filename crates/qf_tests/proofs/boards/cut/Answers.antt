use Rattle.qf_base.specs.declared.names.RowName.TheVariants.{Start}
use Rattle.qf_tests.proofs.boards.cut.Goals as goal

pub cut-requires : goal.cut-requires
cut-requires c = (c.may_cut.ensures (Start 1)).0 c.if-may_cut.true
