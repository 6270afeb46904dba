use Rattle.qf_ir.proofs.Lists.{tests_all, tests_any, tests_not}
use Rattle.qf_ir.proofs.Tallies.{tests-step}
use Rattle.qf_ir.proofs.making.tally.Tally.+tally.Goals as goal

pub add_cond-returns-in-All : goal.add_cond-returns-in-All
add_cond-returns-in-All t c = cc (tests_all c.in-All.parts)

pub add_cond-returns-in-Any : goal.add_cond-returns-in-Any
add_cond-returns-in-Any t c = cc (tests_any c.in-Any.parts)

pub add_cond-returns-in-Not : goal.add_cond-returns-in-Not
add_cond-returns-in-Not t c = cc (tests_not c.in-Not.part)

pub add_conds-loop-cond-preserved : goal.add_conds-loop-cond-preserved
add_conds-loop-cond-preserved t c =
    tests-step c.args.kinds.now c.args.conds.now c.loop-cond.cond-index c.cond-item.result c.loop-cond-test.true c.cond-item.is _ _ _ c.loop-cond.invariant c.add_cond.ensures
