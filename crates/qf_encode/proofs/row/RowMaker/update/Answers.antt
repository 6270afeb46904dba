use Rattle.qf_encode.specs.RowsMade.{coded_now}
use Rattle.qf_encode.proofs.Loops.{update_few}
use Rattle.qf_encode.proofs.row.RowMaker.update.Goals as goal

pub condition-requires-clause-few : goal.condition-requires-clause-few
condition-requires-clause-few c =
    rw c.as_slice.ensures (update_few c.args.sets.now c.args.filter.now c.in-Some.condition (coded_now c.args.self.now) _ c.in-Some.is c.requires.few).0

pub values-requires-in-Some : goal.values-requires-in-Some
values-requires-in-Some c =
    record { few = rw (c.in_ok-test-in-Some.ensures.made, c.as_slice.ensures) (update_few c.args.sets.now c.args.filter.now c.in-Some.condition (coded_now c.args.self.now) _ c.in-Some.is c.requires.few).1 }
