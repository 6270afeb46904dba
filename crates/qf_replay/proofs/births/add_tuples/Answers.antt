use Rattle.qf_replay.proofs.BirthSteps.{tuple_places-step}
use Rattle.qf_replay.proofs.births.add_tuples.Goals as goal

pub loop-tuple-preserved : goal.loop-tuple-preserved
loop-tuple-preserved c =
    tuple_places-step c.loop-tuple.places c.push.new.self _ c.args.statement c.loop-tuple.tuple c.args.count c.loop-tuple-test.true c.in_ok-push.ensures.ok c.loop-tuple.invariant
