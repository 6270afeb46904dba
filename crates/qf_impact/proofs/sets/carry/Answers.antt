use Rattle.std.proofs.Common.{◌<◌, length, arith}
use Rattle.qf_impact.specs.Sets.{set_at}
use Rattle.qf_impact.proofs.SetSteps.{meets-is, carry-yes, carry-no}
use Rattle.qf_impact.proofs.sets.carry.Goals as goal
use Rattle.qf_impact.proofs.sets.carry.Goals.{then-meets, else-meets}

pub loop-i-preserved : goal.loop-i-preserved
loop-i-preserved c =
    let atoms = c.args.atoms.now in
    let before = c.args.before.now in
    let within : c.loop-i.i < length c.loop-i.sets = omega arith in
    let is = meets-is (set_at before c.loop-i.i) c.columns_in-columns.result atoms c.meets.result c.columns_in-columns.ensures c.meets.ensures.common c.meets.ensures.apart in
    elim c.if-meets.branch [
      | then-meets w ↦ rw w.sets-is (carry-yes c.args.target before atoms c.args.sets.now c.loop-i.sets c.loop-i.i within c.loop-i.invariant c.meets.result is w.add_all.new.self w.if-meets.true w.add_all.ensures)
      | else-meets w ↦ rw w.sets-is (carry-no c.args.target before atoms c.args.sets.now c.loop-i.sets c.loop-i.i within c.loop-i.invariant c.meets.result is w.if-meets.false)
    ]
