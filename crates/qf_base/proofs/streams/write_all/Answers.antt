use Rattle.std.proofs.Common.{arith}
use Rattle.std.proofs.lemmas.Grind.{common_steps}
use Rattle.qf_base.proofs.Growing.{written_on}
use Rattle.qf_base.proofs.streams.write_all.Goals as goal

pub loop-rest-preserved : goal.loop-rest-preserved
loop-rest-preserved g c =
    let so_far = c.loop-rest.invariant.1 in (
      grind (arith, common_steps),
      written_on _ _ _ _ _ _ so_far.0 c.in-Ok.count so_far.1 so_far.2 so_far.3 (grind (arith, common_steps)) c.in-Ok.ensures.bytes (grind (arith, common_steps)),
    )
