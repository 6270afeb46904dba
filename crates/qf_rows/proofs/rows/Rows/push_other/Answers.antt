use Rattle.std.proofs.Common.{arith, pos, to_z, of_z, w64, ◌-ℤ◌}
use Rattle.std.proofs.lemmas.Int.{ints, clamps}
use Rattle.std.proofs.lemmas.Result.{on_ok_weaker}
use Rattle.qf_rows.proofs.Fitting.{three_fit}
use Rattle.qf_rows.proofs.Pushing.{other_made}
use Rattle.qf_rows.proofs.rows.Rows.push_other.Goals as goal

pub push-requires : goal.push-requires
push-requires c = record { fits = three_fit _ _ _ c.args.var c.args.part c.args.test (omega (arith, ints, c.below_zero-under.ensures.size)) }

pub push-requires-2 : goal.push-requires-2
push-requires-2 c = record { fits = three_fit _ _ _ c.args.part c.args.var c.args.test (omega (arith, ints, c.below_zero-over.ensures.size)) }

pub returns : goal.returns
returns c =
    let under = to_z w64 (of_z w64 (pos 0 -ℤ to_z w64 (of_z w64 c.below_zero-under.result))) in
    let over = to_z w64 (of_z w64 (pos 0 -ℤ to_z w64 (of_z w64 c.below_zero-over.result))) in
    on_ok_weaker c.push-2.result (λ e. other_made c.args.self.now.rows c.push.new.self.rows c.push-2.new.self.rows c.args.value c.args.other c.args.test c.args.part c.args.var under over (omega (arith, ints, clamps, c.below_zero-under.ensures.value)) (omega (arith, ints, clamps, c.below_zero-over.ensures.value)) c.in_ok-push.ensures e) c.push-2.ensures
