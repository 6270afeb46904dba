use Rattle.std.proofs.Common.{◌^◌, arith, to_z, of_z}
use mir.Syntax.{w128}
use Rattle.std.proofs.lemmas.Int.{ints}
use Rattle.qf_rows.proofs.Adding.{inserted-with_term, factor_small}
use Rattle.qf_rows.proofs.sums.add_term.Goals as goal

pub sum-factor-requires : goal.sum-factor-requires
sum-factor-requires c =
    let small = factor_small (2 ^ 126) c.args.sums.now.entries c.args.term.now.1 c.factor_at.result c.factor_at.ensures c.requires.small in
    record { small = omega (arith, ints, small) }

pub returns : goal.returns
returns c =
    inserted-with_term c.args.sums.now.entries c.insert.new.self.entries c.args.term.now c.factor_at.result (to_z w128 (of_z w128 c.sum-factor.result)) c.factor_at.ensures (omega (arith, ints, c.sum-factor.ensures)) c.in_ok-insert.ensures.entries
