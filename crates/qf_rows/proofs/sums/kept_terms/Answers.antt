use Rattle.std.proofs.Common.{◌^◌, arith, ap, of_z}
use mir.Syntax.{w128}
use Rattle.std.specs.Map.Iter.{deref_pair}
use Rattle.std.proofs.lemmas.Int.{ints}
use Rattle.std.proofs.lemmas.Map.Iter.{rest_more}
use Rattle.qf_rows.proofs.Adding.{kept_more, kept_fits}
use Rattle.qf_rows.proofs.sums.kept_terms.Goals as goal

pub narrowed-requires : goal.narrowed-requires
narrowed-requires c =
    let here = rest_more deref_pair c.loop-var.var-iterator c.next.new.self c.next.result (c.in-Some.var, c.in-Some.factor) c.in-Some.is c.next.ensures.steps in
    let fits = kept_fits c.loop-var.var-iterator c.next.new.self c.in-Some.var.now c.in-Some.factor.now (2 ^ 60) here (λ e. c.if-factor-ne0.true (ap (of_z w128) e)) c.loop-var.invariant.fits in
    record { small = omega (arith, ints, fits) }

pub loop-var-preserved-in-Continue-1 : goal.loop-var-preserved-in-Continue-1
loop-var-preserved-in-Continue-1 c =
    let here = rest_more deref_pair c.loop-var.var-iterator c.next.new.self c.next.result (c.in-Some.var, c.in-Some.factor) c.in-Some.is c.next.ensures.steps in
    let more = kept_more c.loop-var.terms c.push.new.self c.loop-var.var-iterator c.next.new.self c.in-Some.var.now c.in-Some.factor.now _ (2 ^ 60) _ here (omega (arith, ints, c.narrowed.ensures)) (λ e. c.if-factor-ne0.true (ap (of_z w128) e)) c.in_ok-push.ensures.ok c.loop-var.invariant.rest c.loop-var.invariant.fits in
    record {
      can_next = tt;
      is_finite = tt;
      rest = more.0;
      fits = more.1;
    }
