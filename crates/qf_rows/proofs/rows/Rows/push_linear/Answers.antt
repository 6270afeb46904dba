use Rattle.std.proofs.Common.{arith, negsuc, pos, map, refl}
use Rattle.std.proofs.lemmas.Int.{ints}
use Rattle.std.proofs.lemmas.Result.{on_ok_weaker}
use Rattle.qf_rows.specs.Encoding.{negated}
use Rattle.qf_rows.proofs.Fitting.{and_own_fit, opposites_fit}
use Rattle.qf_rows.proofs.Pushing.{linear_made}
use Rattle.qf_rows.proofs.rows.Rows.push_linear.Goals as goal

pub push-requires-3 : goal.push-requires-3
push-requires-3 c =
    let fits = c.requires.fits in
    record { fits = rw (c.as_slice.ensures, c.in_ok-push.ensures.ok, c.in_ok-first.ensures) (and_own_fit c.args.terms.now (negsuc 0) c.args.var fits.factors fits.added_up (omega (arith, ints))) }

pub push-requires-4 : goal.push-requires-4
push-requires-4 c =
    let fits = opposites_fit c.args.terms.now c.args.constant c.requires.fits in
    record { fits = rw (c.as_slice-2.ensures, c.in_ok-push-2.ensures.ok, c.in_ok-second.ensures) (and_own_fit (map negated c.args.terms.now) (pos 1) c.args.var fits.factors fits.added_up (omega (arith, ints))) }

pub returns : goal.returns
returns c =
    on_ok_weaker c.push-4.result (λ e. linear_made c.args.self.now.rows c.push-3.new.self.rows c.push-4.new.self.rows c.args.terms.now c.as_slice.result.now c.as_slice-2.result.now c.args.constant _ _ c.args.var (rw (c.as_slice.ensures, c.in_ok-push.ensures.ok, c.in_ok-first.ensures) refl) (rw (c.as_slice-2.ensures, c.in_ok-push-2.ensures.ok, c.in_ok-second.ensures) refl) (omega (arith, ints)) (omega (arith, ints)) c.in_ok-push-3.ensures e) c.push-4.ensures
