use Rattle.qf_rows.proofs.Fitting.{any_fit}
use Rattle.qf_rows.proofs.rows.Rows.push_any.Goals as goal

pub push-requires-2 : goal.push-requires-2
push-requires-2 c = record { fits = rw (c.as_slice.ensures, c.in_ok-push.ensures.ok, c.in_ok-push_vars.ensures, c.new-terms.ensures) (any_fit c.args.var c.args.parts.now c.requires.few) }
