use Rattle.qf_rows.proofs.Fitting.{all_fit}
use Rattle.qf_rows.proofs.rows.Rows.push_all.Goals as goal

pub push-requires-2 : goal.push-requires-2
push-requires-2 c = record { fits = rw (c.as_slice.ensures, c.in_ok-push_vars.ensures, c.in_ok-push.ensures.ok, c.new-terms.ensures) (all_fit c.args.var c.args.parts.now c.requires.few) }
