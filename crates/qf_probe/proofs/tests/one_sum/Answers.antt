use Rattle.qf_probe.proofs.Examples.{one_sum_fits}
use Rattle.qf_probe.proofs.tests.one_sum.Goals as goal

pub returns : goal.returns
returns c = rw (c.in_ok-inequalities.ensures, c.new.ensures, c.from_list.ensures, c.in_ok-hull.ensures) one_sum_fits
