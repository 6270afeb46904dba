use Rattle.qf_probe.proofs.Examples.{two_cases_fits}
use Rattle.qf_probe.proofs.tests.two_cases.Goals as goal

pub returns : goal.returns
returns c = rw (c.in_ok-inequalities.ensures, c.in_ok-selectors.ensures, c.from_list.ensures, c.in_ok-hull.ensures) two_cases_fits
