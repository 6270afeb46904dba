use Rattle.qf_impact.proofs.Lists.{atoms_all, atoms_any, atoms_not}
use Rattle.qf_impact.proofs.atoms.+gather_cond.Goals as goal

pub gather_cond-returns-in-All : goal.gather_cond-returns-in-All
gather_cond-returns-in-All t c = rw (c.in-All.is, atoms_all c.in-All.parts) (rw c.as_slice-in-All.ensures at c.gather_parts.ensures)

pub gather_cond-returns-in-Any : goal.gather_cond-returns-in-Any
gather_cond-returns-in-Any t c = rw (c.in-Any.is, atoms_any c.in-Any.parts) (rw c.as_slice-in-Any.ensures at c.gather_parts-in-Any.ensures)

pub gather_cond-returns-in-Not : goal.gather_cond-returns-in-Not
gather_cond-returns-in-Not t c = rw (c.in-Not.is, atoms_not c.in-Not.part) (rw c.get.ensures at c.gather_cond.ensures)
