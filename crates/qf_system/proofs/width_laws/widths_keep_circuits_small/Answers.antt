use Rattle.qf_system.proofs.WidthsKeep.{circuits_small}
use Rattle.qf_system.proofs.width_laws.widths_keep_circuits_small.Goals as goal

pub returns : goal.returns
returns c = λ width table statements name domains final region is rows i cells p box small. circuits_small width table statements name domains final region is rows i cells p box small
