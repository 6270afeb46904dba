use Rattle.std.proofs.Common.{◌≡◌, ◌++◌, drop}
use Rattle.std.specs.List.{list_all}
use Rattle.qf_ir.specs.Width.{is_narrow, sets_steps}
use Rattle.qf_width.specs.Sets.{set_intervals}
use Rattle.qf_width.proofs.statements.work_out.Given as goal

abbrev pub invariant-loop-set : goal.invariant-loop-set
invariant-loop-set l = record {
  narrow : list_all is_narrow (sets_steps (drop l.set-index l.sets) l.before l.domains) ≡ list_all is_narrow (sets_steps l.sets l.before l.domains);
  fresh : l.fresh.items ++ set_intervals (drop l.set-index l.sets) l.filter l.before l.domains ≡ set_intervals l.sets l.filter l.before l.domains;
}
