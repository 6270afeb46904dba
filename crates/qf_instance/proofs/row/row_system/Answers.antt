use Rattle.qf_instance.proofs.Systems.{is_row_system}
use Rattle.qf_instance.proofs.row.row_system.Goals as goal

pub returns : goal.returns
returns c = record {
  made = is_row_system c.args.problem.now c.args.root.now c.args.row c.note_sound.ensures.sound c.requires.root c.note_sound.ensures.ends c.requires.exists c.in_ok-coded.coded c.in_ok-coded.ensures c.in_ok-system.system c.in_ok-system.ensures;
}
