use Rattle.std.proofs.Common.{sym, subst}
use Rattle.qf_ir.specs.declared.cell.Goal.{Goal}
use Rattle.qf_system.specs.SystemsMade.{SuitsColumns}
use Rattle.qf_instance.proofs.Systems.{root_small, row_few, row_suits}
use Rattle.qf_instance.proofs.row.goal_system.Goals as goal

pub system_of-requires-clause-hull : goal.system_of-requires-clause-hull
system_of-requires-clause-hull c =
    (root_small c.args.problem.now c.args.root.now c.args.row c.note_sound.ensures.sound c.requires.root c.note_sound.ensures.ends c.requires.exists c.args.coded.now c.requires.coded).hulls

pub system_of-requires-clause-few : goal.system_of-requires-clause-few
system_of-requires-clause-few c =
    row_few c.args.problem.now c.args.root.now c.args.row c.note_sound.ensures.sound c.requires.root c.note_sound.ensures.ends c.requires.exists c.args.coded.now c.requires.coded

pub system_of-requires-clause-ends : goal.system_of-requires-clause-ends
system_of-requires-clause-ends c =
    (root_small c.args.problem.now c.args.root.now c.args.row c.note_sound.ensures.sound c.requires.root c.note_sound.ensures.ends c.requires.exists c.args.coded.now c.requires.coded).ends

pub system_of-requires-clause-sums : goal.system_of-requires-clause-sums
system_of-requires-clause-sums c =
    (root_small c.args.problem.now c.args.root.now c.args.row c.note_sound.ensures.sound c.requires.root c.note_sound.ensures.ends c.requires.exists c.args.coded.now c.requires.coded).sums

pub system_of-requires-clause-suits : goal.system_of-requires-clause-suits
system_of-requires-clause-suits c =
    let suits = row_suits c.args.problem.now c.args.root.now c.args.row c.note_sound.ensures.sound c.requires.root c.note_sound.ensures.ends c.requires.exists c.args.coded.now c.requires.coded in
    subst (λ (g : Goal). SuitsColumns c.args.coded.now.columns g) (sym c.goal.ensures) suits
