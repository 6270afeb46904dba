use Rattle.qf_instance.proofs.Systems.{root_small}
use Rattle.qf_guide.proofs.rows.root_hull.Goals as goal

pub hull-requires : goal.hull-requires
hull-requires c = record {
  fits = (root_small c.args.problem.now c.args.root.now c.args.name c.note_sound.ensures.sound c.requires.root c.note_sound.ensures.ends c.requires.exists c.args.coded.now c.requires.coded).hulls;
}
