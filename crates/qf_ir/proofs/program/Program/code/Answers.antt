use Rattle.std.proofs.Common.{arith, ◌+◌, ◌<◌, ◌^◌, length}
use Rattle.qf_ir.specs.Plan.{Plan}
use Rattle.qf_ir.proofs.MoreTexts.{texts-after, sound-after}
use Rattle.qf_ir.proofs.program.Program.code.Goals as goal

pub invariant_of-self : goal.invariant_of-self
invariant_of-self c =
    let p = c.self.inside in
    let plan : Plan = record { columns = p.columns; statements = p.statements; olds = p.olds; texts = p.texts; starts = p.starts; inserted = p.inserted } in
    let few = rw (← c.self.view_is) at c.requires in
    let room : length p.texts + 1 < 2 ^ 32 = omega (arith, few) in
    sound-after plan c.args.text.now c.code.new.self c.self.invariant room (texts-after c.code.result p.texts c.code.new.self c.args.text.now c.code.ensures.texts c.code.ensures.err)
