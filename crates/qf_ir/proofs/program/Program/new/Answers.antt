use Rattle.qf_ir.proofs.Makings.{made-of}
use Rattle.qf_ir.proofs.program.Program.new.Goals as goal

pub invariant_of-result : goal.invariant_of-result
invariant_of-result c =
    (made-of c.args.table.now c.args.names.now c.args.texts.now c.args.statements c.args.olds c.as_slice.result.now c.as_slice-2.result.now c.in-Ok.parts c.len.result
    c.as_slice.ensures c.as_slice-2.ensures c.in-Ok.ensures.made c.len.ensures
    c.requires.table c.requires.few_texts c.requires.coded c.requires.in_order c.requires.made c.requires.small_olds).sound

pub returns-in-Ok : goal.returns-in-Ok
returns-in-Ok c =
    let made = made-of c.args.table.now c.args.names.now c.args.texts.now c.args.statements c.args.olds c.as_slice.result.now c.as_slice-2.result.now c.in-Ok.parts c.len.result
    c.as_slice.ensures c.as_slice-2.ensures c.in-Ok.ensures.made c.len.ensures
    c.requires.table c.requires.few_texts c.requires.coded c.requires.in_order c.requires.made c.requires.small_olds in
    record { program = made.gives; sound = made.sound; belongs = made.belongs; few_texts = made.few_texts }
