use Rattle.std.proofs.Common.{◌≡◌, ◌-◌, ◌∙◌, Some, ap, sym, length, slice_get}
use Rattle.qf_encode.specs.Coding.{coded, start_coding}
use Rattle.qf_encode.proofs.Sound.{plan_in, plan_turns}
use Rattle.qf_encode.proofs.RowBirths.{plan_circuit, inserted_circuit, start_is}
use Rattle.qf_base.specs.declared.names.RowName.TheVariants.{Start}
use Rattle.qf_encode.proofs.encode.coded_row.Goals as goal

pub started-requires-clause-within : goal.started-requires-clause-within
started-requires-clause-within c =
    let plan = c.args.program.now in
    let got : slice_get c.args.table.now.rows (c.in-Start.number - 1) ≡ Some c.at-cells.result.now =
    ap (λ n. slice_get c.args.table.now.rows (n - 1)) (sym c.from.ensures) ∙ c.at-cells.ensures in
    let width = c.requires.belongs.rows.each (c.in-Start.number - 1) c.at-cells.result.now got in
    rw (c.as_slice.ensures, width, c.as_slice-statements.ensures, c.statements.ensures.value) (plan_in plan c.statements.ensures.sound)

pub started-requires-clause-turn : goal.started-requires-clause-turn
started-requires-clause-turn c =
    rw (c.as_slice-statements.ensures, c.statements.ensures.value) (plan_turns c.args.program.now c.statements.ensures.sound)

pub started-requires-clause-circuit : goal.started-requires-clause-circuit
started-requires-clause-circuit c =
    let plan = c.args.program.now in
    let table = c.args.table.now in
    let cells = c.at-cells.result.now in
    let got : slice_get table.rows (c.in-Start.number - 1) ≡ Some cells =
    ap (λ n. slice_get table.rows (n - 1)) (sym c.from.ensures) ∙ c.at-cells.ensures in
    rw (c.as_slice.ensures, c.as_slice-statements.ensures, c.statements.ensures.value) (plan_circuit plan table (Start c.in-Start.number) (coded plan.statements (start_coding cells)) c.statements.ensures.sound c.requires.belongs (start_is plan table c.in-Start.number cells got))

pub inserted-requires-clause-within : goal.inserted-requires-clause-within
inserted-requires-clause-within c =
    let width = c.len-width.ensures ∙ ap length c.columns.ensures in
    rw (width, c.as_slice-statements.ensures, c.statements.ensures.value) (plan_in c.args.program.now c.statements.ensures.sound)

pub inserted-requires-clause-turn : goal.inserted-requires-clause-turn
inserted-requires-clause-turn c =
    rw (c.as_slice-statements.ensures, c.statements.ensures.value) (plan_turns c.args.program.now c.statements.ensures.sound)

pub inserted-requires-clause-circuit : goal.inserted-requires-clause-circuit
inserted-requires-clause-circuit c =
    let width = c.len-width.ensures ∙ ap length c.columns.ensures in
    rw (width, c.as_slice-statements.ensures, c.statements.ensures.value, c.from-in-Inserted.ensures) (inserted_circuit c.args.program.now c.args.table.now c.in-Inserted.number c.statements.ensures.sound c.requires.belongs (rw c.in-Inserted.is at c.requires.exists))
