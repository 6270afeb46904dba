use Rattle.std.proofs.Common.{subst, List, arith}
use Rattle.qf_base.specs.declared.names.RowName.{RowName}
use Rattle.qf_ir.specs.declared.cell.Ask.{Ask}
use Rattle.qf_goal.specs.Kept.{AreAimsOf}
use Rattle.qf_goal.specs.RowPlaces.{plan_rows}
use Rattle.qf_goal.proofs.KeptLemmas.{asks_below}
use Rattle.qf_goal.proofs.SoundLemmas.{few_cells, made_sound, made_marks}
use Rattle.qf_goal.proofs.problem.worked.Goals as goal

pub asks_of-requires-clause-few_cells : goal.asks_of-requires-clause-few_cells
asks_of-requires-clause-few_cells c =
    rw c.as_slice-2.ensures (few_cells c.args.program.now _ 1 c.args.complaints.now c.note_sound.ensures.program.few_columns (rw c.as_slice.ensures at (c.in_ok-marks.ensures.none)) c.requires.names)

pub known-requires-clause-belongs : goal.known-requires-clause-belongs
known-requires-clause-belongs c =
    (made_sound c.args.program.now c.asks_of.new.program c.args.table.now c.args.complaints.now c.as_slice.result.now c.as_slice-2.result.now c.args.domains.now c.in_ok-asks.asks c.as_slice.ensures c.as_slice-2.ensures
    (omega arith) (c.in_ok-marks.ensures.none) (c.in_ok-asks.ensures.plan) (c.in_ok-asks.ensures.asks)
    c.requires.numbers c.note_sound-2.ensures.program c.requires.table c.requires.belongs c.requires.fits c.requires.olds c.note_sound.ensures.domains).belongs

pub known-requires-clause-marks : goal.known-requires-clause-marks
known-requires-clause-marks c =
    rw c.as_slice-3.ensures
    (made_marks c.args.program.now c.asks_of.new.program c.args.table.now c.args.complaints.now c.as_slice.result.now c.as_slice-2.result.now c.args.domains.now c.in_ok-asks.asks c.as_slice.ensures c.as_slice-2.ensures
    (omega arith) (c.in_ok-marks.ensures.none) (c.in_ok-asks.ensures.plan) (c.in_ok-asks.ensures.asks) _ (c.in_ok-marks.ensures.marks))

pub known-requires-clause-columns : goal.known-requires-clause-columns
known-requires-clause-columns c =
    let sound = made_sound c.args.program.now c.asks_of.new.program c.args.table.now c.args.complaints.now c.as_slice.result.now c.as_slice-2.result.now c.args.domains.now c.in_ok-asks.asks c.as_slice.ensures c.as_slice-2.ensures
    (omega arith) (c.in_ok-marks.ensures.none) (c.in_ok-asks.ensures.plan) (c.in_ok-asks.ensures.asks)
    c.requires.numbers c.note_sound-2.ensures.program c.requires.table c.requires.belongs c.requires.fits c.requires.olds c.note_sound.ensures.domains in
    rw c.as_slice-3.ensures (asks_below c.asks_of.new.program c.in_ok-asks.asks sound.plan.few_columns sound.asks.cells)

pub returns-clause-kept : goal.returns-clause-kept
returns-clause-kept c =
    let sound = made_sound c.args.program.now c.asks_of.new.program c.args.table.now c.args.complaints.now c.as_slice.result.now c.as_slice-2.result.now c.args.domains.now c.in_ok-asks.asks c.as_slice.ensures c.as_slice-2.ensures
    (omega arith) (c.in_ok-marks.ensures.none) (c.in_ok-asks.ensures.plan) (c.in_ok-asks.ensures.asks)
    c.requires.numbers c.note_sound-2.ensures.program c.requires.table c.requires.belongs c.requires.fits c.requires.olds c.note_sound.ensures.domains in
    record {
      sound = sound;
      births = c.in_ok-births.ensures.births;
      marks =
          made_marks c.args.program.now c.asks_of.new.program c.args.table.now c.args.complaints.now c.as_slice.result.now c.as_slice-2.result.now c.args.domains.now c.in_ok-asks.asks c.as_slice.ensures c.as_slice-2.ensures
          (omega arith) (c.in_ok-marks.ensures.none) (c.in_ok-asks.ensures.plan) (c.in_ok-asks.ensures.asks) _ (c.in_ok-marks.ensures.marks);
      aims =
          subst (λ (asks : List (RowName × Ask)). AreAimsOf c.asks_of.new.program c.args.table.now asks (plan_rows c.asks_of.new.program) c.in_ok-births.aims) c.as_slice-3.ensures c.in_ok-births.ensures.aims;
    }
