use Rattle.std.proofs.Common.{◌≤◌, length, ap, sym, ◌∙◌, arith, Some}
use Rattle.std.proofs.lemmas.List.{take_all}
use Rattle.qf_ir.specs.Goals.{ask_for}
use Rattle.qf_ir.specs.Plan.{final_outcome}
use Rattle.qf_goal.specs.SeedPlaces.{ListsColumnsBelow}
use Rattle.qf_goal.specs.RowPlaces.{plan_rows}
use Rattle.qf_goal.proofs.RowLemmas.{row-of-place, length-rows}
use Rattle.qf_goal.proofs.AskLemmas.{each-ask}
use Rattle.qf_goal.proofs.AimLemmas.{aims_step}
use Rattle.qf_goal.proofs.aims.aims_of.Goals as goal

pub loop-place-init : goal.loop-place-init
loop-place-init c = (c.in_ok-room.ensures, record { goals = c.new-aims.ensures.goals; complained = c.new-aims.ensures.complained; seeds = c.new-aims.ensures.seeds })

pub add-requires : goal.add-requires
add-requires c = each-ask (ListsColumnsBelow 32) c.args.asks.now _ _ c.ask_of-ask.ensures c.requires.columns

pub loop-place-preserved : goal.loop-place-preserved
loop-place-preserved c = (
  c.in_ok-old.ensures.room ∙ c.loop-place.invariant.0,
  aims_step c.args.program.now c.args.table.now c.args.asks.now (plan_rows c.args.program.now) c.loop-place.place c.row_at-row.result c.len-width.result _ _ c.loop-place.aims c.add.new.self
      (row-of-place c.args.program.now c.loop-place.place (omega arith) ∙ ap Some (sym c.row_at-row.ensures.row))
      (c.len-width.ensures ∙ ap length c.columns.ensures)
      (c.ask_of-ask.ensures ∙ ap (ask_for c.args.asks.now) (sym c.row_at-row.ensures.row))
      (c.in_ok-old.ensures.outcome ∙ ap (final_outcome c.args.program.now c.args.table.now c.row_at-row.result) (c.in_ok-olds.ensures ∙ c.olds.ensures))
      c.loop-place.invariant.1 c.in_ok-add.ensures.goals c.in_ok-add.ensures.complained c.in_ok-add.ensures.seeds,
)

pub returns : goal.returns
returns c =
    let past : length (plan_rows c.args.program.now) ≤ c.loop-place.place = omega (arith, length-rows c.args.program.now) in
    let all = take_all c.loop-place.place (plan_rows c.args.program.now) past in
    rw all at c.loop-place.invariant.1
