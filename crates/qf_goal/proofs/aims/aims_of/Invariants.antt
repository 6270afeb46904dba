use Rattle.std.proofs.Common.{◌≡◌, length, take}
use Rattle.qf_goal.specs.Kept.{AreAimsOf}
use Rattle.qf_goal.specs.RowPlaces.{plan_rows}
use Rattle.qf_goal.proofs.aims.aims_of.Given as goal

abbrev pub invariant-loop-place : goal.invariant-loop-place
invariant-loop-place l = (l.room ≡ length l.program.columns) × AreAimsOf l.program l.table l.asks (take l.place (plan_rows l.program)) l.aims
