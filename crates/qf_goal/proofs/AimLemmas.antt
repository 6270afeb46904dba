-- What is known of all rows, row by row.
use Rattle.std.specs.Prelude.{◌≡◌, ℕ, ◌+◌, ◌||◌, Bool, List, [], ◌∷◌, ◌++◌, length, map, slice_get, is_some, if◌then◌else◌}
use Rattle.std.specs.declared.option.Option.{Option}
use Rattle.std.specs.declared.option.Option.TheVariants.{Some}
use Rattle.std.specs.List.{list_any, filter, flat_map}
use Rattle.std.proofs.Common.{ap, sym, ◌∙◌, take}
use Rattle.std.proofs.lemmas.List.Folds.{list_any-append}
use Rattle.qf_base.specs.declared.names.RowName.{RowName}
use Rattle.qf_ir.specs.declared.cell.Ask.{Ask}
use Rattle.qf_ir.specs.declared.cell.Outcome.{Outcome}
use Rattle.qf_ir.specs.declared.table.Table.{Table}
use Rattle.qf_ir.specs.ColumnSets.{has}
use Rattle.qf_ir.specs.Flow.{Place, same_place}
use Rattle.qf_ir.specs.Goals.{ask_for, goal_of}
use Rattle.qf_ir.specs.Plan.{Plan, final_outcome}
use Rattle.qf_goal.specs.declared.aims.Aims.{Aims}
use Rattle.qf_goal.specs.Case.{goal_in}
use Rattle.qf_goal.specs.SeedPlaces.{seeds_by, seeds_in}
use Rattle.qf_goal.specs.Kept.{AreAimsOf}
use Rattle.qf_goal.proofs.ListLemmas.{map-push, flat_map-push, filter-push, take-more}

pub aims_step : (plan : Plan) (table : Table) (asks : List (RowName × Ask)) (rows : List RowName) (place : ℕ) (row : RowName) (width : ℕ) (ask : Option Ask) (old : Outcome) (before after : Aims)
    → slice_get rows place ≡ Some row → width ≡ length plan.columns → ask ≡ ask_for asks row → old ≡ final_outcome plan table row plan.olds
    → AreAimsOf plan table asks (take place rows) before → after.goals ≡ before.goals ++ goal_of width ask old ∷ []
    → after.complained ≡ before.complained ++ (if is_some ask then row ∷ [] else [])
    → ((p : Place) → has after.seeds p ≡ (has before.seeds p || list_any (same_place p) (seeds_by ask old)))
    → AreAimsOf plan table asks (take (place + 1) rows) after
aims_step plan table asks rows place row width ask old before after at is_width is_ask is_old are goals complained seeds =
    let taken : take (place + 1) rows ≡ take place rows ++ row ∷ [] = take-more rows place row at in
    let test : RowName → Bool = λ r. is_some (ask_for asks r) in
    record {
      goals =
          goals ∙ ap (λ gs. gs ++ goal_of width ask old ∷ []) are.goals
          ∙ ap (λ g. map (goal_in plan table asks) (take place rows) ++ g ∷ [])
          (ap (λ w. goal_of w ask old) is_width ∙ ap (λ a. goal_of (length plan.columns) a old) is_ask ∙ ap (λ o. goal_of (length plan.columns) (ask_for asks row) o) is_old)
          ∙ sym (map-push (goal_in plan table asks) (take place rows) row) ∙ ap (map (goal_in plan table asks)) (sym taken);
      complained =
          complained ∙ ap (λ rs. rs ++ (if is_some ask then row ∷ [] else [])) are.complained
          ∙ ap (λ a. filter test (take place rows) ++ (if is_some a then row ∷ [] else [])) is_ask
          ∙ sym (filter-push test (take place rows) row) ∙ ap (filter test) (sym taken);
      seeds = λ p.
          seeds p ∙ ap (λ b. b || list_any (same_place p) (seeds_by ask old)) (are.seeds p)
          ∙ ap (λ s. list_any (same_place p) (flat_map (seeds_in plan table asks) (take place rows)) || list_any (same_place p) s)
          (ap (λ a. seeds_by a old) is_ask ∙ ap (λ o. seeds_by (ask_for asks row) o) is_old)
          ∙ sym (list_any-append (same_place p) (flat_map (seeds_in plan table asks) (take place rows)) (seeds_in plan table asks row))
          ∙ ap (list_any (same_place p)) (sym (flat_map-push (seeds_in plan table asks) (take place rows) row) ∙ ap (flat_map (seeds_in plan table asks)) (sym taken));
    }
