-- The rows of a program by their places in row order, and which complaint each has.
use Rattle.std.specs.Prelude.{ℕ, ◌+◌, ◌-◌, nat_lt, List, ◌++◌, map, option_map, slice_get, if◌then◌else◌}
use Rattle.std.specs.declared.option.Option.{Option}
use Rattle.std.specs.declared.option.Option.TheVariants.{Some, None}
use Rattle.std.specs.List.{position_from}
use Rattle.qf_base.specs.declared.names.RowName.{RowName}
use Rattle.qf_base.specs.declared.names.RowName.TheVariants.{Start, Inserted}
use Rattle.qf_ir.specs.declared.cell.Ask.{Ask}
use Rattle.qf_ir.specs.Plan.{Plan}
use Rattle.qf_ir.specs.Repairs.{starts_from, inserts_from}
use Rattle.qf_forms.specs.declared.complaint.Complaint.{Complaint}
use Rattle.qf_goal.specs.Asked.{is_row}

-- all rows, of which so many are the table's
abbrev pub plan_rows : Plan → List RowName
plan_rows plan = starts_from 1 plan.starts ++ inserts_from 1 plan.inserted

-- the place of a row, from 0, and the row of a place
abbrev pub row_place : ℕ → RowName → ℕ
row_place starts (Start k) = k - 1
row_place starts (Inserted k) = starts + (k - 1)

abbrev pub row_at : ℕ → ℕ → RowName
row_at starts place = if nat_lt place starts then Start (place + 1) else Inserted (place - starts + 1)

-- the place of the first of these rows that it is
abbrev pub mark_of : List RowName → RowName → Option ℕ
mark_of rows row = position_from (is_row row) 0 rows

abbrev pub marks_of : Plan → List RowName → List (Option ℕ)
marks_of plan rows = map (mark_of rows) (plan_rows plan)

-- the rows that complaints are about
abbrev pub rows_in : List Complaint → List RowName
rows_in complaints = map (λ (c : Complaint). c.row) complaints

abbrev pub asked_rows : List (RowName × Ask) → List RowName
asked_rows asks = map (λ (a : RowName × Ask). a.0) asks

-- what the complaint at a place asks
abbrev pub ask_by : List (RowName × Ask) → Option ℕ → Option Ask
ask_by asks None = None
ask_by asks (Some place) = option_map (λ (a : RowName × Ask). a.1) (slice_get asks place)
