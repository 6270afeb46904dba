-- What complaints make of a program, a table and domains: the problem, or the first refusal.
use Rattle.std.specs.Prelude.{ℕ, ◌+◌, Bool, true, false, not, ◌&&◌, nat_le, nat_lt, List, [], ◌∷◌, ◌++◌, length, map, if◌then◌else◌, Result, Ok, Err}
use Rattle.std.specs.declared.option.Option.{Option}
use Rattle.std.specs.declared.option.Option.TheVariants.{Some, None}
use Rattle.std.specs.List.{list_any, find, flat_map, position_or_len}
use Rattle.std.specs.Str.{bytes_eq}
use Rattle.qf_base.specs.declared.names.RowName.{RowName}
use Rattle.qf_base.specs.declared.names.RowName.TheVariants.{Start, Inserted}
use Rattle.qf_ir.specs.declared.cell.Ask.{Ask}
use Rattle.qf_ir.specs.declared.cell.Ask.TheVariants as ask
use Rattle.qf_ir.specs.declared.cell.Cell.{Cell}
use Rattle.qf_ir.specs.declared.cell.Cell.TheVariants as cell
use Rattle.qf_ir.specs.declared.table.Column.{Column}
use Rattle.qf_ir.specs.declared.table.ColumnKind.{ColumnKind}
use Rattle.qf_ir.specs.declared.table.ColumnKind.TheVariants as kind
use Rattle.qf_ir.specs.declared.table.Table.{Table}
use Rattle.qf_ir.specs.Plan.{Plan}
use Rattle.qf_ir.specs.Replay.{same_row}
use Rattle.qf_ir.specs.Texts.{code_in, with_texts}
use Rattle.qf_point.specs.Domains.{DomainBox}
use Rattle.qf_forms.specs.Stated.{stated_by}
use Rattle.qf_forms.specs.declared.complaint.WishCell.{WishCell}
use Rattle.qf_forms.specs.declared.complaint.WishCell.TheVariants.{Int, Text}
use Rattle.qf_forms.specs.declared.complaint.Wish.{Wish}
use Rattle.qf_forms.specs.declared.complaint.Wish.TheVariants.{Absent, Present}
use Rattle.qf_forms.specs.declared.complaint.Complaint.{Complaint}
use Rattle.qf_forms.specs.Complaints.{Stated}
use Rattle.qf_goal.specs.declared.fault.GoalFault.{GoalFault}
use Rattle.qf_goal.specs.declared.fault.GoalFault.TheVariants.{TooManyComplaints, UnknownRow, RepeatedRow, ComplaintColumn, ComplaintType}
use Rattle.qf_goal.specs.Case.{Case}

-- ---- refusals

abbrev pub row_exists : Plan → RowName → Bool
row_exists plan (Start k) = nat_le 1 k && nat_le k plan.starts
row_exists plan (Inserted k) = nat_le 1 k && nat_le k plan.inserted

abbrev pub is_called : List ℕ → Column → Bool
is_called name column = bytes_eq column.name name

abbrev pub is_unknown : List Column → Stated → Bool
is_unknown columns stated = not (list_any (is_called stated.0) columns)

-- a number in a text column, or a text in a column of numbers
abbrev pub is_other_kind : WishCell → ColumnKind → Bool
is_other_kind (Int number) kind.Int = false
is_other_kind (Int number) kind.Text = true
is_other_kind (Text text) kind.Int = true
is_other_kind (Text text) kind.Text = false

abbrev pub is_mistyped_in : WishCell → Option Column → Bool
is_mistyped_in value None = false
is_mistyped_in value (Some column) = is_other_kind value column.kind

abbrev pub is_mistyped : List Column → Stated → Bool
is_mistyped columns stated = is_mistyped_in stated.1 (find (is_called stated.0) columns)

-- a column that the table lacks comes before a value of the other type
abbrev pub stated_fault : List Column → ℕ → List Stated → Option GoalFault
stated_fault columns number stated =
    if list_any (is_unknown columns) stated then Some (ComplaintColumn number)
    else if list_any (is_mistyped columns) stated then Some (ComplaintType number)
    else None

-- the row is this one
abbrev pub is_row : RowName → RowName → Bool
is_row row other = same_row other row

-- what is wrong with a complaint of this number, where earlier ones are about these rows
abbrev pub fault_of : Plan → List RowName → ℕ → Complaint → Option GoalFault
fault_of plan earlier number complaint =
    if not (row_exists plan complaint.row) then Some (UnknownRow number)
    else if list_any (is_row complaint.row) earlier then Some (RepeatedRow number)
    else stated_fault plan.columns number (stated_by complaint.wish)

abbrev pub or_else : Option GoalFault → Option GoalFault → Option GoalFault
or_else (Some fault) other = Some fault
or_else None other = other

-- the fault of the first complaint with one, where the complaints have the numbers from this one on
abbrev pub first_fault : Plan → List RowName → ℕ → List Complaint → Option GoalFault
first_fault plan earlier number [] = None
first_fault plan earlier number (complaint ∷ complaints) =
    or_else (fault_of plan earlier number complaint) (first_fault plan (earlier ++ complaint.row ∷ []) (number + 1) complaints)

-- ---- what is asked

abbrev pub text_of : WishCell → List (List ℕ)
text_of (Int number) = []
text_of (Text text) = text ∷ []

abbrev pub text_in : Stated → List (List ℕ)
text_in stated = text_of stated.1

-- the stated texts, in the order of the complaints and of the cells in each
abbrev pub stated_texts : List Complaint → List (List ℕ)
stated_texts complaints = flat_map (λ (c : Complaint). flat_map text_in (stated_by c.wish)) complaints

-- a text counts by its place in the list of texts
abbrev pub cell_of : List (List ℕ) → WishCell → Cell
cell_of texts (Int number) = cell.Int number
cell_of texts (Text text) = cell.Text (code_in texts text)

-- the place of the column with this name
abbrev pub place_of : List Column → List ℕ → ℕ
place_of columns name = position_or_len (is_called name) columns

abbrev pub listed_cell : List Column → List (List ℕ) → Stated → ℕ × Cell
listed_cell columns texts stated = (place_of columns stated.0, cell_of texts stated.1)

abbrev pub ask_of : List Column → List (List ℕ) → Wish → Ask
ask_of columns texts Absent = ask.Absent
ask_of columns texts (Present stated) = ask.Present (map (listed_cell columns texts) stated)

abbrev pub asks_of : List Column → List (List ℕ) → List Complaint → List (RowName × Ask)
asks_of columns texts complaints = map (λ (c : Complaint). (c.row, ask_of columns texts c.wish)) complaints

-- ---- the problem

abbrev pub with_joined : Plan → List (List ℕ) → Plan
with_joined plan others = record plan { texts = with_texts plan.texts others }

-- the problem, where the complaints have no fault: the program knows the stated texts too
abbrev pub asked_case : Plan → Table → List Complaint → DomainBox → Case
asked_case plan table complaints domains =
    let joined = with_joined plan (stated_texts complaints) in
    record { plan = joined; table = table; asks = asks_of plan.columns joined.texts complaints; domains = domains }

abbrev pub unless_fault : Option GoalFault → Case → Result Case GoalFault
unless_fault None case = Ok case
unless_fault (Some fault) case = Err fault

abbrev pub most_complaints : ℕ
most_complaints = 1000

-- the problem of the complaints, or the first refusal
abbrev pub problem_of : Plan → Table → List Complaint → DomainBox → Result Case GoalFault
problem_of plan table complaints domains =
    if nat_lt most_complaints (length complaints) then Err TooManyComplaints
    else unless_fault (first_fault plan [] 1 complaints) (asked_case plan table complaints domains)
