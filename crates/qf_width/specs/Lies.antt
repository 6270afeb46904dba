-- Where the cells of rows lie: each in the interval of its column.
use Rattle.std.specs.Prelude.{ℕ, ◌-◌, List, [], ◌∷◌, length, drop}
use Rattle.std.specs.declared.option.Option.{Option}
use Rattle.std.specs.declared.option.Option.TheVariants.{Some, None}
use Rattle.qf_base.specs.declared.names.RowName.{RowName}
use Rattle.qf_base.specs.Values.{Bounds, interval_at, IsIn, In}
use Rattle.qf_ir.specs.declared.cell.Outcome.{Outcome}
use Rattle.qf_ir.specs.declared.cell.Outcome.TheVariants.{Gone, There}
use Rattle.qf_ir.specs.declared.ast.Statement.{Statement}
use Rattle.qf_ir.specs.declared.table.Table.{Table}
use Rattle.qf_ir.specs.Value.{Cells, Values, number_of, cell_at}
use Rattle.qf_ir.specs.Life.{Moment, life, Birth, birth}
use Rattle.qf_ir.specs.Width.{start_widths, widths_after}
use Rattle.qf_ir.specs.Plan.{Plan, RowsAre, RowExists, final_outcome}

abbrev pub CellsLie : Cells → Bounds → Type 0
CellsLie cells widths = (column : ℕ) → IsIn (number_of (cell_at cells column)) (interval_at widths column)

-- the widths before the first statement, and after each one
abbrev pub widths_along : List Statement → Bounds → Bounds → List Bounds
widths_along [] domains widths = widths ∷ []
widths_along (s ∷ statements) domains widths = widths ∷ widths_along statements domains (widths_after s domains widths)

-- moment by moment
abbrev pub MomentsLie : List Moment → List Bounds → Type 0
MomentsLie [] [] = Unit {0}
MomentsLie [] (w ∷ widths) = ⊥
MomentsLie (m ∷ moments) [] = ⊥
MomentsLie (m ∷ moments) (w ∷ widths) = CellsLie m.cells w × MomentsLie moments widths

-- a life ends with the log: it has the last of these widths, as many as it has moments
abbrev pub LifeLies : Values → List Statement → List Bounds → Option Birth → Type 0
LifeLies point statements widths None = Unit {0}
LifeLies point statements widths (Some b) = MomentsLie (life point b.rest b.first) (drop (length statements - length b.rest) widths)

-- At each point of the domains, and at each statement, the cells of each row's life lie in the widths at that statement.
abbrev pub LivesLieInWidths : Type 0
LivesLieInWidths =
    (width : ℕ) (table : List Cells) (statements : List Statement) (domains : Bounds) (point : Values) (row : RowName)
    → RowsAre width table → In domains point
    → LifeLies point statements (widths_along statements domains (start_widths 0 width table)) (birth width table statements row point)

abbrev pub OutcomeLies : Outcome → Bounds → Type 0
OutcomeLies Gone widths = Unit {0}
OutcomeLies (There cells) widths = CellsLie cells widths

-- at each point of the domains the final cells of each row lie in these widths
abbrev pub EndsLie : Plan → Table → Bounds → Bounds → Type 0
EndsLie plan table domains widths =
    (point : Values) (row : RowName) → In domains point → RowExists plan row → OutcomeLies (final_outcome plan table row point) widths
