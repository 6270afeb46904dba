-- What statements may name, and what a row's circuit has to do with its life.
use Rattle.std.specs.Prelude.{◌≡◌, ℕ, ◌<◌, ◌≤◌, ◌≤ℤ◌, pos, List, [], ◌∷◌, length, slice_index_or, ℤ}
use Rattle.std.specs.declared.option.Option.{Option}
use Rattle.std.specs.declared.option.Option.TheVariants.{Some, None}
use Rattle.qf_base.specs.Values.{Bounds, interval_at, value_of_var}
use Rattle.qf_ir.specs.declared.cell.Outcome.{Outcome}
use Rattle.qf_ir.specs.declared.cell.Outcome.TheVariants.{Gone, There}
use Rattle.qf_circuit.specs.Circuits.{truth, eval}
use Rattle.qf_ir.specs.declared.ast.Atom.{Atom}
use Rattle.qf_ir.specs.declared.ast.Atom.TheVariants.{Column, Param}
use Rattle.qf_ir.specs.declared.ast.Term.{Term}
use Rattle.qf_ir.specs.declared.ast.Expr.{Expr}
use Rattle.qf_ir.specs.declared.ast.Expr.TheVariants.{Sum, Word}
use Rattle.qf_ir.specs.declared.ast.Cond.{Cond, Row_of-Cond, end_of-Cond, more_of-Cond}
use Rattle.qf_ir.specs.declared.ast.Cond.TheVariants.{Compare, Between, Within, All', Any', Not'}
use Rattle.qf_ir.specs.declared.ast.Statement.{Statement}
use Rattle.qf_ir.specs.declared.ast.Statement.TheVariants.{Update, Delete, Insert}
use Rattle.qf_ir.specs.Value.{Cells, number_of, cell_at}
use Rattle.qf_ir.specs.Life.{Moment, Birth, last_moment, first_moment, birth}
use Rattle.qf_ir.specs.Replay.{place_of}
use Rattle.qf_ir.specs.Typed.{Scope, IsItem, StatementsTyped}
use Rattle.qf_base.specs.declared.names.RowName.{RowName}
use Rattle.qf_encode.specs.declared.coded.Coded.{Coded}
use Rattle.qf_encode.specs.Coding.{coded, start_coding, circuit_of}

-- ---- columns that are named exist

abbrev pub AtomIn : ℕ → Atom → Type 0
AtomIn width (Column c) = c < width
AtomIn width (Param k) = Unit {0}

abbrev pub TermsIn : ℕ → List Term → Type 0
TermsIn width [] = Unit {0}
TermsIn width (t ∷ ts) = AtomIn width t.atom × TermsIn width ts

abbrev pub ExprIn : ℕ → Expr → Type 0
ExprIn width (Sum terms) = TermsIn width terms
ExprIn width (Word code) = Unit {0}

abbrev pub ExprsIn : ℕ → List Expr → Type 0
ExprsIn width [] = Unit {0}
ExprsIn width (e ∷ es) = ExprIn width e × ExprsIn width es

abbrev mutual
  pub CondIn : ℕ → Cond → Type 0
  CondIn width (Compare op left right) = ExprIn width left × ExprIn width right
  CondIn width (Between x low high) = ExprIn width x × (ExprIn width low × ExprIn width high)
  CondIn width (Within x items) = ExprIn width x × ExprsIn width items
  CondIn width (All' shape parts) = CondsIn width parts
  CondIn width (Any' shape parts) = CondsIn width parts
  CondIn width (Not' shape part) = OneIn width part

  pub CondsIn : ℕ → {m : _} → Row_of-Cond m → Type 0
  CondsIn width end_of-Cond = Unit {0}
  CondsIn width (more_of-Cond part rest) = CondIn width part × CondsIn width rest

  pub OneIn : ℕ → {m : _} → Row_of-Cond m → Type 0
  OneIn width end_of-Cond = Unit {0}
  OneIn width (more_of-Cond part rest) = CondIn width part

abbrev pub FilterIn : ℕ → Option Cond → Type 0
FilterIn width None = Unit {0}
FilterIn width (Some filter) = CondIn width filter

abbrev pub SetsIn : ℕ → List (ℕ × Expr) → Type 0
SetsIn width [] = Unit {0}
SetsIn width (s ∷ sets) = (s.0 < width) × (ExprIn width s.1 × SetsIn width sets)

-- a column's item of an inserted row is there, one parameter or a text
abbrev pub FilledBy : ℕ → List ℕ → List Expr → Type 0
FilledBy width columns tuple =
    (column : ℕ) → column < width → IsItem (slice_index_or tuple (place_of columns column) (Word 0))

abbrev pub TuplesIn : ℕ → List ℕ → List (List Expr) → Type 0
TuplesIn width columns [] = Unit {0}
TuplesIn width columns (tuple ∷ tuples) = FilledBy width columns tuple × TuplesIn width columns tuples

abbrev pub StatementIn : ℕ → Statement → Type 0
StatementIn width (Update sets filter) = SetsIn width sets × FilterIn width filter
StatementIn width (Delete filter) = FilterIn width filter
StatementIn width (Insert columns tuples) = TuplesIn width columns tuples

abbrev pub StatementsIn : ℕ → List Statement → Type 0
StatementsIn width [] = Unit {0}
StatementsIn width (s ∷ statements) = StatementIn width s × StatementsIn width statements

-- ---- the circuit and the life of a row

-- at the point, the definitions of a row's columns and of its life have the numbers of this moment
pub record CodesMoment (point : List ℤ) (c : Coded) (m : Moment) : Type 0 where
  pub same_length : length c.columns ≡ length m.cells
  pub cells : (column : ℕ) → column < length m.cells → value_of_var (eval point c.circuit) (slice_index_or c.columns column 0) ≡ number_of (cell_at m.cells column)
  pub live : value_of_var (eval point c.circuit) c.live ≡ truth m.live

-- the circuit of a row of the table ends with the row's last cells, and with whether it lives
abbrev pub CircuitsFollowLives : Type 0
CircuitsFollowLives =
    (point : List ℤ) (cells : Cells) (statements : List Statement) → StatementsIn (length cells) statements → CodesMoment point (coded statements (start_coding cells)) (last_moment point statements (first_moment cells))

-- the rows of a table have one cell for each column
abbrev pub RowsIn : ℕ → List Cells → Type 0
RowsIn width [] = Unit {0}
RowsIn width (cells ∷ table) = (length cells ≡ width) × RowsIn width table

-- where a row is born there is a circuit, and it ends with the row's last moment
abbrev pub CodesBirth : List ℤ → Option Coded → Option Birth → Type 0
CodesBirth point None None = Unit {0}
CodesBirth point None (Some b) = ⊥
CodesBirth point (Some c) None = ⊥
CodesBirth point (Some c) (Some b) = CodesMoment point c (last_moment point b.rest b.first)

-- .. for every row, of the table or inserted by the log
abbrev pub CircuitsFollowBirths : Type 0
CircuitsFollowBirths =
    (point : List ℤ) (width : ℕ) (table : List Cells) (statements : List Statement) (name : RowName) → RowsIn width table → StatementsIn width statements → CodesBirth point (circuit_of width table statements name) (birth width table statements name point)

-- what a well typed log may name
abbrev pub TypedNamesExist : Type 0
TypedNamesExist =
    (scope : Scope) (statements : List Statement) → StatementsTyped scope statements → StatementsIn (length scope.kinds) statements

-- the columns' definitions and that of the life are there
pub record NamesDefinitions (width : ℕ) (c : Coded) : Type 0 where
  pub columns : length c.columns ≡ width
  pub each : (column : ℕ) → column < width → (0 < slice_index_or c.columns column 0) × (slice_index_or c.columns column 0 ≤ length c.circuit)
  pub live : (0 < c.live) × (c.live ≤ length c.circuit)

-- at the point, the definition of the life is 1 exactly where the row is there at the end, with these cells
abbrev pub CodesOutcome : List ℤ → Coded → Outcome → Type 0
CodesOutcome point c Gone = value_of_var (eval point c.circuit) c.live ≡ pos 0
CodesOutcome point c (There cells) =
    (value_of_var (eval point c.circuit) c.live ≡ pos 1) × ((length c.columns ≡ length cells) × ((column : ℕ) → column < length cells → value_of_var (eval point c.circuit) (slice_index_or c.columns column 0) ≡ number_of (cell_at cells column)))

-- a box within the domains, none of whose intervals is empty
pub record BoxIn (region domains : Bounds) : Type 0 where
  pub same_length : length region ≡ length domains
  pub each : (place : ℕ) → place < length domains → ((interval_at domains place).0 ≤ℤ (interval_at region place).0) × (((interval_at region place).0 ≤ℤ (interval_at region place).1) × ((interval_at region place).1 ≤ℤ (interval_at domains place).1))
