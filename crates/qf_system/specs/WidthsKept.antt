-- Where no statement is too wide for some domains, every number that comes up for a row's circuit over a box of them is small.
use Rattle.std.specs.Prelude.{◌≡◌, ℕ, ◌<◌, ◌≤◌, ◌^◌, ◌≤ℤ◌, List, [], length, slice_index_or, unsigned_abs, Ok, All}
use Rattle.std.specs.declared.option.Option.{Option}
use Rattle.std.specs.declared.option.Option.TheVariants.{Some, None}
use Rattle.std.specs.List.{AllByRecursion}
use Rattle.qf_base.specs.declared.names.RowName.{RowName}
use Rattle.qf_base.specs.Values.{Interval, Bounds}
use Rattle.qf_circuit.specs.Circuits.{IsCircuit, hull_of}
use Rattle.qf_circuit.specs.Limits.{HullsFit}
use Rattle.qf_rows.specs.Limits.{EndsFit, SumFits}
use Rattle.qf_rows.specs.Systems.{IsModest}
use Rattle.qf_ir.specs.declared.ast.Term.{Term}
use Rattle.qf_ir.specs.declared.ast.Expr.{Expr}
use Rattle.qf_ir.specs.declared.ast.Expr.TheVariants.{Sum, Word}
use Rattle.qf_ir.specs.declared.ast.Cond.{Cond, Row_of-Cond, end_of-Cond, more_of-Cond}
use Rattle.qf_ir.specs.declared.ast.Cond.TheVariants.{Compare, Between, Within, All', Any', Not'}
use Rattle.qf_ir.specs.declared.ast.Statement.{Statement}
use Rattle.qf_ir.specs.declared.ast.Statement.TheVariants.{Update, Delete, Insert}
use Rattle.qf_ir.specs.Replay.{place_of}
use Rattle.qf_ir.specs.Value.{Cells, number_of}
use Rattle.qf_ir.specs.Width.{widths_of}
use Rattle.qf_encode.specs.declared.coded.Coded.{Coded}
use Rattle.qf_encode.specs.Coding.{circuit_of}
use Rattle.qf_encode.specs.Lives.{BoxIn, RowsIn, StatementsIn}

-- ---- what a log within the limits has

-- a sum has at most 64 terms, with factors within 1,000,000; a text's code is below 2^32
abbrev pub IsPlainExpr : Expr → Type 0
IsPlainExpr (Sum terms) = (length terms ≤ 64) × AllByRecursion (λ (t : Term). unsigned_abs t.factor ≤ 1000000) terms
IsPlainExpr (Word code) = code < 2 ^ 32

abbrev pub ArePlain : List Expr → Type 0
ArePlain items = AllByRecursion IsPlainExpr items

abbrev mutual
  pub IsPlainCond : Cond → Type 0
  IsPlainCond (Compare op left right) = IsPlainExpr left × IsPlainExpr right
  IsPlainCond (Between x low high) = IsPlainExpr x × (IsPlainExpr low × IsPlainExpr high)
  IsPlainCond (Within x items) = IsPlainExpr x × ArePlain items
  IsPlainCond (All' shape parts) = ArePlainConds parts
  IsPlainCond (Any' shape parts) = ArePlainConds parts
  IsPlainCond (Not' shape part) = ArePlainConds part

  pub ArePlainConds : {m : _} → Row_of-Cond m → Type 0
  ArePlainConds end_of-Cond = Unit {0}
  ArePlainConds (more_of-Cond part rest) = IsPlainCond part × ArePlainConds rest

abbrev pub IsPlainFilter : Option Cond → Type 0
IsPlainFilter None = Unit {0}
IsPlainFilter (Some filter) = IsPlainCond filter

abbrev pub ArePlainSets : List (ℕ × Expr) → Type 0
ArePlainSets sets = AllByRecursion (λ (s : ℕ × Expr). IsPlainExpr s.1) sets

-- each column's item of a tuple
abbrev pub IsPlainTuple : ℕ → List ℕ → List Expr → Type 0
IsPlainTuple width columns tuple =
    (column : ℕ) → column < width → IsPlainExpr (slice_index_or tuple (place_of columns column) (Word 0))

abbrev pub IsPlainStatement : ℕ → Statement → Type 0
IsPlainStatement width (Update sets filter) = ArePlainSets sets × IsPlainFilter filter
IsPlainStatement width (Delete filter) = IsPlainFilter filter
IsPlainStatement width (Insert columns tuples) = AllByRecursion (IsPlainTuple width columns) tuples

abbrev pub ArePlainStatements : ℕ → List Statement → Type 0
ArePlainStatements width statements = AllByRecursion (IsPlainStatement width) statements

-- the cells of a table are within 2^50 in size
abbrev pub IsPlainTable : List Cells → Type 0
IsPlainTable table = AllByRecursion (λ (cells : Cells). AllByRecursion (λ cell. unsigned_abs (number_of cell) ≤ 2 ^ 50) cells) table

-- ---- a box of the domains

-- an interval that is not empty lies in another
abbrev pub LiesIn : Interval → Interval → Type 0
LiesIn inner outer = (outer.0 ≤ℤ inner.0) × ((inner.0 ≤ℤ inner.1) × (inner.1 ≤ℤ outer.1))

abbrev pub HasSmallEnds : Interval → Type 0
HasSmallEnds interval = (unsigned_abs interval.0 ≤ 2 ^ 50) × (unsigned_abs interval.1 ≤ 2 ^ 50)

-- ---- the law

-- the numbers that come up for a row's circuit and its inequalities
pub record IsSmallCircuit (region : Bounds) (coded : Coded) : Type 0 where
  pub hulls : HullsFit region [] coded.circuit
  pub modest : IsModest region coded.circuit
  pub ends : All EndsFit (hull_of region coded.circuit)
  pub sums : All SumFits coded.circuit

abbrev pub MakesSmallCircuit : Bounds → Option Coded → Type 0
MakesSmallCircuit region None = Unit {0}
MakesSmallCircuit region (Some coded) = IsCircuit coded.circuit → IsSmallCircuit region coded

abbrev pub WidthsKeepCircuitsSmall : Type 0
WidthsKeepCircuitsSmall =
    (width : ℕ) (table : List Cells) (statements : List Statement) (name : RowName) (domains final region : Bounds) → widths_of width table statements domains ≡ Ok final → RowsIn width table → StatementsIn width statements → IsPlainTable table → ArePlainStatements width statements → BoxIn region domains → All HasSmallEnds region → MakesSmallCircuit region (circuit_of width table statements name)
