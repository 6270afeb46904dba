-- The first fault of a log's statements over a table, and the program that they make.
use Rattle.std.specs.Prelude.{◌≡◌, ℕ, ◌+◌, ◌==◌, Bool, true, false, not, ◌&&◌, ◌||◌, nat_lt, ℤ, pos, List, [], ◌∷◌, length, map, slice_get, if◌then◌else◌, Result, Ok, Err}
use Rattle.std.specs.declared.option.Option.{Option}
use Rattle.std.specs.declared.option.Option.TheVariants.{Some, None}
use Rattle.std.specs.Ordering.{int_eq}
use Rattle.std.specs.List.{list_all, list_any, range_with_len}
use Rattle.qf_ir.specs.declared.ast.Atom.{Atom}
use Rattle.qf_ir.specs.declared.ast.Atom.TheVariants.{Column, Param}
use Rattle.qf_ir.specs.declared.ast.Term.{Term}
use Rattle.qf_ir.specs.declared.ast.Expr.{Expr}
use Rattle.qf_ir.specs.declared.ast.Expr.TheVariants.{Sum, Word}
use Rattle.qf_ir.specs.declared.ast.Op.{Op}
use Rattle.qf_ir.specs.declared.ast.Op.TheVariants.{Eq, Ne, Lt, Le, Gt, Ge}
use Rattle.qf_ir.specs.declared.ast.Cond.{Cond}
use Rattle.qf_ir.specs.declared.ast.Cond.TheVariants.{Compare, Between, Within, All', Any', Not'}
use Rattle.qf_ir.specs.declared.ast.Statement.{Statement}
use Rattle.qf_ir.specs.declared.ast.Statement.TheVariants.{Update, Delete, Insert}
use Rattle.qf_ir.specs.declared.table.ColumnKind.{ColumnKind}
use Rattle.qf_ir.specs.declared.table.ColumnKind.TheVariants as kind
use Rattle.qf_ir.specs.declared.table.Table.{Table}
use Rattle.qf_ir.specs.declared.fault.IrFault.{IrFault}
use Rattle.qf_ir.specs.declared.fault.IrFault.TheVariants as fault
use Rattle.qf_ir.specs.Replay.{inserted_count}
use Rattle.qf_ir.specs.Parts.{terms_of, exprs_in, statement_tests, statement_params, targets_of, exprs_of, comparisons_of}
use Rattle.qf_ir.specs.Numbered.{numbered_statement, numbering_of, joint_texts}
use Rattle.qf_ir.specs.Tables.{kinds_of}
use Rattle.qf_ir.specs.Plan.{Plan}

-- ---- names: a column is known where its number is below the number of columns

abbrev pub is_known : ℕ → Atom → Bool
is_known width (Column c) = nat_lt c width
is_known width (Param k) = true

abbrev pub names_known : ℕ → Expr → Bool
names_known width e = list_all (λ (t : Term). is_known width t.atom) (terms_of e)

abbrev pub is_column : ℕ → ℕ → Bool
is_column width c = nat_lt c width

-- each name of the statement is a column of the table
abbrev pub knows_names : ℕ → Statement → Bool
knows_names width s = list_all (is_column width) (targets_of s) && list_all (names_known width) (exprs_of s)

-- ---- types

abbrev pub is_int_kind : Option ColumnKind → Bool
is_int_kind None = false
is_int_kind (Some kind.Int) = true
is_int_kind (Some kind.Text) = false

abbrev pub is_text_kind : Option ColumnKind → Bool
is_text_kind None = false
is_text_kind (Some kind.Int) = false
is_text_kind (Some kind.Text) = true

abbrev pub is_number : List ColumnKind → Atom → Bool
is_number kinds (Column c) = is_int_kind (slice_get kinds c)
is_number kinds (Param k) = true

abbrev pub is_text_column : List ColumnKind → Atom → Bool
is_text_column kinds (Column c) = is_text_kind (slice_get kinds c)
is_text_column kinds (Param k) = false

-- a sum of numbers
abbrev pub is_int : List ColumnKind → Expr → Bool
is_int kinds (Sum terms) = list_all (λ (t : Term). is_number kinds t.atom) terms
is_int kinds (Word code) = false

-- a string, or one text column alone with factor 1
abbrev pub is_text : List ColumnKind → Expr → Bool
is_text kinds (Word code) = true
is_text kinds (Sum []) = false
is_text kinds (Sum (t ∷ [])) = int_eq t.factor (pos 1) && is_text_column kinds t.atom
is_text kinds (Sum (t ∷ u ∷ ts)) = false

-- the expression goes into a column of this kind
abbrev pub goes_into : List ColumnKind → Option ColumnKind → Expr → Bool
goes_into kinds None e = false
goes_into kinds (Some kind.Int) e = is_int kinds e
goes_into kinds (Some kind.Text) e = is_text kinds e

abbrev pub is_equality : Op → Bool
is_equality Eq = true
is_equality Ne = true
is_equality Lt = false
is_equality Le = false
is_equality Gt = false
is_equality Ge = false

-- texts meet in =, <> and IN
abbrev pub takes_texts : Cond → Bool
takes_texts (Compare op l r) = is_equality op
takes_texts (Between x lo hi) = false
takes_texts (Within x items) = true
takes_texts (All' shape parts) = false
takes_texts (Any' shape parts) = false
takes_texts (Not' shape part) = false

-- ints meet ints, or texts meet texts where they may
abbrev pub test_agrees : List ColumnKind → Cond → Bool
test_agrees kinds test =
    list_all (is_int kinds) (exprs_in test) || (takes_texts test && list_all (is_text kinds) (exprs_in test))

abbrev pub set_agrees : List ColumnKind → ℕ × Expr → Bool
set_agrees kinds s = goes_into kinds (slice_get kinds s.0) s.1

-- the columns of INSERT: its list, or all in order where it has none
abbrev pub listed : ℕ → List ℕ → List ℕ
listed width [] = range_with_len 0 width
listed width (c ∷ cs) = c ∷ cs

-- each item goes into its column, where both are there
abbrev pub tuple_agrees : List ColumnKind → List ℕ → List Expr → Bool
tuple_agrees kinds [] items = true
tuple_agrees kinds (c ∷ cs) [] = true
tuple_agrees kinds (c ∷ cs) (item ∷ items) = set_agrees kinds (c, item) && tuple_agrees kinds cs items

abbrev pub values_agree : List ColumnKind → Statement → Bool
values_agree kinds (Update sets where_) = list_all (set_agrees kinds) sets
values_agree kinds (Delete where_) = true
values_agree kinds (Insert columns tuples) = list_all (tuple_agrees kinds (listed (length kinds) columns)) tuples

abbrev pub types_agree : List ColumnKind → Statement → Bool
types_agree kinds s = values_agree kinds s && list_all (test_agrees kinds) (statement_tests s)

-- ---- columns that are set or listed

abbrev pub is_among : List ℕ → ℕ → Bool
is_among columns c = list_any (λ d. c == d) columns

-- a column stands there twice
abbrev pub repeats : List ℕ → Bool
repeats [] = false
repeats (c ∷ cs) = is_among cs c || repeats cs

-- INSERT leaves a column out, or a tuple has not one item for each listed column
abbrev pub leaves_out : ℕ → Statement → Bool
leaves_out width (Update sets where_) = false
leaves_out width (Delete where_) = false
leaves_out width (Insert columns tuples) =
    not (list_all (is_among (listed width columns)) (range_with_len 0 width))
    || not (list_all (λ tuple. length tuple == length (listed width columns)) tuples)

-- ---- limits

abbrev pub is_long : Expr → Bool
is_long e = nat_lt 64 (length (terms_of e))

-- the statement's number, and with it the parameters and the rows so far
abbrev pub is_too_many : ℕ → ℕ → ℕ → Statement → Bool
is_too_many number params rows s =
    nat_lt 1000 number || nat_lt 4096 params || nat_lt 200000 rows
    || list_any is_long (exprs_of s) || nat_lt 64 (comparisons_of (statement_tests s))

-- ---- the first fault

-- of one statement, with the parameters and the rows up to it
abbrev pub fault_of : List ColumnKind → ℕ → ℕ → ℕ → Statement → Option IrFault
fault_of kinds number params rows s =
    if not (knows_names (length kinds) s) then Some (fault.UnknownColumn number)
    else if not (types_agree kinds s) then Some (fault.WrongType number)
    else if repeats (targets_of s) then Some (fault.RepeatedColumn number)
    else if leaves_out (length kinds) s then Some (fault.MissingColumn number)
    else if is_too_many number params rows s then Some (fault.TooMany number)
    else None

abbrev pub rows_of : Statement → ℕ
rows_of (Update sets where_) = 0
rows_of (Delete where_) = 0
rows_of (Insert columns tuples) = length tuples

abbrev pub first_of : Option IrFault → Option IrFault → Option IrFault
first_of None others = others
first_of (Some f) others = Some f

-- of the statements from this number on, behind so many parameters and rows
abbrev pub fault_from : List ColumnKind → ℕ → ℕ → ℕ → List Statement → Option IrFault
fault_from kinds number params rows [] = None
fault_from kinds number params rows (s ∷ statements) =
    let more_params = params + length (statement_params s) in
    let more_rows = rows + rows_of s in
    first_of (fault_of kinds number more_params more_rows s) (fault_from kinds (number + 1) more_params more_rows statements)

-- ---- the program

abbrev pub plan_of : Table → List (List ℕ) → List (List ℕ) → List Statement → List ℤ → Plan
plan_of table names texts statements olds =
    let numbered = map (numbered_statement (numbering_of table names texts)) statements in
    record {
      columns = table.columns;
      statements = numbered;
      olds = olds;
      texts = joint_texts table texts;
      starts = length table.rows;
      inserted = inserted_count numbered;
    }

abbrev pub unless : Option IrFault → Plan → Result Plan IrFault
unless None plan = Ok plan
unless (Some f) plan = Err f

abbrev pub program_of : Table → List (List ℕ) → List (List ℕ) → List Statement → List ℤ → Result Plan IrFault
program_of table names texts statements olds =
    let plan = plan_of table names texts statements olds in
    unless (fault_from (kinds_of table.columns) 1 0 (length table.rows) plan.statements) plan

-- a call answers what was to be made, unless memory ran out
abbrev pub Gives : {X : Type 0} → Result X IrFault → Result X IrFault → Type 0
Gives (Ok x) made = made ≡ Ok x
Gives (Err fault.NoMemory) made = Unit {0}
Gives (Err f) made = made ≡ Err f
