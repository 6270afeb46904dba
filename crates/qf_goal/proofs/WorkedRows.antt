-- Worked examples, computed on the definitions.
use Rattle.std.specs.Prelude.{◌≡◌, ℕ, pos, ℤ, true, false, List, [], ◌∷◌}
use Rattle.std.specs.declared.option.Option.TheVariants.{Some, None}
use Rattle.std.proofs.Common.{refl}
use Rattle.qf_base.specs.declared.names.RowName.TheVariants.{Start, Inserted}
use Rattle.qf_ir.specs.declared.ast.Atom.TheVariants.{Column, Param}
use Rattle.qf_ir.specs.declared.ast.Term.{Term}
use Rattle.qf_ir.specs.declared.ast.Expr.TheVariants.{Sum, Word}
use Rattle.qf_ir.specs.declared.ast.Op.TheVariants.{Gt, Ge}
use Rattle.qf_ir.specs.declared.ast.Cond.TheVariants.{Compare}
use Rattle.qf_ir.specs.declared.ast.Statement.{Statement}
use Rattle.qf_ir.specs.declared.ast.Statement.TheVariants.{Update, Delete, Insert}
use Rattle.qf_ir.specs.declared.cell.Cell.{Cell}
use Rattle.qf_ir.specs.declared.cell.Cell.TheVariants as cell
use Rattle.qf_ir.specs.declared.cell.Goal.TheVariants.{There}
use Rattle.qf_ir.specs.declared.table.Column.{Column as TableColumn}
use Rattle.qf_ir.specs.declared.table.ColumnKind.TheVariants as kind
use Rattle.qf_ir.specs.Plan.{Plan}
use Rattle.qf_ir.specs.Flow.{Live, At}
use Rattle.qf_forms.specs.declared.complaint.WishCell.TheVariants.{Int, Text}
use Rattle.qf_forms.specs.declared.complaint.Wish.TheVariants.{Present}
use Rattle.qf_goal.specs.declared.fault.GoalFault.TheVariants.{UnknownRow, RepeatedRow, ComplaintColumn}
use Rattle.qf_goal.specs.Case.{Case, case_goals, goal_at, mends, first_failing}
use Rattle.qf_goal.specs.SeedPlaces.{case_seeds}
use Rattle.qf_goal.specs.Asked.{first_fault, asked_case}

abbrev column : ℕ → Term
column c = record { factor = pos 1; atom = Column c }

abbrev param : ℕ → Term
param k = record { factor = pos 1; atom = Param k }

abbrev number : ℕ → Cell
number n = cell.Int (pos n)

-- `a` and `b` are the names 97 and 98
abbrev number_column : ℕ → TableColumn
number_column letter = record { name = letter ∷ []; kind = kind.Int }

abbrev text_column : ℕ → TableColumn
text_column letter = record { name = letter ∷ []; kind = kind.Text }

abbrev plan_over : List TableColumn → List Statement → List ℤ → List (List ℕ) → ℕ → ℕ → Plan
plan_over columns statements olds texts starts inserted =
    record { columns = columns; statements = statements; olds = olds; texts = texts; starts = starts; inserted = inserted }

-- UPDATE t SET a = a + 5; UPDATE t SET b = a + 2, on one row of zeros, with the complaint r1 a = 6
abbrev second_constant : Case
second_constant =
    asked_case
    (plan_over (number_column 97 ∷ number_column 98 ∷ [])
    (Update ((0, Sum (column 0 ∷ param 1 ∷ [])) ∷ []) None ∷ Update ((1, Sum (column 0 ∷ param 2 ∷ [])) ∷ []) None ∷ []) (pos 5 ∷ pos 2 ∷ []) [] 1 0)
    (record { columns = number_column 97 ∷ number_column 98 ∷ []; texts = []; rows = (number 0 ∷ number 0 ∷ []) ∷ [] })
    (record { row = Start 1; wish = Present ((97 ∷ [], Int (pos 6)) ∷ []) } ∷ [])
    (record { olds = pos 5 ∷ pos 2 ∷ []; region = (pos 0, pos 10) ∷ (pos 0, pos 10) ∷ [] })

pub second_constant_goal : case_goals second_constant ≡ There (Some (number 6) ∷ Some (number 7) ∷ []) ∷ []
second_constant_goal = refl

pub second_constant_mends : mends second_constant (pos 6 ∷ pos 1 ∷ []) ≡ true
second_constant_mends = refl

pub second_constant_fails : first_failing second_constant (pos 6 ∷ pos 2 ∷ []) ≡ Some (Start 1)
second_constant_fails = refl

pub second_constant_seeds : case_seeds second_constant ≡ At 0 ∷ []
second_constant_seeds = refl

-- DELETE FROM t WHERE a > 10 on 5, 12, 30, with the complaint that r2 is to be there
abbrev delete_threshold : Case
delete_threshold =
    asked_case (plan_over (number_column 97 ∷ []) (Delete (Some (Compare Gt (Sum (column 0 ∷ [])) (Sum (param 1 ∷ [])))) ∷ []) (pos 10 ∷ []) [] 3 0)
    (record { columns = number_column 97 ∷ []; texts = []; rows = (number 5 ∷ []) ∷ (number 12 ∷ []) ∷ (number 30 ∷ []) ∷ [] })
    (record { row = Start 2; wish = Present [] } ∷ [])
    (record { olds = pos 10 ∷ []; region = (pos 0, pos 50) ∷ [] })

pub delete_goal : goal_at delete_threshold (Start 2) ≡ There (None ∷ [])
delete_goal = refl

pub delete_mends : mends delete_threshold (pos 12 ∷ []) ≡ true
delete_mends = refl

-- 30 must stay gone, and complained rows are tried first
pub delete_fails : first_failing delete_threshold (pos 30 ∷ []) ≡ Some (Start 3)
delete_fails = refl

pub delete_seeds : case_seeds delete_threshold ≡ Live ∷ []
delete_seeds = refl

-- INSERT INTO t VALUES (4, 'it''s'), with the complaint i1 a = 5
abbrev inserted_row : Case
inserted_row =
    asked_case (plan_over (number_column 97 ∷ text_column 98 ∷ []) (Insert [] ((Sum (param 1 ∷ []) ∷ Word 0 ∷ []) ∷ []) ∷ []) (pos 4 ∷ []) ((105 ∷ 116 ∷ 39 ∷ 115 ∷ []) ∷ []) 0 1)
    (record { columns = number_column 97 ∷ text_column 98 ∷ []; texts = []; rows = [] })
    (record { row = Inserted 1; wish = Present ((97 ∷ [], Int (pos 5)) ∷ []) } ∷ [])
    (record { olds = pos 4 ∷ []; region = (pos 0, pos 9) ∷ [] })

pub inserted_goal : case_goals inserted_row ≡ There (Some (number 5) ∷ Some (cell.Text 0) ∷ []) ∷ []
inserted_goal = refl

pub inserted_mends : mends inserted_row (pos 5 ∷ []) ≡ true
inserted_mends = refl

-- UPDATE t SET b = 'y' WHERE a >= 5 on 1,x, with the complaint r1 b = 'z', a text that occurs nowhere else
abbrev text_case : ℕ → Case
text_case letter =
    asked_case (plan_over (number_column 97 ∷ text_column 98 ∷ []) (Update ((1, Word 1) ∷ []) (Some (Compare Ge (Sum (column 0 ∷ [])) (Sum (param 1 ∷ [])))) ∷ []) (pos 5 ∷ [])
    ((120 ∷ []) ∷ (121 ∷ []) ∷ []) 1 0)
    (record { columns = number_column 97 ∷ text_column 98 ∷ []; texts = (120 ∷ []) ∷ []; rows = (number 1 ∷ cell.Text 0 ∷ []) ∷ [] })
    (record { row = Start 1; wish = Present ((98 ∷ [], Text (letter ∷ [])) ∷ []) } ∷ [])
    (record { olds = pos 5 ∷ []; region = (pos 0, pos 9) ∷ [] })

pub text_goal : case_goals (text_case 121) ≡ There (Some (number 1) ∷ Some (cell.Text 1) ∷ []) ∷ []
text_goal = refl

pub text_mends : mends (text_case 121) (pos 1 ∷ []) ≡ true
text_mends = refl

pub new_text_goal : case_goals (text_case 122) ≡ There (Some (number 1) ∷ Some (cell.Text 2) ∷ []) ∷ []
new_text_goal = refl

pub new_text_fails : mends (text_case 122) (pos 1 ∷ []) ≡ false
new_text_fails = refl

-- refusals
pub unknown_row : first_fault second_constant.plan [] 1 (record { row = Start 9; wish = Present [] } ∷ []) ≡ Some (UnknownRow 1)
unknown_row = refl

pub unknown_complaint_column : first_fault second_constant.plan [] 1 (record { row = Start 1; wish = Present ((122 ∷ [], Int (pos 1)) ∷ []) } ∷ []) ≡ Some (ComplaintColumn 1)
unknown_complaint_column = refl

-- an unknown column comes before a value of the other type
pub column_before_type : first_fault second_constant.plan [] 1 (record { row = Start 1; wish = Present ((97 ∷ [], Text []) ∷ (122 ∷ [], Int (pos 1)) ∷ []) } ∷ []) ≡ Some (ComplaintColumn 1)
column_before_type = refl

pub repeated_row : first_fault second_constant.plan [] 1 (record { row = Start 1; wish = Present [] } ∷ record { row = Start 1; wish = Present ((97 ∷ [], Text []) ∷ []) } ∷ []) ≡ Some (RepeatedRow 2)
repeated_row = refl
