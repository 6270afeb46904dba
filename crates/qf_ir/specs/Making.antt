-- What is made of a log's statements on the way to a program.
use Rattle.std.specs.Prelude.{◌≡◌, ℕ, List, length, map}
use Rattle.std.specs.declared.option.Option.TheVariants.{None}
use Rattle.qf_ir.specs.declared.ast.Statement.{Statement}
use Rattle.qf_ir.specs.declared.table.Table.{Table}
use Rattle.qf_ir.specs.declared.making.parts.Coded.{Coded}
use Rattle.qf_ir.specs.declared.making.parts.Parts.{Parts}
use Rattle.qf_ir.specs.Tables.{kinds_of}
use Rattle.qf_ir.specs.Replay.{inserted_count}
use Rattle.qf_ir.specs.Numbered.{numbered_statement, numbering_of, joint_texts}
use Rattle.qf_ir.specs.Checked.{fault_from}

-- a log's statements with the program's columns and codes
abbrev pub numbered_log : Table → List (List ℕ) → List (List ℕ) → List Statement → List Statement
numbered_log table names texts statements = map (numbered_statement (numbering_of table names texts)) statements

-- the statements have no fault
abbrev pub IsFaultless : Table → List Statement → Type 0
IsFaultless table statements = fault_from (kinds_of table.columns) 1 0 (length table.rows) statements ≡ None

-- the joint list of texts, and the statements with their codes
pub record AreCodedTexts (table : Table) (names texts : List (List ℕ)) (statements : List Statement) (coded : Coded) : Type 0 where
  pub joint : coded.texts ≡ joint_texts table texts
  pub made : coded.statements ≡ numbered_log table names texts statements

-- all of the program but for its constants
pub record AreParts (table : Table) (names texts : List (List ℕ)) (statements : List Statement) (parts : Parts) : Type 0 where
  pub columns : parts.columns ≡ table.columns
  pub joint : parts.texts ≡ joint_texts table texts
  pub made : parts.statements ≡ numbered_log table names texts statements
  pub inserted : parts.inserted ≡ inserted_count parts.statements
  pub sound : IsFaultless table (numbered_log table names texts statements)
