-- The parts that the code makes are the plan's, which is sound.
use Rattle.std.proofs.Common.{◌≡◌, ◌∙◌, ◌<◌, ◌^◌, ap, sym, subst, ℕ, ℤ, List, length, Ok}
use Rattle.std.specs.List.{AllByRecursion}
use Rattle.qf_ir.specs.declared.ast.Statement.{Statement}
use Rattle.qf_ir.specs.declared.table.Table.{Table}
use Rattle.qf_ir.specs.declared.making.parts.Parts.{Parts}
use Rattle.qf_ir.specs.Fits.{Small}
use Rattle.qf_ir.specs.Tables.{IsSoundTable}
use Rattle.qf_ir.specs.Made.{AreMade, AreCoded, AreInOrder}
use Rattle.qf_ir.specs.Checked.{program_of}
use Rattle.qf_ir.specs.Making.{numbered_log, IsFaultless, AreParts}
use Rattle.qf_ir.specs.Plan.{Plan, IsSound, Belongs}
use Rattle.qf_ir.proofs.Soundness.{plan-is, few-joint, sound-plan, belongs-plan, gives-plan}

-- the program of parts and constants
abbrev pub with_constants : Parts → List ℤ → ℕ → Plan
with_constants parts olds starts =
    record { columns = parts.columns; statements = parts.statements; olds = olds; texts = parts.texts; starts = starts; inserted = parts.inserted }

-- what is shown of the program
pub record Made (table : Table) (names texts : List (List ℕ)) (statements : List Statement) (olds : List ℤ) (plan : Plan) : Type 0 where
  pub gives : program_of table names texts statements olds ≡ Ok plan
  pub sound : IsSound plan
  pub belongs : Belongs plan table
  pub few_texts : length plan.texts < 2 ^ 31

module _ (table : Table) (names texts : List (List ℕ)) (statements : List Statement) (olds : List ℤ) where
  pub made-of : (given_names : List (List ℕ)) (given : List Statement) (parts : Parts) (starts : ℕ) → given_names ≡ names → given ≡ statements
      → AreParts table given_names texts given parts → starts ≡ length table.rows
      → IsSoundTable table → length texts < 2 ^ 30 → AreCoded statements (length texts) → AreInOrder statements (length olds)
      → AreMade statements → AllByRecursion Small olds → Made table names texts statements olds (with_constants parts olds starts)
  made-of given_names given parts starts is_names is_given are is_starts sound few coded order made small =
      let same : numbered_log table given_names texts given ≡ numbered_log table names texts statements =
      ap (λ (ns : List (List ℕ)). numbered_log table ns texts given) is_names ∙ ap (numbered_log table names texts) is_given in
      let whole = plan-is table names texts statements olds parts.columns parts.statements parts.texts starts parts.inserted
      are.columns (are.made ∙ same) are.joint is_starts are.inserted in
      let none = subst (IsFaultless table) same are.sound in
      subst (Made table names texts statements olds) (sym whole) record {
        gives = gives-plan table names texts statements olds none;
        sound = sound-plan table names texts statements olds sound few coded order made small none;
        belongs = belongs-plan table names texts statements olds sound;
        few_texts = few-joint table names texts statements olds sound few;
      }
