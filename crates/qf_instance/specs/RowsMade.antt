-- Systems of rows that were made.
use Rattle.std.specs.Prelude.{ℕ, IfSome}
use Rattle.std.specs.declared.option.Option.{Option}
use Rattle.std.specs.Ordering.{nat_cmp}
use Rattle.std.specs.BTreeMap as tree
use Rattle.std.specs.BTreeMap.{BTreeMap}
use Rattle.qf_base.specs.Values.{Bounds}
use Rattle.qf_base.specs.declared.names.RowName.{RowName}
use Rattle.qf_base.specs.declared.names.RowName.TheVariants.{Start, Inserted}
use Rattle.qf_goal.specs.Case.{Case}
use Rattle.qf_instance.specs.declared.row.RowSystem.{RowSystem}
use Rattle.qf_instance.specs.RowSystems.{IsRowSystem}
use Rattle.qf_instance.specs.declared.made.Made.{Made}

-- what stands under a number is the system of the row of that number
abbrev pub HoldsMade : Case → Bounds → (ℕ → RowName) → BTreeMap ℕ RowSystem → Type 0
HoldsMade case root name made = (number : ℕ) → IfSome (tree.get nat_cmp made number) (IsRowSystem case root (name number))

-- .. for the rows of the table and for those that the log inserts
pub record AreMade (case : Case) (root : Bounds) (m : Made) : Type 0 where
  pub starts : HoldsMade case root Start m.starts
  pub inserted : HoldsMade case root Inserted m.inserted

abbrev pub made_of : Made → RowName → Option RowSystem
made_of m (Start number) = tree.get nat_cmp m.starts number
made_of m (Inserted number) = tree.get nat_cmp m.inserted number
