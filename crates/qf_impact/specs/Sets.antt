-- Lists of sets of columns, one for each of some parameters.
use Rattle.std.specs.Prelude.{◌≡◌, ℕ, ◌<◌, ◌≤◌, Bool, false, ◌&&◌, nat_lt, List, length, slice_index_or}
use Rattle.std.specs.List.{AllByRecursion}
use Rattle.qf_ir.specs.declared.ast.Atom.{Atom}
use Rattle.qf_ir.specs.declared.ast.Atom.TheVariants.{Column, Param}
use Rattle.qf_ir.specs.declared.ast.Expr.{Expr}
use Rattle.qf_ir.specs.declared.ast.Statement.{Statement}
use Rattle.qf_ir.specs.declared.ast.Statement.TheVariants.{Update, Delete, Insert}
use Rattle.qf_ir.specs.declared.column_set.ColumnSet.{ColumnSet}
use Rattle.qf_ir.specs.ColumnSets.{has}
use Rattle.qf_ir.specs.Flow.{Place, Live, At, same_place}
use Rattle.qf_impact.specs.Steps.{is_inserted}

abbrev pub no_columns : ColumnSet
no_columns = record { columns = 0; live = false }

-- the set at a place
abbrev pub set_at : List ColumnSet → ℕ → ColumnSet
set_at sets i = slice_index_or sets i no_columns

-- each set has become what the test says of it
pub record Changed (becomes : ℕ → (Place → Bool) → Place → Bool) (old new : List ColumnSet) : Type 0 where
  pub len : length new ≡ length old
  pub each : (i : ℕ) → i < length old → (place : Place) → has (set_at new i) place ≡ becomes i (has (set_at old i)) place

-- .. below a place, and the others are as they were
pub record ChangedBelow (becomes : ℕ → (Place → Bool) → Place → Bool) (old new : List ColumnSet) (n : ℕ) : Type 0 where
  pub len : length new ≡ length old
  pub below : (i : ℕ) → i < n → (place : Place) → has (set_at new i) place ≡ becomes i (has (set_at old i)) place
  pub above : (i : ℕ) → n ≤ i → set_at new i ≡ set_at old i

-- the atom names the place, among the first 32 columns
abbrev pub names : Place → Atom → Bool
names place (Column c) = nat_lt c 32 && same_place place (At c)
names place (Param k) = false

-- nothing is in any of the sets
abbrev pub AreEmpty : List ColumnSet → Type 0
AreEmpty sets = (i : ℕ) (place : Place) → has (set_at sets i) place ≡ false

-- a place among the first columns
abbrev pub is_below : ℕ → Place → Bool
is_below n Live = false
is_below n (At c) = nat_lt c n

-- a statement sets none but the first 32 columns
abbrev pub IsWithin : Statement → Type 0
IsWithin (Update sets where_) = AllByRecursion (λ (s : ℕ × Expr). s.0 < 32) sets
IsWithin (Delete where_) = Unit {0}
IsWithin (Insert columns tuples) = (k c : ℕ) → 32 ≤ c → is_inserted k columns tuples (At c) ≡ false
