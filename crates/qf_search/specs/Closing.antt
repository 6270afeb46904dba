-- An inequality of one variable that cannot hold within bounds.
use Rattle.std.specs.Prelude.{◌≡◌, ℕ, ◌+◌, ◌*◌, ◌<◌, ◌≤◌, pos, Bool, false, int_lt, List, [], length, slice_index_or, is_some}
use Rattle.std.specs.List.{count_by}
use Rattle.qf_base.specs.Values.{Bounds}
use Rattle.qf_lin.specs.declared.inequality.Inequality.{Inequality}
use Rattle.qf_lin.specs.Inequalities.{greatest}
use Rattle.qf_ir.specs.declared.cell.Goal.{Goal}
use Rattle.qf_ir.specs.declared.cell.Goal.TheVariants.{Gone, There}

-- the greatest value of the sum is too small
abbrev pub is_violated : Bounds → Inequality → Bool
is_violated bounds row = int_lt (greatest row.terms bounds) row.least

abbrev pub no_row : Inequality
no_row = record { terms = []; least = pos 0 }

abbrev pub row_at : List Inequality → ℕ → Inequality
row_at rows place = slice_index_or rows place no_row

-- from a place on each inequality has one variable
abbrev pub AreSingle : ℕ → List Inequality → Type 0
AreSingle first rows = (place : ℕ) → first ≤ place → place < length rows → length (row_at rows place).terms ≡ 1

-- from a place on none is violated
abbrev pub NoneViolated : ℕ → List Inequality → Bounds → Type 0
NoneViolated first rows bounds = (place : ℕ) → first ≤ place → place < length rows → is_violated bounds (row_at rows place) ≡ false

-- how many inequalities say a goal: one that the row is there or gone, and two for each stated cell
abbrev pub goal_size : Goal → ℕ
goal_size Gone = 1
goal_size (There wanted) = 1 + 2 * count_by is_some wanted
