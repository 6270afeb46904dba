-- The parameters that are needed from some seeds.
use Rattle.std.specs.Prelude.{◌≡◌, ℕ, ◌+◌, ◌-◌, ◌<◌, ◌≤◌, Bool, true, false, List, [], ◌∷◌, length, slice_index_or}
use Rattle.std.specs.Bool.{Decides}
use Rattle.std.specs.List.{list_any}
use Rattle.std.specs.FinSet as set
use Rattle.std.specs.Ordering.{nat_cmp}
use Rattle.qf_ir.specs.declared.ast.Statement.{Statement}
use Rattle.qf_ir.specs.declared.column_set.ColumnSet.{ColumnSet}
use Rattle.qf_ir.specs.ColumnSets.{has}
use Rattle.qf_ir.specs.Flow.{Place, same_place, Needed}
use Rattle.qf_impact.specs.Sets.{set_at}

-- the set has exactly these places
abbrev pub AreSeeds : ColumnSet → List Place → Type 0
AreSeeds seeds places = (place : Place) → has seeds place ≡ list_any (same_place place) places

abbrev pub mark_at : List Bool → ℕ → Bool
mark_at marks place = slice_index_or marks place false

-- the marks, of which parameter k has that at place k - 1, say which parameters are needed
abbrev pub AreNeeded : List Statement → List Place → List Bool → Type 0
AreNeeded statements seeds marks = (k : ℕ) → 1 ≤ k → k ≤ length marks → Decides (mark_at marks (k - 1)) (Needed statements seeds k)

-- the set has exactly the needed parameters
abbrev pub IsNeededSet : List Statement → List Place → set.FinSet nat_cmp → Type 0
IsNeededSet statements seeds params = (k : ℕ) → Decides (set.contains params k) (Needed statements seeds k)

-- a set that is not marked and has something in common with the joined one
pub record IsNext (reaches : List ColumnSet) (marks : List Bool) (joined : ColumnSet) (i : ℕ) : Type 0 where
  pub within : i < length reaches
  pub unmarked : mark_at marks i ≡ false
  pub place : Place
  pub reached : has (set_at reaches i) place ≡ true
  pub there : has joined place ≡ true

-- no such set stands from low up to high
abbrev pub AreSettled : List ColumnSet → List Bool → ColumnSet → ℕ → ℕ → Type 0
AreSettled reaches marks joined low high =
    (i : ℕ) → low ≤ i → i < high → mark_at marks i ≡ false → (place : Place) → has (set_at reaches i) place ≡ true → has joined place ≡ true → ⊥

-- the numbers of the marked places, which count from this number on
abbrev pub marked_from : ℕ → List Bool → List ℕ
marked_from n [] = []
marked_from n (true ∷ marks) = n ∷ marked_from (n + 1) marks
marked_from n (false ∷ marks) = marked_from (n + 1) marks
