-- What one statement does to the places that a parameter has reached, as tests.
use Rattle.std.specs.Prelude.{ℕ, Bool, false, not, ◌&&◌, ◌||◌, ◌==◌, List, ◌++◌, slice_index_or}
use Rattle.std.specs.declared.option.Option.{Option}
use Rattle.std.specs.declared.option.Option.TheVariants.{Some, None}
use Rattle.std.specs.List.{list_any}
use Rattle.qf_ir.specs.declared.ast.Atom.{Atom}
use Rattle.qf_ir.specs.declared.ast.Atom.TheVariants.{Column, Param}
use Rattle.qf_ir.specs.declared.ast.Expr.{Expr}
use Rattle.qf_ir.specs.declared.ast.Expr.TheVariants.{Word}
use Rattle.qf_ir.specs.declared.ast.Cond.{Cond}
use Rattle.qf_ir.specs.declared.ast.Statement.{Statement}
use Rattle.qf_ir.specs.declared.ast.Statement.TheVariants.{Update, Delete, Insert}
use Rattle.qf_ir.specs.Replay.{place_of}
use Rattle.qf_ir.specs.Flow.{Place, Live, At, same_place}
use Rattle.qf_impact.specs.Atoms.{expr_atoms, where_atoms}

-- the atom is this parameter
abbrev pub is_param : ℕ → Atom → Bool
is_param k (Column d) = false
is_param k (Param j) = k == j

-- the atom is a column that was reached
abbrev pub is_reached : (Place → Bool) → Atom → Bool
is_reached reach (Column d) = reach (At d)
is_reached reach (Param j) = false

-- one of these atoms is the parameter, or a column that it reached
abbrev pub touches : ℕ → (Place → Bool) → List Atom → Bool
touches k reach atoms = list_any (is_reached reach) atoms || list_any (is_param k) atoms

-- the assignment sets the place
abbrev pub sets_place : Place → ℕ × Expr → Bool
sets_place place s = same_place place (At s.0)

-- .. from what the parameter touches, in the new value or in WHERE
abbrev pub carries : ℕ → (Place → Bool) → List Atom → Place → ℕ × Expr → Bool
carries k reach filter place s = sets_place place s && touches k reach (expr_atoms s.1 ++ filter)

-- without WHERE what is set keeps nothing
abbrev pub is_cleared : List (ℕ × Expr) → Option Cond → Place → Bool
is_cleared sets None place = list_any (sets_place place) sets
is_cleared sets (Some cond) place = false

-- an item at this place of a tuple is the parameter
abbrev pub has_item : ℕ → ℕ → List (List Expr) → Bool
has_item k place tuples = list_any (λ tuple. list_any (is_param k) (expr_atoms (slice_index_or tuple place (Word 0)))) tuples

abbrev pub is_inserted : ℕ → List ℕ → List (List Expr) → Place → Bool
is_inserted k columns tuples Live = false
is_inserted k columns tuples (At c) = has_item k (place_of columns c) tuples

-- a place is reached after a statement
abbrev pub flows : ℕ → Statement → (Place → Bool) → Place → Bool
flows k (Update sets where_) reach place =
    (reach place && not (is_cleared sets where_ place)) || list_any (carries k reach (where_atoms where_) place) sets
flows k (Delete where_) reach place = reach place || (same_place place Live && touches k reach (where_atoms where_))
flows k (Insert columns tuples) reach place = reach place || is_inserted k columns tuples place
