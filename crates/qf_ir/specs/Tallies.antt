-- What a check counts of a statement in one walk; counts stop at the greatest number of 64 bits.
use Rattle.std.specs.Prelude.{ℕ, ◌+◌, ◌-◌, ◌^◌, min, Bool, true, false, ◌&&◌, ◌||◌, List, [], ◌∷◌, length}
use Rattle.std.specs.List.{list_all, flat_map}
use Rattle.qf_ir.specs.declared.ast.Expr.{Expr}
use Rattle.qf_ir.specs.declared.ast.Cond.{Cond}
use Rattle.qf_ir.specs.declared.ast.Statement.{Statement}
use Rattle.qf_ir.specs.declared.ast.Statement.TheVariants.{Update, Delete, Insert}
use Rattle.qf_ir.specs.declared.table.ColumnKind.{ColumnKind}
use Rattle.qf_ir.specs.declared.making.tally.Tally.{Tally}
use Rattle.qf_ir.specs.Parts.{params_in, exprs_in, comparisons_in, tests_of, where_of}
use Rattle.qf_ir.specs.Checked.{names_known, is_column, is_long, test_agrees, set_agrees, tuple_agrees, listed}

abbrev pub capped : ℕ → ℕ
capped n = min n (2 ^ 64 - 1)

abbrev pub nothing_yet : Tally
nothing_yet = record { known = true; agrees = true; long = false; params = 0; comparisons = 0 }

abbrev pub with_expr : ℕ → Tally → Expr → Tally
with_expr width t e =
    record {
      known = t.known && names_known width e;
      agrees = t.agrees;
      long = t.long || is_long e;
      params = capped (t.params + length (params_in e));
      comparisons = t.comparisons;
    }

abbrev pub with_exprs : ℕ → Tally → List Expr → Tally
with_exprs width t [] = t
with_exprs width t (e ∷ es) = with_exprs width (with_expr width t e) es

-- types that agree or not
abbrev pub with_types : Tally → Bool → Tally
with_types t agree =
    record { known = t.known; agrees = t.agrees && agree; long = t.long; params = t.params; comparisons = t.comparisons }

-- columns that are known or not
abbrev pub with_names : Tally → Bool → Tally
with_names t known =
    record { known = t.known && known; agrees = t.agrees; long = t.long; params = t.params; comparisons = t.comparisons }

abbrev pub with_comparisons : Tally → ℕ → Tally
with_comparisons t n =
    record { known = t.known; agrees = t.agrees; long = t.long; params = t.params; comparisons = capped (t.comparisons + n) }

abbrev pub with_test : List ColumnKind → Tally → Cond → Tally
with_test kinds t test =
    with_exprs (length kinds) (with_comparisons (with_types t (test_agrees kinds test)) (comparisons_in test)) (exprs_in test)

abbrev pub with_tests : List ColumnKind → Tally → List Cond → Tally
with_tests kinds t [] = t
with_tests kinds t (test ∷ tests) = with_tests kinds (with_test kinds t test) tests

abbrev pub with_set : List ColumnKind → Tally → ℕ × Expr → Tally
with_set kinds t s =
    with_expr (length kinds) (with_types (with_names t (is_column (length kinds) s.0)) (set_agrees kinds s)) s.1

abbrev pub with_sets : List ColumnKind → Tally → List (ℕ × Expr) → Tally
with_sets kinds t [] = t
with_sets kinds t (s ∷ sets) = with_sets kinds (with_set kinds t s) sets

abbrev pub with_tuple : List ColumnKind → List ℕ → Tally → List Expr → Tally
with_tuple kinds columns t tuple = with_exprs (length kinds) (with_types t (tuple_agrees kinds columns tuple)) tuple

abbrev pub with_tuples : List ColumnKind → List ℕ → Tally → List (List Expr) → Tally
with_tuples kinds columns t [] = t
with_tuples kinds columns t (tuple ∷ tuples) = with_tuples kinds columns (with_tuple kinds columns t tuple) tuples

abbrev pub tally_of : List ColumnKind → Statement → Tally
tally_of kinds (Update sets where_) = with_tests kinds (with_sets kinds nothing_yet sets) (flat_map tests_of (where_of where_))
tally_of kinds (Delete where_) = with_tests kinds nothing_yet (flat_map tests_of (where_of where_))
tally_of kinds (Insert columns tuples) =
    with_tuples kinds (listed (length kinds) columns) (with_names nothing_yet (list_all (is_column (length kinds)) columns)) tuples
