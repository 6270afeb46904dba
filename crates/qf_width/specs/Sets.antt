-- What the set columns of an UPDATE become, first worked out and then put in their places.
use Rattle.std.specs.Prelude.{ℕ, List, [], ◌∷◌, slice_set}
use Rattle.std.specs.declared.option.Option.{Option}
use Rattle.qf_base.specs.Values.{Interval, Bounds, interval_at}
use Rattle.qf_ir.specs.declared.ast.Cond.{Cond}
use Rattle.qf_ir.specs.declared.ast.Expr.{Expr}
use Rattle.qf_ir.specs.Width.{stored, expr_interval}

-- an interval for each set, from the widths before
abbrev pub set_intervals : List (ℕ × Expr) → Option Cond → Bounds → Bounds → List Interval
set_intervals [] where_ before domains = []
set_intervals (s ∷ sets) where_ before domains = stored where_ (interval_at before s.0) (expr_interval s.1 before domains) ∷ set_intervals sets where_ before domains

abbrev pub put_in : List (ℕ × Expr) → List Interval → Bounds → Bounds
put_in [] fresh widths = widths
put_in (s ∷ sets) [] widths = widths
put_in (s ∷ sets) (w ∷ fresh) widths = put_in sets fresh (slice_set widths s.0 w)
