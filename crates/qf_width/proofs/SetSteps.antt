-- Intervals of set columns that are worked out first and then put in their places.
use Rattle.std.specs.Prelude.{◌≡◌, ℕ, suc, true, List, [], ◌∷◌, ◌++◌, length, slice_set}
use Rattle.std.specs.declared.option.Option.{Option}
use Rattle.std.proofs.Common.{refl, ap, ◌∙◌}
use Rattle.std.specs.List.{list_all}
use Rattle.qf_base.specs.Values.{Interval, Bounds, interval_at}
use Rattle.qf_ir.specs.declared.ast.Cond.{Cond}
use Rattle.qf_ir.specs.declared.ast.Expr.{Expr}
use Rattle.qf_ir.specs.Width.{is_narrow, stored, expr_interval, sets_widths}
use Rattle.qf_width.specs.Sets.{set_intervals, put_in}
use Rattle.qf_width.proofs.Narrow.{all-append}

pub put-sets : (sets : List (ℕ × Expr)) (where_ : Option Cond) (before domains widths : Bounds)
    → put_in sets (set_intervals sets where_ before domains) widths ≡ sets_widths sets where_ before domains widths
put-sets [] where_ before domains widths = refl
put-sets (s ∷ sets) where_ before domains widths = put-sets sets where_ before domains (slice_set widths s.0 (stored where_ (interval_at before s.0) (expr_interval s.1 before domains)))

pub length-set_intervals : (sets : List (ℕ × Expr)) (where_ : Option Cond) (before domains : Bounds) → length (set_intervals sets where_ before domains) ≡ length sets
length-set_intervals [] where_ before domains = refl
length-set_intervals (s ∷ sets) where_ before domains = ap suc (length-set_intervals sets where_ before domains)

-- what is narrow in front leaves what comes behind
pub all-behind : (xs ys zs : List Interval) → list_all is_narrow xs ≡ true → list_all is_narrow ys ≡ true → list_all is_narrow (xs ++ ys ++ zs) ≡ list_all is_narrow zs
all-behind xs ys zs h k = all-append (xs ++ ys) zs (all-append xs ys h ∙ k)
