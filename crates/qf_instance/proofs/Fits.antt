-- Where a bound is taken, a system still fits, unless the bounds are empty.
use Rattle.std.proofs.Common.{◌≡◌, ◌∙◌, ap, sym, subst, refl, inl, inr, ℕ, zero, suc, ◌-◌, Bool, true, false, ◌||◌, int_lt, [], ◌∷◌, length, slice_set, arith, length-set}
use Rattle.std.proofs.lemmas.Int.{ints, clamps}
use Rattle.std.proofs.lemmas.Bool.{cases_lt, or_parts}
use Rattle.std.proofs.lemmas.List.{set_past}
use Rattle.std.proofs.lemmas.List.Elements.{All-weaker}
use Rattle.qf_base.specs.declared.names.Bound.{Bound}
use Rattle.qf_base.specs.declared.names.Bound.TheVariants.{Low, High}
use Rattle.qf_base.specs.Values.{Interval, Bounds, interval_at, interval_of_var}
use Rattle.qf_base.proofs.Integers.{int_lt_no, int_lt_false}
use Rattle.qf_lin.specs.declared.inequality.Inequality.{Inequality}
use Rattle.qf_lin.specs.Inequalities.{taken, with_bound, is_empty, NamesVars}
use Rattle.qf_lin.proofs.Sweeps.{with_bound-part, IsSmall-part}
use Rattle.qf_tree.specs.Steps.{RowFits, RowsFit}
use Rattle.qf_instance.specs.Laws.{BoundsKeepFit}

neither : (a b : Bool) → a ≡ false → b ≡ false → (a || b) ≡ false
neither true b p q = p
neither false b p q = q

wider_open : (bound : Bound) (i : Interval) → int_lt (taken bound i).1 (taken bound i).0 ≡ false → int_lt i.1 i.0 ≡ false
wider_open (Low n) i h =
    let middle = int_lt_false (taken (Low n) i).1 (taken (Low n) i).0 h in
    int_lt_no i.1 i.0 (omega (arith, ints, clamps, middle))
wider_open (High n) i h =
    let middle = int_lt_false (taken (High n) i).1 (taken (High n) i).0 h in
    int_lt_no i.1 i.0 (omega (arith, ints, clamps, middle))

-- bounds that are not empty after a bound is taken were not before
open_before : (bounds : Bounds) (place : ℕ) (bound : Bound) → is_empty (slice_set bounds place (taken bound (interval_at bounds place))) ≡ false → is_empty bounds ≡ false
open_before [] place bound h = refl
open_before (i ∷ is) zero bound h =
    let parts = or_parts (int_lt (taken bound i).1 (taken bound i).0) (is_empty is) h in
    neither (int_lt i.1 i.0) (is_empty is) (wider_open bound i parts.0) parts.1
open_before (i ∷ is) (suc place) bound h =
    let parts = or_parts (int_lt i.1 i.0) (is_empty (slice_set is place (taken bound (interval_at is place)))) h in
    neither (int_lt i.1 i.0) (is_empty is) parts.0 (open_before is place bound parts.1)

pub bounds_fit : BoundsKeepFit
bounds_fit system bounds var bound fits still =
    elim (cases_lt (var - 1) (length bounds)) [
      | inl inside ↦
          let after = with_bound bounds var bound in
          let before = fits (open_before bounds (var - 1) bound still) in
          let same : length after ≡ length bounds = length-set bounds (var - 1) (taken bound (interval_of_var bounds var)) in
          let kept : (row : Inequality) → RowFits bounds row → RowFits after row =
          λ row h. record {
            small = IsSmall-part row bounds after (with_bound-part bounds var bound inside still) h.small;
            named = subst (NamesVars row.terms) (sym same) h.named;
            proper = h.proper;
          } in
          record { rows = All-weaker (λ row. RowFits bounds row) (λ row. RowFits after row) kept system.inequalities before.rows; not_empty = still }
      | inr past ↦
          let same : with_bound bounds var bound ≡ bounds = set_past bounds (var - 1) (taken bound (interval_of_var bounds var)) past in
          subst (λ after. RowsFit system after) (sym same) (fits (ap is_empty (sym same) ∙ still))
    ]
