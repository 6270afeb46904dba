-- Rows that leave a box open.
use Rattle.std.proofs.Common.{◌≡◌, ◌∙◌, ap, sym, subst, refl, arith, inl, inr, ℕ, ◌+◌, ◌<◌, ℤ, pos, Bool, true, false, not, List, length, get_or, slice_get, slice_index_or}
use Rattle.std.specs.declared.option.Option.TheVariants.{Some}
use Rattle.std.specs.List.{list_any}
use Rattle.std.proofs.lemmas.Bool.{cases_eq}
use Rattle.std.proofs.lemmas.List.Folds.{list_any_none}
use Rattle.std.proofs.lemmas.Bool.{cases_eq}
use Rattle.qf_base.specs.declared.names.RowName.{RowName}
use Rattle.std.proofs.lemmas.Bool.{false≢true}
use Rattle.std.proofs.lemmas.Option.{get_or_from_slice_get}
use Rattle.qf_slice.proofs.Boxes.{at-get}
use Rattle.qf_base.specs.Values.{Interval, Bounds, IsIn, IsWithin}
use Rattle.qf_lin.specs.Steps.{is_closable}
use Rattle.qf_ir.specs.Plan.{RowExists}
use Rattle.qf_goal.specs.Case.{complained_rows, misses}
use Rattle.qf_encode.specs.Lives.{BoxIn}
use Rattle.qf_instance.proofs.Boxes.{boxes_hold}
use Rattle.qf_instance.proofs.Witnesses.{witnesses_leave_open}
use Rattle.qf_search.specs.declared.grounds.Grounds.{Grounds}
use Rattle.qf_search.specs.Grounding.{instance, AreGrounds, IsOpenRow}
use Rattle.qf_search.specs.Exploring.{IsNotClosable}

-- a point of the box at which the row meets its goal
pub open_row : (g : Grounds) (region : Bounds) (row : RowName) (q : List ℤ) → AreGrounds g → BoxIn region g.root → RowExists g.problem.now.plan row → IsWithin q region → misses g.problem.now q row ≡ false → IsOpenRow g region row
open_row g region row q grounds box exists within met =
    witnesses_leave_open g.problem.now (instance g) row region q grounds.sound grounds.is exists met (boxes_hold region g.root box q within) within

-- where all complained rows leave it open, none closes it
pub not_closable : (g : Grounds) (region : Bounds) (rows : List RowName) → AreGrounds g → rows ≡ complained_rows g.problem.now → ((k : ℕ) (d : RowName) → k < length rows → IsOpenRow g region (get_or rows k d)) → IsNotClosable g.problem.now region
not_closable g region rows grounds is all = record {
  inst = instance g;
  is_instance = grounds.is;
  none = subst (λ (rs : List RowName). list_any (λ row. is_closable ((instance g).system row) ((instance g).hull row region)) rs ≡ false) is (list_any_none (λ row. is_closable ((instance g).system row) ((instance g).hull row region)) rows all);
}

pub open_more : (g : Grounds) (region : Bounds) (rows : List RowName) (place : ℕ) (row : RowName) → slice_get rows place ≡ Some row → IsOpenRow g region row → ((k : ℕ) (d : RowName) → k < place → IsOpenRow g region (get_or rows k d)) → (k : ℕ) (d : RowName) → k < place + 1 → IsOpenRow g region (get_or rows k d)
open_more g region rows place row got here before k d below =
    elim (cases_eq k place) [
      | inl same ↦ subst (IsOpenRow g region) (sym (get_or_from_slice_get rows place row d got) ∙ ap (λ (n : ℕ). get_or rows n d) (sym same)) here
      | inr apart ↦ before k d (omega (arith, below))
    ]

pub not_is : (b : Bool) → not b ≡ true → b ≡ false
not_is true e = absurd (false≢true e)
not_is false e = refl

pub between_more : (region : Bounds) (point : List ℤ) (place : ℕ) (r : Interval) (v : ℤ) → slice_get region place ≡ Some r → slice_get point place ≡ Some v → IsIn v r → ((k : ℕ) → k < place → IsIn (slice_index_or point k (pos 0)) (slice_index_or region k (pos 0, pos 0))) → (k : ℕ) → k < place + 1 → IsIn (slice_index_or point k (pos 0)) (slice_index_or region k (pos 0, pos 0))
between_more region point place r v got value here before k below =
    elim (cases_eq k place) [
      | inl same ↦
          let of_region = at-get region place r (pos 0, pos 0) got in
          let of_point = get_or_from_slice_get point place v (pos 0) value in
          subst (λ (n : ℕ). IsIn (slice_index_or point n (pos 0)) (slice_index_or region n (pos 0, pos 0))) (sym same) (rw (of_region, of_point) here)
      | inr apart ↦ before k (omega (arith, below))
    ]
