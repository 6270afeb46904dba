-- The order of points over a box that holds them.
use Rattle.std.proofs.Common.{◌≡◌, ◌≤◌, true, false, List, length, ℤ, arith, sym, ◌∙◌, inl, inr, ◌⊎◌}
use Rattle.std.proofs.lemmas.Bool.{false≢true, cases_lt}
use Rattle.qf_base.specs.Values.{Bounds, IsWithin}
use Rattle.qf_base.proofs.BoxLaws.{In-IsWithin}
use Rattle.qf_point.specs.Points.{cost, better, cheapest}
use Rattle.qf_point.proofs.PointLaws as laws
use Rattle.qf_point.proofs.PointLaws.{cheapest_only, cheaper_better, better_one_way, not_better_trans}

-- what is no better than the cheapest point of a box has no better one in the box
pub none_better : (olds p q : List ℤ) (region : Bounds) → length olds ≡ length region → IsWithin q region → better olds (cheapest olds region) p ≡ false → better olds q p ≡ false
none_better olds p q region n w h =
    not_better_trans olds p (cheapest olds region) q h (laws.none_better olds region q n (In-IsWithin region q w))

pub cheapest_least : (olds q : List ℤ) (region : Bounds) → length olds ≡ length region → IsWithin q region → cost olds (cheapest olds region) ≤ cost olds q
cheapest_least olds q region n w =
    elim (cheapest_only olds region q n (In-IsWithin region q w)) [
      | inl e ↦ rw e (omega arith)
      | inr l ↦ omega arith
    ]

better_costs : (olds r q : List ℤ) → better olds r q ≡ true → cost olds r ≤ cost olds q
better_costs olds r q h =
    elim (cases_lt (cost olds q) (cost olds r)) [
      | inl l ↦ absurd (false≢true (sym (better_one_way olds q r (cheaper_better olds q r l)) ∙ h))
      | inr l ↦ l
    ]

pub cost_from_order : (olds r q : List ℤ) → (r ≡ q) ⊎ (better olds r q ≡ true) → cost olds r ≤ cost olds q
cost_from_order olds r q (inl e) = rw e (omega arith)
cost_from_order olds r q (inr h) = better_costs olds r q h

pub cost_from_no_better : (olds r q : List ℤ) → better olds r q ≡ false → cost olds q ≤ cost olds r
cost_from_no_better olds r q h =
    elim (cases_lt (cost olds r) (cost olds q)) [
      | inl l ↦ absurd (false≢true (sym h ∙ cheaper_better olds r q l))
      | inr l ↦ l
    ]
