-- Laws of points and boxes.
use Rattle.std.specs.Prelude.{◌≡◌, ◌≢◌, ℕ, ◌+◌, ◌<◌, ◌≤ℤ◌, ◌<ℤ◌, ◌+ℤ◌, ℤ, pos, Bool, true, false, cond, ◌&&◌, int_le, List, [], ◌∷◌, ◌⊎◌, slice_set, length}
use Rattle.std.proofs.Common.{inl, inr, arith, ap, sym, refl, ◌∙◌, zero, suc, ⊎_elim}
use Rattle.std.proofs.lemmas.Int.{ints, clamps}
use Rattle.std.proofs.lemmas.List.Elements.{All-head, All-tail, All-set}
use Rattle.std.specs.declared.cmp.Ordering.{Ordering}
use Rattle.std.specs.declared.cmp.Ordering.TheVariants.{Less, Equal, Greater}
use Rattle.std.specs.Ordering.{nat_cmp, int_cmp, is_lt, ordering_then, ordering_reverse}
use Rattle.std.specs.Cmp.{IsTotalOrder}
use Rattle.std.specs.Cmp.Lexicographic.{slice_cmp}
use Rattle.std.proofs.lemmas.Cmp.{nat_cmp_total, int_cmp_total, lists_total, on_total, then_total, tied_itself}
use Rattle.std.specs.FinMap.{slice_cmp-IsAntisymmetric, int_cmp-IsAntisymmetric}
use Rattle.std.proofs.lemmas.Bool.{false≢true}
use Rattle.std.proofs.lemmas.Bool.Decides.{nat_tests}
pub use Rattle.qf_base.proofs.BoxLaws.{In-is_in, is_in-In, length-In, IsWithin-In, In-IsWithin}
use Rattle.qf_point.specs.Points.{Price, old_of, change_cost, cost, point_cmp, better, In, HasNoEmpty, clamped, cheapest, interval_at, lower_half, upper_half, is_in, CanCut}

abbrev IsSpan : ℤ × ℤ → Type 0
IsSpan r = r.0 ≤ℤ r.1

-- ---- the cheapest point

clamped_low : (r : ℤ × ℤ) (v : ℤ) → r.0 ≤ℤ r.1 → r.0 ≤ℤ clamped r v
clamped_low r v h = omega (arith, ints, clamps)

clamped_high : (r : ℤ × ℤ) (v : ℤ) → r.0 ≤ℤ r.1 → clamped r v ≤ℤ r.1
clamped_high r v h = omega (arith, ints, clamps)

-- the clamped constant is the only cheapest value of the interval
clamped_cheapest : (p : Price) (r : ℤ × ℤ) (v : ℤ) → r.0 ≤ℤ v → v ≤ℤ r.1 → (v ≡ clamped r (old_of p)) ⊎ (change_cost p (clamped r (old_of p)) < change_cost p v)
clamped_cheapest p r v low high = grind (arith, ints, clamps)

-- the cheapest point lies in the box
pub cheapest_in : (prices : List Price) (region : List (ℤ × ℤ)) → length prices ≡ length region → HasNoEmpty region → In region (cheapest prices region)
cheapest_in [] [] e h = tt
cheapest_in (p ∷ prices) [] e h = absurd (omega arith)
cheapest_in [] (r ∷ region) e h = absurd (omega arith)
cheapest_in (p ∷ prices) (r ∷ region) e h =
    let fits : r.0 ≤ℤ r.1 = All-head IsSpan r region h in
    (clamped_low r (old_of p) fits, clamped_high r (old_of p) fits, cheapest_in prices region (omega arith) (All-tail IsSpan r region h))

-- each other point of the box costs more
pub cheapest_only : (prices : List Price) (region : List (ℤ × ℤ)) (values : List ℤ) → length prices ≡ length region → In region values → (values ≡ cheapest prices region) ⊎ (cost prices (cheapest prices region) < cost prices values)
cheapest_only [] [] [] e h = inl refl
cheapest_only [] [] (v ∷ values) e h = absurd h
cheapest_only (p ∷ prices) [] values e h = absurd (omega arith)
cheapest_only [] (r ∷ region) values e h = absurd (omega arith)
cheapest_only (p ∷ prices) (r ∷ region) [] e h = absurd h
cheapest_only (p ∷ prices) (r ∷ region) (v ∷ values) e h =
    let one = clamped_cheapest p r v h.0 h.1 in
    let rest = cheapest_only prices region values (omega arith) h.2 in
    ⊎_elim (λ same. ⊎_elim (λ alike. inl (cc)) (λ less. inr (omega (arith, ap (change_cost p) same))) rest)
    (λ less. ⊎_elim (λ alike. inr (omega (arith, ap (cost prices) alike))) (λ fewer. inr (omega arith)) rest) one

-- ---- the order

pub point_cmp_total : (prices : List Price) → IsTotalOrder (point_cmp prices)
point_cmp_total prices = then_total (on_total (cost prices) nat_cmp_total) (lists_total int_cmp_total)

then_equal : (a b : Ordering) → ordering_then a b ≡ Equal → b ≡ Equal
then_equal Less b e = cc
then_equal Equal b e = e
then_equal Greater b e = cc

-- of two points that neither is better than the other, both are one
pub point_cmp_apart : (prices : List Price) (p q : List ℤ) → point_cmp prices p q ≡ Equal → p ≡ q
point_cmp_apart prices p q e = slice_cmp-IsAntisymmetric int_cmp-IsAntisymmetric p q (then_equal (nat_cmp (cost prices p) (cost prices q)) (slice_cmp int_cmp p q) e)

is_less : (o : Ordering) → is_lt o ≡ true → o ≡ Less
is_less Less e = refl
is_less Equal e = absurd (false≢true e)
is_less Greater e = absurd (false≢true e)

pub better_itself : (prices : List Price) (p : List ℤ) → better prices p p ≡ false
better_itself prices p = ap is_lt (tied_itself (point_cmp_total prices) p)

pub better_trans : (prices : List Price) (p q r : List ℤ) → better prices p q ≡ true → better prices q r ≡ true → better prices p r ≡ true
better_trans prices p q r h k =
    ap is_lt ((point_cmp_total prices).trans p q r (is_less (point_cmp prices p q) h) (is_less (point_cmp prices q r) k))

cases_of : (o : Ordering) → (is_lt o ≡ true) ⊎ (o ≡ Equal) ⊎ (is_lt (ordering_reverse o) ≡ true)
cases_of Less = inl refl
cases_of Equal = inr (inl refl)
cases_of Greater = inr (inr refl)

pub better_cases : (prices : List Price) (p q : List ℤ) → (better prices p q ≡ true) ⊎ (p ≡ q) ⊎ (better prices q p ≡ true)
better_cases prices p q =
    ⊎_elim (λ less. inl less)
    (λ rest. ⊎_elim (λ same. inr (inl (point_cmp_apart prices p q same))) (λ more. inr (inr (ap is_lt ((point_cmp_total prices).antisymm q p) ∙ more))) rest)
    (cases_of (point_cmp prices p q))

-- of two points at most one is better than the other
pub better_one_way : (prices : List Price) (p q : List ℤ) → better prices p q ≡ true → better prices q p ≡ false
better_one_way prices p q h =
    elim (better prices q p) as (λ b. better prices q p ≡ b → b ≡ false) [
      | true ↦ λ e. absurd (false≢true (sym (better_itself prices p) ∙ better_trans prices p q p h e))
      | false ↦ λ e. refl
    ] refl

-- what is not better than a point is not better than a better one
pub not_better_trans : (prices : List Price) (p q r : List ℤ) → better prices q p ≡ false → better prices r q ≡ false → better prices r p ≡ false
not_better_trans prices p q r h k =
    elim (better prices r p) as (λ b. better prices r p ≡ b → b ≡ false) [
      | true ↦ λ e.
          ⊎_elim (λ less. absurd (false≢true (sym k ∙ better_trans prices r p q e less)))
          (λ rest. ⊎_elim (λ same. absurd (false≢true (sym k ∙ (sym (ap (better prices r) same) ∙ e)))) (λ more. absurd (false≢true (sym h ∙ more))) rest)
          (better_cases prices p q)
      | false ↦ λ e. refl
    ] refl

cheaper_then : (a b : ℕ) (o : Ordering) → a < b → is_lt (ordering_then (nat_cmp a b) o) ≡ true
cheaper_then a b o h = grind (arith, nat_tests)

pub cheaper_better : (prices : List Price) (p q : List ℤ) → cost prices p < cost prices q → better prices p q ≡ true
cheaper_better prices p q h = cheaper_then (cost prices p) (cost prices q) (slice_cmp int_cmp p q) h

-- the cheapest point is better than every other point of the box
pub cheapest_better : (prices : List Price) (region : List (ℤ × ℤ)) (values : List ℤ) → length prices ≡ length region → In region values → values ≢ cheapest prices region → better prices (cheapest prices region) values ≡ true
cheapest_better prices region values e h other =
    ⊎_elim (λ same. absurd (other same)) (λ less. cheaper_better prices (cheapest prices region) values less) (cheapest_only prices region values e h)

-- no point of the box is better than its cheapest point
pub none_better : (prices : List Price) (region : List (ℤ × ℤ)) (values : List ℤ) → length prices ≡ length region → In region values → better prices values (cheapest prices region) ≡ false
none_better prices region values e h =
    ⊎_elim (λ same. ap (λ v. better prices v (cheapest prices region)) same ∙ better_itself prices (cheapest prices region))
    (λ less. better_one_way prices (cheapest prices region) values (cheaper_better prices (cheapest prices region) values less))
    (cheapest_only prices region values e h)

-- ---- the halves of a box

cut_within : (r : ℤ × ℤ) (cut v : ℤ) → r.0 ≤ℤ v → v ≤ℤ r.1 → (v ≤ℤ cut) ⊎ ((cut +ℤ pos 1) ≤ℤ v)
cut_within r cut v low high = grind (arith, ints)

pub halves_cover : (region : List (ℤ × ℤ)) (place : ℕ) (cut : ℤ) (values : List ℤ) → place < length region → In region values → (In (lower_half region place cut) values) ⊎ (In (upper_half region place cut) values)
halves_cover [] place cut values within h = absurd (omega arith)
halves_cover (r ∷ region) place cut [] within h = absurd h
halves_cover (r ∷ region) zero cut (v ∷ values) within h =
    ⊎_elim (λ low. inl (h.0, low, h.2)) (λ high. inr (high, h.1, h.2)) (cut_within r cut v h.0 h.1)
halves_cover (r ∷ region) (suc place) cut (v ∷ values) within h =
    ⊎_elim (λ low. inl (h.0, h.1, low)) (λ high. inr (h.0, h.1, high)) (halves_cover region place cut values (omega arith) h.2)

pub halves_apart : (region : List (ℤ × ℤ)) (place : ℕ) (cut : ℤ) (values : List ℤ) → place < length region → In (lower_half region place cut) values → In (upper_half region place cut) values → ⊥
halves_apart [] place cut values within h k = omega arith
halves_apart (r ∷ region) zero cut [] within h k = h
halves_apart (r ∷ region) (suc place) cut [] within h k = h
halves_apart (r ∷ region) zero cut (v ∷ values) within h k =
    let high : v ≤ℤ cut = h.1 in
    let low : (cut +ℤ pos 1) ≤ℤ v = k.0 in
    omega (arith, ints)
halves_apart (r ∷ region) (suc place) cut (v ∷ values) within h k = halves_apart region place cut values (omega arith) h.2 k.2

below_cut : (v cut high : ℤ) → v ≤ℤ cut → cut <ℤ high → v ≤ℤ high
below_cut v cut high h k = omega (arith, ints)

above_cut : (low cut v : ℤ) → low ≤ℤ cut → (cut +ℤ pos 1) ≤ℤ v → low ≤ℤ v
above_cut low cut v h k = omega (arith, ints)

pub lower_within : (region : List (ℤ × ℤ)) (place : ℕ) (cut : ℤ) (values : List ℤ) → place < length region → cut <ℤ (interval_at region place).1 → In (lower_half region place cut) values → In region values
lower_within [] place cut values within c h = absurd (omega arith)
lower_within (r ∷ region) zero cut [] within c h = absurd h
lower_within (r ∷ region) (suc place) cut [] within c h = absurd h
lower_within (r ∷ region) zero cut (v ∷ values) within c h = (h.0, below_cut v cut r.1 h.1 c, h.2)
lower_within (r ∷ region) (suc place) cut (v ∷ values) within c h = (h.0, h.1, lower_within region place cut values (omega arith) c h.2)

pub upper_within : (region : List (ℤ × ℤ)) (place : ℕ) (cut : ℤ) (values : List ℤ) → place < length region → (interval_at region place).0 ≤ℤ cut → In (upper_half region place cut) values → In region values
upper_within [] place cut values within c h = absurd (omega arith)
upper_within (r ∷ region) zero cut [] within c h = absurd h
upper_within (r ∷ region) (suc place) cut [] within c h = absurd h
upper_within (r ∷ region) zero cut (v ∷ values) within c h = (above_cut r.0 cut v c h.0, h.1, h.2)
upper_within (r ∷ region) (suc place) cut (v ∷ values) within c h = (h.0, h.1, upper_within region place cut values (omega arith) c h.2)

none_of : (a b c : Bool) → cond (a && false) 1 0 ≡ cond (b && false) 1 0 + cond (c && false) 1 0
none_of a b c = grind arith

both_once : (a x y z : Bool) → cond x 1 0 ≡ cond y 1 0 + cond z 1 0 → cond (a && x) 1 0 ≡ cond (a && y) 1 0 + cond (a && z) 1 0
both_once true x y z h = h
both_once false x y z h = refl

is_in_cut : (low high cut v : ℤ) (rest : Bool) → low ≤ℤ cut → cut <ℤ high → cond ((int_le low v && int_le v high) && rest) 1 0 ≡ cond ((int_le low v && int_le v cut) && rest) 1 0 + cond ((int_le (cut +ℤ pos 1) v && int_le v high) && rest) 1 0
is_in_cut low high cut v true h k = grind (arith, ints)
is_in_cut low high cut v false h k = none_of (int_le low v && int_le v high) (int_le low v && int_le v cut) (int_le (cut +ℤ pos 1) v && int_le v high)

-- a point of a box lies in one of its halves, and any other point in none
pub halves_once : (region : List (ℤ × ℤ)) (place : ℕ) (cut : ℤ) → CanCut region place cut → (q : List ℤ) → cond (is_in region q) 1 0 ≡ cond (is_in (lower_half region place cut) q) 1 0 + cond (is_in (upper_half region place cut) q) 1 0
halves_once [] place cut can q = absurd (omega (arith, can.within))
halves_once (r ∷ region) zero cut can [] = refl
halves_once (r ∷ region) (suc place) cut can [] = refl
halves_once (r ∷ region) zero cut can (v ∷ q) = is_in_cut r.0 r.1 cut v (is_in region q) can.low can.high
halves_once (r ∷ region) (suc place) cut can (v ∷ q) =
    both_once (int_le r.0 v && int_le v r.1) (is_in region q) (is_in (lower_half region place cut) q) (is_in (upper_half region place cut) q)
    (halves_once region place cut (record { within = omega (arith, can.within); low = can.low; high = can.high }) q)

-- ---- the halves are boxes without an empty interval

spans_put : (region : List (ℤ × ℤ)) (place : ℕ) (r : ℤ × ℤ) → HasNoEmpty region → r.0 ≤ℤ r.1 → HasNoEmpty (slice_set region place r)
spans_put region place r h fits = All-set IsSpan region place r fits h

span_at : (region : List (ℤ × ℤ)) (place : ℕ) → place < length region → HasNoEmpty region → (interval_at region place).0 ≤ℤ (interval_at region place).1
span_at region place within h = h place (pos 0, pos 0) within

after_cut : (cut high : ℤ) → cut <ℤ high → (cut +ℤ pos 1) ≤ℤ high
after_cut cut high h = omega (arith, ints)

pub lower_spans : (region : List (ℤ × ℤ)) (place : ℕ) (cut : ℤ) → CanCut region place cut → HasNoEmpty region → HasNoEmpty (lower_half region place cut)
lower_spans region place cut can h = spans_put region place ((interval_at region place).0, cut) h can.low

pub upper_spans : (region : List (ℤ × ℤ)) (place : ℕ) (cut : ℤ) → CanCut region place cut → HasNoEmpty region → HasNoEmpty (upper_half region place cut)
upper_spans region place cut can h = spans_put region place (cut +ℤ pos 1, (interval_at region place).1) h (after_cut cut (interval_at region place).1 can.high)
