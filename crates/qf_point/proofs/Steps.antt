-- What one turn of a loop over the parameters adds.
use Rattle.std.proofs.Common.{◌≡◌, ℕ, suc, zero, ◌+◌, ◌*◌, ◌<◌, ◌≤◌, ℤ, pos, List, [], ◌∷◌, length, get_or, drop, refl, ap, sym, ◌∙◌, arith, add-one}
use Rattle.std.proofs.Common.{take, set, subst, min, Some, ⊎_elim, ◌⊎◌, slice_get}
use Rattle.std.proofs.lemmas.List.{take_more, take_more_set, take_all}
use Rattle.std.specs.Prelude.{◌+ℤ◌, ◌<ℤ◌}
use Rattle.std.specs.Prelude.{IsTrue, Bool, true}
use Rattle.qf_point.specs.Points.{In, better, lower_half, upper_half}
use Rattle.qf_point.proofs.PointLaws.{cheapest_better, halves_cover, halves_apart, lower_within, upper_within}
use Rattle.std.proofs.lemmas.Option.{get_or_from_slice_get}
use Rattle.std.specs.Prelude.{unsigned_abs, ◌-ℤ◌, ◌≤ℤ◌}
use Rattle.qf_point.specs.Points.{Price, old_of, change_cost, cost, clamped, cheapest, point_count, interval_at}

cost-drop_suc : (prices : List Price) (values : List ℤ) (i : ℕ) → i < length prices → length prices ≡ length values → cost (drop i prices) (drop i values) ≡ change_cost (get_or prices i (pos 0)) (get_or values i (pos 0)) + cost (drop (suc i) prices) (drop (suc i) values)
cost-drop_suc [] values i h e = absurd (omega arith)
cost-drop_suc (p ∷ prices) [] i h e = absurd (omega arith)
cost-drop_suc (p ∷ prices) (v ∷ values) zero h e = refl
cost-drop_suc (p ∷ prices) (v ∷ values) (suc i) h e = cost-drop_suc prices values i (omega arith) (omega arith)

pub cost-drop : (prices : List Price) (values : List ℤ) (i : ℕ) → i < length prices → length prices ≡ length values → cost (drop i prices) (drop i values) ≡ change_cost (get_or prices i (pos 0)) (get_or values i (pos 0)) + cost (drop (i + 1) prices) (drop (i + 1) values)
cost-drop prices values i h e = rw add-one (cost-drop_suc prices values i h e)

pub cost-drop_all : (prices : List Price) (values : List ℤ) (i : ℕ) → length prices ≤ i → length prices ≡ length values → cost (drop i prices) (drop i values) ≡ 0
cost-drop_all [] [] zero h e = refl
cost-drop_all [] [] (suc i) h e = refl
cost-drop_all [] (v ∷ values) i h e = absurd (omega arith)
cost-drop_all (p ∷ prices) values zero h e = absurd (omega arith)
cost-drop_all (p ∷ prices) [] (suc i) h e = absurd (omega arith)
cost-drop_all (p ∷ prices) (v ∷ values) (suc i) h e = cost-drop_all prices values i (omega arith) (omega arith)

pub length-cheapest : (prices : List Price) (region : List (ℤ × ℤ)) → length prices ≡ length region → length (cheapest prices region) ≡ length region
length-cheapest [] [] e = refl
length-cheapest [] (r ∷ region) e = absurd (omega arith)
length-cheapest (p ∷ prices) [] e = refl
length-cheapest (p ∷ prices) (r ∷ region) e = ap suc (length-cheapest prices region (omega arith))

get_or-cheapest : (prices : List Price) (region : List (ℤ × ℤ)) (i : ℕ) → i < length region → length prices ≡ length region → get_or (cheapest prices region) i (pos 0) ≡ clamped (get_or region i (pos 0, pos 0)) (old_of (get_or prices i (pos 0)))
get_or-cheapest prices [] i h e = absurd (omega arith)
get_or-cheapest [] (r ∷ region) i h e = absurd (omega arith)
get_or-cheapest (p ∷ prices) (r ∷ region) zero h e = refl
get_or-cheapest (p ∷ prices) (r ∷ region) (suc i) h e = get_or-cheapest prices region i (omega arith) (omega arith)

-- one more value of the cheapest point is written
pub cheapest_step : (prices : List Price) (region : List (ℤ × ℤ)) (into : List ℤ) (i : ℕ) (v : ℤ) → i < length region → length prices ≡ length region → length into ≡ length region → take i into ≡ take i (cheapest prices region) → v ≡ clamped (get_or region i (pos 0, pos 0)) (old_of (get_or prices i (pos 0))) → take (i + 1) (set into i v) ≡ take (i + 1) (cheapest prices region)
cheapest_step prices region into i v h e k front is =
    let more = take_more_set into i v (omega arith) in
    let same = take_more (cheapest prices region) i (pos 0) (omega (arith, length-cheapest prices region e)) in
    let here = get_or-cheapest prices region i h e in
    cc

-- the interval at a place, as `get` gives it
pub interval_from_get : (region : List (ℤ × ℤ)) (k : ℕ) (r : ℤ × ℤ) → slice_get region k ≡ Some r → interval_at region k ≡ r
interval_from_get region k r e = get_or_from_slice_get region k r (pos 0, pos 0) e

point_count-drop_suc : (region : List (ℤ × ℤ)) (i : ℕ) → i < length region → point_count (drop i region) ≡ (unsigned_abs ((get_or region i (pos 0, pos 0)).1 -ℤ (get_or region i (pos 0, pos 0)).0) + 1) * point_count (drop (suc i) region)
point_count-drop_suc [] i h = absurd (omega arith)
point_count-drop_suc (r ∷ region) zero h = refl
point_count-drop_suc (r ∷ region) (suc i) h = point_count-drop_suc region i (omega arith)

pub point_count-drop : (region : List (ℤ × ℤ)) (i : ℕ) → i < length region → point_count (drop i region) ≡ (unsigned_abs ((get_or region i (pos 0, pos 0)).1 -ℤ (get_or region i (pos 0, pos 0)).0) + 1) * point_count (drop (i + 1) region)
point_count-drop region i h = rw (add-one i) (point_count-drop_suc region i h)

product_positive : (a b : ℕ) → 1 ≤ b → 1 ≤ (a + 1) * b
product_positive a b h = grind arith

pub point_count_positive : (region : List (ℤ × ℤ)) → 1 ≤ point_count region
point_count_positive [] = omega arith
point_count_positive (r ∷ region) = product_positive (unsigned_abs (r.1 -ℤ r.0)) (point_count region) (point_count_positive region)

le_or_lt : (a b : ℕ) → (a ≤ b) ⊎ (b < a)
le_or_lt a b = grind arith

limit_grows : (limit rest : ℕ) → 1 ≤ rest → limit ≤ limit * rest
limit_grows limit rest h = grind arith

product_grows : (limit a rest : ℕ) → limit ≤ a → limit * rest ≤ a * rest
product_grows limit a rest h = grind arith

-- the product so far, where it passes the limit
pub cap_passed : (limit total width rest count : ℕ) → 1 ≤ rest → limit ≤ total * width → min (total * (width * rest)) limit ≡ min count limit → min (limit * rest) limit ≡ min count limit
cap_passed limit total width rest count h k e =
    let same : (total * width) * rest ≡ total * (width * rest) = omega arith in
    omega (arith, limit_grows limit rest h, product_grows limit (total * width) rest k)

-- the product so far, and the limit where it is more
pub cap_product : (limit total width rest count : ℕ) → 1 ≤ rest → min (total * (width * rest)) limit ≡ min count limit → min (min (total * width) limit * rest) limit ≡ min count limit
cap_product limit total width rest count h e =
    ⊎_elim (λ (k : limit ≤ total * width).
    let is : min (total * width) limit ≡ limit = omega arith in
    ap (λ a. min (a * rest) limit) is ∙ cap_passed limit total width rest count h k e)
    (λ (k : total * width < limit).
    let is : min (total * width) limit ≡ total * width = omega arith in
    let same : (total * width) * rest ≡ total * (width * rest) = omega arith in
    ap (λ a. min (a * rest) limit) is ∙ (ap (λ a. min a limit) same ∙ e))
    (le_or_lt limit (total * width))

pub cheapest_all : (prices : List Price) (region : List (ℤ × ℤ)) (into : List ℤ) (i : ℕ) → length region ≤ i → length prices ≡ length region → length into ≡ length region → take i into ≡ take i (cheapest prices region) → into ≡ cheapest prices region
cheapest_all prices region into i h e k front =
    let all = take_all i into (omega arith) in
    let both = take_all i (cheapest prices region) (omega (arith, length-cheapest prices region e)) in
    cc

is_true : {b : Bool} → b ≡ true → IsTrue b
is_true e = e

pub nearest_is : (prices olds : List Price) (region : List (ℤ × ℤ)) (i : ℕ) (r : ℤ × ℤ) (v : ℤ) → olds ≡ prices → slice_get region i ≡ Some r → v ≡ clamped (r.0, r.1) (get_or olds i (pos 0)) → v ≡ clamped (get_or region i (pos 0, pos 0)) (old_of (get_or prices i (pos 0)))
nearest_is prices olds region i r v e k h =
    let here = interval_from_get region i r k in
    h ∙ (ap (λ (os : List ℤ). clamped r (get_or os i (pos 0))) e ∙ ap (λ (s : ℤ × ℤ). clamped s (get_or prices i (pos 0))) (sym here))

pub best_of : (prices : List Price) (region : List (ℤ × ℤ)) (into : List ℤ) → length prices ≡ length region → into ≡ cheapest prices region → (q : List ℤ) → In region q → (q ≡ into → ⊥) → IsTrue (better prices into q)
best_of prices region into e is q inside other = rw is (is_true (cheapest_better prices region q e inside (λ same. other (same ∙ sym is))))

pub high_is : (region : List (ℤ × ℤ)) (place : ℕ) (cut : ℤ) (r : ℤ × ℤ) → slice_get region place ≡ Some r → cut <ℤ (interval_at region place).1 → cut <ℤ r.1
high_is region place cut r e h = subst (λ (s : ℤ × ℤ). cut <ℤ s.1) (interval_from_get region place r e) h

-- one more factor of the number of points
pub width_at : (region items : List (ℤ × ℤ)) (i n width : ℕ) → items ≡ region → i < length items → width ≡ unsigned_abs ((get_or items i (pos 0, pos 0)).1 -ℤ (get_or items i (pos 0, pos 0)).0) → n ≡ width → point_count (drop i region) ≡ (n + 1) * point_count (drop (i + 1) region)
width_at region items i n width e h w k =
    let at_items = point_count-drop items i h in
    let same : point_count (drop i items) ≡ (n + 1) * point_count (drop (i + 1) items) = rw (k, w) at_items in
    rw e at same

-- the product so far, where it fits its type, and where it does not
pub cap_fits : (limit total width rest count product now : ℕ) → 1 ≤ rest → min (total * (width * rest)) limit ≡ min count limit → product ≡ total * width → now ≡ min product limit → (min (now * rest) limit ≡ min count limit) × (now ≤ limit)
cap_fits limit total width rest count product now h e is here =
    (ap (λ a. min (a * rest) limit) (here ∙ ap (λ a. min a limit) is) ∙ cap_product limit total width rest count h e, omega arith)

pub cap_over : (limit end total width rest count now : ℕ) → 1 ≤ rest → min (total * (width * rest)) limit ≡ min count limit → limit ≤ end → (total * width < end → ⊥) → now ≡ limit → (min (now * rest) limit ≡ min count limit) × (now ≤ limit)
cap_over limit end total width rest count now h e within over here =
    let passed : limit ≤ total * width = omega (arith, over) in
    (ap (λ a. min (a * rest) limit) here ∙ cap_passed limit total width rest count h passed e, omega arith)

pub lower_is : (region made half : List (ℤ × ℤ)) (place : ℕ) (cut : ℤ) (r : ℤ × ℤ) → slice_get region place ≡ Some r → made ≡ region → half ≡ set made place (r.0, cut) → half ≡ lower_half region place cut
lower_is region made half place cut r e k h =
    let low = ap (λ (s : ℤ × ℤ). s.0) (interval_from_get region place r e) in
    cc

pub upper_is : (region made half : List (ℤ × ℤ)) (place : ℕ) (cut : ℤ) (r : ℤ × ℤ) → slice_get region place ≡ Some r → made ≡ region → half ≡ set made place (cut +ℤ pos 1, r.1) → half ≡ upper_half region place cut
upper_is region made half place cut r e k h =
    let high = ap (λ (s : ℤ × ℤ). s.1) (interval_from_get region place r e) in
    cc

pub halves_parts : (region lower upper : List (ℤ × ℤ)) (place : ℕ) (cut : ℤ) → place < length region → (interval_at region place).0 ≤ℤ cut → cut <ℤ (interval_at region place).1 → lower ≡ lower_half region place cut → upper ≡ upper_half region place cut → (q : List ℤ) → (In region q → In lower q ⊎ In upper q) × (In lower q ⊎ In upper q → In region q)
halves_parts region lower upper place cut within low high is_lower is_upper q = rw (is_lower, is_upper) (λ inside. halves_cover region place cut q within inside, λ part. ⊎_elim (λ l. lower_within region place cut q within high l) (λ u. upper_within region place cut q within low u) part)

pub halves_disjoint : (region lower upper : List (ℤ × ℤ)) (place : ℕ) (cut : ℤ) → place < length region → lower ≡ lower_half region place cut → upper ≡ upper_half region place cut → (q : List ℤ) → In lower q → In upper q → ⊥
halves_disjoint region lower upper place cut within is_lower is_upper q = rw (is_lower, is_upper) (λ l u. halves_apart region place cut q within l u)

pub ruleset step_lemmas = (cost-drop, cost-drop_all)
