-- A tree over a box has at most as many leaves as the box has points.
use Rattle.std.proofs.Common.{◌≡◌, ℕ, suc, zero, ◌+◌, ◌-◌, ◌*◌, ◌<◌, ◌≤◌, true, cond, List, [], ◌∷◌, length, get_or, set, ℤ, pos, ◌+ℤ◌, ◌-ℤ◌, ◌≤ℤ◌, int_lt, int_le, unsigned_abs, arith, refl, ap, ◌∙◌, inl, inr, mul-pos, mul-zero, mul_left_comm, count_by, sum_by}
use Rattle.std.specs.List.{AllByRecursion}
use Rattle.std.proofs.lemmas.Int.{ints}
use Rattle.std.proofs.lemmas.Bool.{and_parts, cases_lt}
use Rattle.std.proofs.lemmas.List.{get_or_past}
use Rattle.std.proofs.lemmas.List.Sums.{sum_by-cons}
use Rattle.qf_base.specs.Values.{Interval, Bounds, interval_of_var}
use Rattle.qf_base.proofs.Integers.{int_le_true, int_lt_true}
use Rattle.qf_tree.specs.declared.tree.Node.{Node}
use Rattle.qf_tree.specs.declared.tree.Node.TheVariants.{Split, Refuted, Dear, Open}
use Rattle.qf_point.specs.Points.{lower_half, upper_half, point_count}
use Rattle.qf_tree.specs.Certificates.{placed, cuts_inside, is_open}
use Rattle.qf_tree.specs.Sizes.{is_leaf, all_cut, is_worked, TreesAreSmall}
use Rattle.qf_tree.proofs.Trees.{is_whole, whole_trees}
use Rattle.std.specs.List.{list_any}

abbrev interval_size : Interval → ℕ
interval_size i = unsigned_abs (i.1 -ℤ i.0) + 1

size_is : (low high : ℤ) → low ≤ℤ high → interval_size (low, high) ≡ unsigned_abs (high -ℤ low) + 1
size_is low high h = refl

-- one interval of a box, and the points of the others
pub count_at : (region : Bounds) (place : ℕ) (d : Interval) → place < length region → (m : ℕ) × ((i : Interval) → point_count (set region place i) ≡ interval_size i * m) × (point_count region ≡ interval_size (get_or region place d) * m)
count_at [] place d h = absurd (omega arith)
count_at (i ∷ is) zero d h = (point_count is, λ j. refl, refl)
count_at (i ∷ is) (suc place) d h =
    let more = count_at is place d (omega arith) in (
      interval_size i * more.0,
      λ j. let e = more.1 j in ap (λ n. interval_size i * n) e ∙ mul_left_comm (interval_size i) (interval_size j) more.0,
      ap (λ n. interval_size i * n) more.2 ∙ mul_left_comm (interval_size i) (interval_size (get_or is place d)) more.0,
    )

inside_place : (region : Bounds) (param : ℕ) (cut : ℤ) → cuts_inside region param cut ≡ true → param - 1 < length region
inside_place region param cut e =
    elim (cases_lt (param - 1) (length region)) [
      | inl h ↦ h
      | inr h ↦
          let e2 = rw (get_or_past region (param - 1) (pos 0, pos 0) h) at e in
          let parts = and_parts (int_le (pos 0) cut) (int_lt cut (pos 0)) e2 in
          absurd (omega (arith, ints, int_le_true (pos 0) cut parts.0, int_lt_true cut (pos 0) parts.1))
    ]

factor_positive : (a m : ℕ) → 0 < a * m → 0 < m
factor_positive a zero h = absurd (omega (arith, mul-zero a))
factor_positive a (suc m) h = omega arith

pub halves_count : (region : Bounds) (param : ℕ) (cut : ℤ) → cuts_inside region param cut ≡ true → 0 < point_count region → (point_count (lower_half region (param - 1) cut) + point_count (upper_half region (param - 1) cut) ≡ point_count region) × (0 < point_count (lower_half region (param - 1) cut)) × (0 < point_count (upper_half region (param - 1) cut))
halves_count region param cut e h =
    let place = param - 1 in
    let inside = inside_place region param cut e in
    let at = count_at region place (pos 0, pos 0) inside in
    let m = at.0 in
    let i = interval_of_var region param in
    let parts = and_parts (int_le i.0 cut) (int_lt cut i.1) e in
    let low = int_le_true i.0 cut parts.0 in
    let high = int_lt_true cut i.1 parts.1 in
    let s1 = size_is i.0 cut (omega (arith, ints, low)) in
    let s2 = size_is (cut +ℤ pos 1) i.1 (omega (arith, ints, high)) in
    let s = size_is i.0 i.1 (omega (arith, ints, low, high)) in
    let l = at.1 (i.0, cut) in
    let r = at.1 (cut +ℤ pos 1, i.1) in
    let whole = at.2 in
    let some : 0 < m = factor_positive (interval_size i) m (omega (arith, h, whole)) in
    let sizes : interval_size (i.0, cut) + interval_size (cut +ℤ pos 1, i.1) ≡ interval_size i = omega (arith, ints, s1, s2, s, low, high) in
    let product = ap (λ n. n * m) sizes in (
      omega (arith, l, r, whole, product),
      let p : 0 < interval_size (i.0, cut) * m = mul-pos (omega (arith, s1)) some in omega (arith, l, p),
      let p : 0 < interval_size (cut +ℤ pos 1, i.1) * m = mul-pos (omega (arith, s2)) some in omega (arith, r, p),
    )

pub count_positive : (region : Bounds) → 0 < point_count region
count_positive [] = omega arith
count_positive (i ∷ is) = mul-pos (omega arith) (count_positive is)

abbrev pub HavePoints : List Bounds → Type 0
HavePoints regions = AllByRecursion (λ region. 0 < point_count region) regions

pub leaves_fit : (regions : List Bounds) (nodes : List Node) → is_whole regions nodes ≡ true → all_cut (placed regions nodes) ≡ true → HavePoints regions → count_by is_leaf nodes ≤ sum_by point_count regions
leaves_fit [] [] w c h = omega arith
leaves_fit (region ∷ regions) [] w c h = cc
leaves_fit [] (node ∷ nodes) w c h = cc
leaves_fit (region ∷ regions) (Split param cut row ∷ nodes) w c h =
    let parts = and_parts (cuts_inside region param cut) (all_cut (placed (lower_half region (param - 1) cut ∷ upper_half region (param - 1) cut ∷ regions) nodes)) c in
    let two = halves_count region param cut parts.0 h.0 in
    let more = leaves_fit (lower_half region (param - 1) cut ∷ upper_half region (param - 1) cut ∷ regions) nodes w parts.1 (two.1, (two.2, h.1)) in
    omega (arith, more, two.0, sum_by-cons point_count region regions, sum_by-cons point_count (lower_half region (param - 1) cut) (upper_half region (param - 1) cut ∷ regions), sum_by-cons point_count (upper_half region (param - 1) cut) regions)
leaves_fit (region ∷ regions) (Refuted row steps ∷ nodes) w c h =
    omega (arith, leaves_fit regions nodes w c h.1, h.0, sum_by-cons point_count region regions, sum_by-cons (λ (n : Node). cond (is_leaf n) 1 0) (Refuted row steps) nodes)
leaves_fit (region ∷ regions) (Dear ∷ nodes) w c h =
    omega (arith, leaves_fit regions nodes w c h.1, h.0, sum_by-cons point_count region regions, sum_by-cons (λ (n : Node). cond (is_leaf n) 1 0) Dear nodes)
leaves_fit (region ∷ regions) (Open ∷ nodes) w c h =
    omega (arith, leaves_fit regions nodes w c h.1, h.0, sum_by-cons point_count region regions, sum_by-cons (λ (n : Node). cond (is_leaf n) 1 0) Open nodes)

worked_cons : (n : Node) (nodes : List Node) → count_by is_worked (n ∷ nodes) ≡ cond (is_worked n) 1 0 + count_by is_worked nodes
worked_cons n nodes = sum_by-cons (λ (n : Node). cond (is_worked n) 1 0) n nodes

leaf_cons : (n : Node) (nodes : List Node) → count_by is_leaf (n ∷ nodes) ≡ cond (is_leaf n) 1 0 + count_by is_leaf nodes
leaf_cons n nodes = sum_by-cons (λ (n : Node). cond (is_leaf n) 1 0) n nodes

pub worked_fit : (regions : List Bounds) (nodes : List Node) → is_whole regions nodes ≡ true → count_by is_worked nodes + length regions ≤ 2 * count_by is_leaf nodes
worked_fit [] [] w = omega arith
worked_fit (region ∷ regions) [] w = cc
worked_fit [] (node ∷ nodes) w = cc
worked_fit (region ∷ regions) (Split param cut row ∷ nodes) w =
    omega (arith, worked_fit (lower_half region (param - 1) cut ∷ upper_half region (param - 1) cut ∷ regions) nodes w, worked_cons (Split param cut row) nodes, leaf_cons (Split param cut row) nodes)
worked_fit (region ∷ regions) (Refuted row steps ∷ nodes) w =
    omega (arith, worked_fit regions nodes w, worked_cons (Refuted row steps) nodes, leaf_cons (Refuted row steps) nodes)
worked_fit (region ∷ regions) (Dear ∷ nodes) w =
    omega (arith, worked_fit regions nodes w, worked_cons Dear nodes, leaf_cons Dear nodes)
worked_fit (region ∷ regions) (Open ∷ nodes) w =
    omega (arith, worked_fit regions nodes w, worked_cons Open nodes, leaf_cons Open nodes)

pub worked_open_fit : (regions : List Bounds) (nodes : List Node) → is_whole regions nodes ≡ true → list_any is_open nodes ≡ true → count_by is_worked nodes + length regions + 1 ≤ 2 * count_by is_leaf nodes
worked_open_fit [] [] w o = cc
worked_open_fit (region ∷ regions) [] w o = cc
worked_open_fit [] (node ∷ nodes) w o = cc
worked_open_fit (region ∷ regions) (Split param cut row ∷ nodes) w o =
    omega (arith, worked_open_fit (lower_half region (param - 1) cut ∷ upper_half region (param - 1) cut ∷ regions) nodes w o, worked_cons (Split param cut row) nodes, leaf_cons (Split param cut row) nodes)
worked_open_fit (region ∷ regions) (Refuted row steps ∷ nodes) w o =
    omega (arith, worked_open_fit regions nodes w o, worked_cons (Refuted row steps) nodes, leaf_cons (Refuted row steps) nodes)
worked_open_fit (region ∷ regions) (Dear ∷ nodes) w o =
    omega (arith, worked_open_fit regions nodes w o, worked_cons Dear nodes, leaf_cons Dear nodes)
worked_open_fit (region ∷ regions) (Open ∷ nodes) w o =
    omega (arith, worked_fit regions nodes w, worked_cons Open nodes, leaf_cons Open nodes)

pub small_trees : TreesAreSmall
small_trees root nodes trees cuts e =
    let w = whole_trees (root ∷ []) nodes trees in
    let fit : count_by is_leaf nodes ≤ point_count root = omega (arith, leaves_fit (root ∷ []) nodes w cuts (count_positive root, tt), sum_by-cons point_count root []) in
    record {
      leaves = fit;
      worked = omega (arith, fit, worked_fit (root ∷ []) nodes w);
      worked_open = λ o. omega (arith, fit, worked_open_fit (root ∷ []) nodes w o);
    }
