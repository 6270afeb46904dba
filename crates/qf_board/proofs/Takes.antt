-- The first open leaf in the order of the keys is the one with the best key.
use Rattle.std.specs.Prelude.{◌≡◌, ◌≢◌, ℕ, suc, zero, ◌+◌, ◌<◌, ◌≤◌, ◌⊎◌, ℤ, Bool, true, false, cond, if◌then◌else◌, ◌&&◌, ◌||◌, not, List, [], ◌∷◌, length, slice_set, nat_eq}
use Rattle.std.specs.declared.option.Option.{Option}
use Rattle.std.specs.declared.option.Option.TheVariants.{Some, None}
use Rattle.std.specs.declared.vec.Vec.{Vec}
use Rattle.std.specs.declared.alloc.Global.{Global}
use Rattle.std.specs.Option.{option_map, is_some}
use Rattle.std.specs.List.{AllByRecursion, find, list_all, list_any, position, count_by}
use Rattle.std.specs.List.Sorted.{IsStrictlySortedBy}
use Rattle.std.specs.declared.cmp.Ordering.TheVariants.{Less}
use Rattle.std.proofs.Common.{arith, refl, sym, ap, ◌∙◌, subst, get_or, inl, ⊎_elim, nat_lt}
use Rattle.std.proofs.lemmas.Bool.{false≢true}
use Rattle.std.proofs.lemmas.Bool.Decides.{eqb_tells, nat_tests}
use Rattle.std.proofs.lemmas.Option.{none-some}
use Rattle.std.proofs.lemmas.List.{length-map, get_or_default, get_or-set_same, get_or-set_other, length-set}
use Rattle.std.proofs.lemmas.List.Sums.{list_all-from_AllPass, position_or_len_is}
use Rattle.std.proofs.lemmas.List.Folds.{list_all_at, list_any_none, list_any_at}
use Rattle.qf_point.specs.Points.{Price, cost, better, cheapest, is_in, In}
use Rattle.qf_point.specs.Bests.{beats}
use Rattle.qf_point.proofs.PointLaws.{better_itself, better_one_way, better_cases, not_better_trans, cheapest_in, is_in-In}
use Rattle.qf_board.specs.declared.nodes.Kind.TheVariants as kind
use Rattle.qf_board.specs.declared.nodes.Link.{Link}
use Rattle.qf_board.specs.declared.keys.Key.{Key}
use Rattle.qf_board.specs.declared.board.Board.TheInside.{Inside}
use Rattle.qf_board.specs.Boards.{BoardState, Place, Split, Refuted, Open, Held, Box, boxes, box_at, put_at, best_place, is_leaf, is_open, is_held, is_held_by, is_counted, is_wanted, is_best_wanted, HoldsNone, has_ended}
use Rattle.qf_board.specs.Allowed.{is_left}
use Rattle.qf_board.specs.Numbered.{Numbered, link_at, chain, numbered, place_of, box_of}
use Rattle.qf_board.specs.Kept.{key_cmp, state_of, IsKept, IsKeyOf, IsListed, has_key, held_number, first_held, with_kind, is_open_at, IsReal, wanted_number, best_number}
use Rattle.qf_board.proofs.Lists.{put_in, all_put, all_map, all_both, all_at, find-put, find-put_here, fail-count}
use Rattle.qf_board.proofs.Chains.{linked_kind}
use Rattle.qf_board.proofs.KeySets.{first_of, found_among, none_of, before_better}
use Rattle.qf_board.proofs.BoardLaws.{boxed_place, boxed_leaf, length-boxed, partition, position-None, count_by-put, count_by-cons, sound_take, best_place_open, best_is_leaf, box_fits}
use Rattle.qf_board.proofs.Others.{open_apart, apart_test}
use Rattle.qf_board.proofs.Keeps.{none, spot, none_held, listed_put, listed_below, nodes_below, kept_new}

-- ---- places of the first that passes

within_some : (i n : ℕ) → i < n → cond {A = Option ℕ} (nat_lt i n) (Some i) None ≡ Some i
within_some i n h = grind (arith, nat_tests)

past_none : (i n : ℕ) → n ≤ i → cond {A = Option ℕ} (nat_lt i n) (Some i) None ≡ None
past_none i n h = grind (arith, nat_tests)

position-first : {X : Type 0} (p : X → Bool) (xs : List X) (i : ℕ) (d : X) → i < length xs → p (get_or xs i d) ≡ true → ((k : ℕ) → k < i → p (get_or xs k d) ≡ false) → position p xs ≡ Some i
position-first p xs i d within here before =
    let is = position_or_len_is p xs i d (omega arith) before (λ _. here) in
    ap (λ (n : ℕ). cond (nat_lt n (length xs)) (Some n) None) is ∙ within_some i (length xs) within

position-nowhere : {X : Type 0} (p : X → Bool) (xs : List X) (d : X) → ((k : ℕ) → k < length xs → p (get_or xs k d) ≡ false) → position p xs ≡ None
position-nowhere p xs d before =
    let is = position_or_len_is p xs (length xs) d (omega arith) before (λ h. absurd (omega arith)) in
    ap (λ (n : ℕ). cond (nat_lt n (length xs)) (Some n) None) is ∙ past_none (length xs) (length xs) (omega arith)

-- ---- the nodes with keys

listed_at : (prices : List Price) (key : Key) (xs : List Numbered) → IsListed prices key xs → (k : ℕ) × (k < length xs) × IsKeyOf prices (get_or xs k none) key
listed_at prices key [] h = absurd h
listed_at prices key (x ∷ xs) h =
    ⊎_elim (λ here. (0, omega arith, here)) (λ there. let rest = listed_at prices key xs there in (suc rest.0, omega (arith, rest.1), rest.2)) h

any_with : (P : Key → Type 0) (test : Key → Bool) (ks : List Key) → AllByRecursion P ks → list_any test ks ≡ true → (q : Key) × (test q ≡ true) × P q
any_with P test [] h e = absurd (false≢true e)
any_with P test (x ∷ xs) h e =
    elim (test x) as (λ b. test x ≡ b → (b || list_any test xs) ≡ true → (q : Key) × (test q ≡ true) × P q) [
      | true ↦ λ t f. (x, t, h.0)
      | false ↦ λ t f. any_with P test xs h.1 f
    ] refl e

open_left : (p : Place) → is_open p ≡ true → is_left p ≡ true
open_left (Split param cut row) h = absurd (false≢true h)
open_left (Refuted row steps) h = absurd (false≢true h)
open_left Open h = refl
open_left (Held w) h = absurd (false≢true h)

open_leaf : (p : Place) → is_open p ≡ true → is_leaf p ≡ true
open_leaf (Split param cut row) h = absurd (false≢true h)
open_leaf (Refuted row steps) h = absurd (false≢true h)
open_leaf Open h = refl
open_leaf (Held w) h = absurd (false≢true h)

open_counts : (p : Place) → is_open p ≡ true → (is_counted p ≡ false) × (is_held p ≡ false)
open_counts (Split param cut row) h = absurd (false≢true h)
open_counts (Refuted row steps) h = absurd (false≢true h)
open_counts Open h = (refl, refl)
open_counts (Held w) h = absurd (false≢true h)

same_number : (m n : ℕ) → nat_eq m n ≡ true → m ≡ n
same_number m n e = ⊎_elim (λ same. same.1) (λ other. absurd (false≢true (sym other.0 ∙ e))) (eqb_tells m n)

-- ---- two that pass

count_one : (test : Box × Place → Bool) (bs : List (Box × Place)) (k : ℕ) (d : Box × Place) → k < length bs → test (get_or bs k d) ≡ true → 1 ≤ count_by test bs
count_one test [] k d within passes = absurd (omega arith)
count_one test (x ∷ bs) zero d within passes =
    let this = count_by-cons test x bs in
    let one : cond {A = ℕ} (test x) 1 0 ≡ 1 = ap (λ (b : Bool). cond {A = ℕ} b 1 0) passes in
    omega arith
count_one test (x ∷ bs) (suc k) d within passes =
    let this = count_by-cons test x bs in
    let more = count_one test bs k d (omega arith) passes in
    omega arith

count_two : (test : Box × Place → Bool) (bs : List (Box × Place)) (j k : ℕ) (d : Box × Place) → j < k → k < length bs → test (get_or bs j d) ≡ true → test (get_or bs k d) ≡ true → 2 ≤ count_by test bs
count_two test [] j k d below within first second = absurd (omega arith)
count_two test (x ∷ bs) j zero d below within first second = absurd (omega arith)
count_two test (x ∷ bs) zero (suc k) d below within first second =
    let this = count_by-cons test x bs in
    let one : cond {A = ℕ} (test x) 1 0 ≡ 1 = ap (λ (b : Bool). cond {A = ℕ} b 1 0) first in
    let more = count_one test bs k d (omega arith) second in
    omega arith
count_two test (x ∷ bs) (suc j) (suc k) d below within first second =
    let this = count_by-cons test x bs in
    let more = count_two test bs j k d (omega arith) (omega arith) first second in
    omega arith

at_most_one : (n : ℕ) (c : Bool) → n ≡ cond {A = ℕ} c 1 0 → 2 ≤ n → ⊥
at_most_one n true e h = omega arith
at_most_one n false e h = omega arith

and_both : (a b : Bool) → a ≡ true → b ≡ true → (a && b) ≡ true
and_both a b h k = rw (h, k) refl

and_second : (a b : Bool) → (a ≡ true → b ≡ false) → (a && b) ≡ false
and_second true b h = h refl
and_second false b h = refl

and_parts : (a b : Bool) → (a && b) ≡ true → (a ≡ true) × (b ≡ true)
and_parts true true h = (refl, refl)
and_parts true false h = absurd (false≢true h)
and_parts false b h = absurd (false≢true h)

passes_test : (w b : Bool) → (w ≡ true → b ≡ false) → not (w && b) ≡ true
passes_test true b h = ap not (h refl)
passes_test false b h = refl

fails_test : (w b : Bool) → w ≡ true → b ≡ true → not (w && b) ≡ false
fails_test w b h k = rw (h, k) refl

pub not_not : (b : Bool) → not (not b) ≡ b
not_not true = refl
not_not false = refl

itself : (n : ℕ) → nat_eq n n ≡ true
itself n = ⊎_elim (λ same. same.0) (λ other. absurd (other.1 refl)) (eqb_tells n n)

not_zero : (n : ℕ) → nat_eq n 0 ≡ false → 1 ≤ n
not_zero n e = grind (arith, nat_tests)

-- one that passes, where some do
some_held : (test : Place → Bool) (ps : List Place) (n : ℕ) → 1 ≤ n → count_by test ps ≡ n → (k : ℕ) × (k < length ps) × (test (get_or ps k Open) ≡ true)
some_held test [] n h e = absurd (omega arith)
some_held test (p ∷ ps) n h e =
    elim (test p) as (λ b. test p ≡ b → (k : ℕ) × (k < length (p ∷ ps)) × (test (get_or (p ∷ ps) k Open) ≡ true)) [
      | true ↦ λ t. (0, omega arith, t)
      | false ↦ λ t.
          let is : cond {A = ℕ} (test p) 1 0 ≡ 0 = ap (λ (b : Bool). cond {A = ℕ} b 1 0) t in
          let all : count_by test (p ∷ ps) ≡ cond {A = ℕ} (test p) 1 0 + count_by test ps = count_by-cons test p ps in
          let rest = some_held test ps n h (omega arith) in
          (suc rest.0, omega (arith, rest.1), rest.2)
    ] refl

abbrev number_or : Option ℕ → ℕ
number_or None = 0
number_or (Some n) = n

wanted_parts : (w : Bool) (leaf at : ℕ) → (if w then Some leaf else None) ≡ Some at → (w ≡ true) × (leaf ≡ at)
wanted_parts true leaf at e = (refl, ap number_or e)
wanted_parts false leaf at e = absurd (none-some at e)

unwanted : (w : Bool) (leaf : ℕ) → (if w then Some leaf else None) ≡ None → w ≡ false
unwanted true leaf e = absurd (none-some leaf (sym e))
unwanted false leaf e = refl

module _ (b : Inside) (kept : IsKept b) where
  abbrev xs : List Numbered
  xs = numbered b.links.items

  abbrev s : BoardState
  s = state_of b

  abbrev open_key : Key → Bool
  open_key key = is_open_at b.links.items key.leaf

  abbrev point : ℕ → List ℤ
  point j = cheapest b.olds (box_at s j)

  places_many : length xs ≡ length s.places
  places_many = sym (length-map xs place_of)

  -- the key of an open leaf
  pub open_has_key : (P : Key → Type 0) → AllByRecursion P b.left.keys → (j : ℕ) → j < length s.places → is_open (get_or s.places j Open) ≡ true → (q : Key) × P q × (open_key q ≡ true) × (q.values.items ≡ point j) × (q.cost ≡ cost b.olds (point j))
  open_has_key P all j within opened =
      let at = (get_or xs j none).0 in
      let here = spot b j at kept within refl in
      let left : is_left (place_of (get_or xs j none)) ≡ true = ap (λ (x : Numbered). is_left (place_of x)) here.node ∙ (sym (ap is_left here.place) ∙ open_left (get_or s.places j Open) opened) in
      let has = all_at (λ (x : Numbered). is_left (place_of x) ≡ true → has_key b.left.keys x.0 ≡ true) xs j none kept.left here.inside left in
      let found = any_with (λ (q : Key). P q × IsListed b.olds q xs) (λ (q : Key). nat_eq q.leaf at) b.left.keys (all_both P (λ (q : Key). IsListed b.olds q xs) b.left.keys all kept.listed) has in
      let q = found.0 in
      let leaf : q.leaf ≡ at = same_number q.leaf at found.1 in
      let its = listed_at b.olds q xs found.2.1 in
      let many = places_many in
      let there = spot b its.0 at kept (omega (arith, its.1)) (sym its.2.leaf ∙ leaf) in
      let same : get_or xs its.0 none ≡ get_or xs j none = there.node ∙ sym here.node in
      let region : box_of (get_or xs its.0 none) ≡ box_at s j = ap box_of (same ∙ here.node) ∙ here.region in (
        q,
        found.2.0,
        ap (is_open_at b.links.items) leaf ∙ (sym (ap is_open here.place) ∙ opened),
        its.2.values ∙ ap (cheapest b.olds) region,
        its.2.cost ∙ ap (λ (r : Box). cost b.olds (cheapest b.olds r)) region,
      )

  -- where the first open one in the order of the keys stands
  pub record First (key : Key) : Type 0 where
    pub place : ℕ
    pub within : place < length s.places
    pub number : (get_or xs place none).0 ≡ key.leaf
    pub values : key.values.items ≡ point place
    pub opened : is_open (get_or s.places place Open) ≡ true
    pub best : (j : ℕ) → j < length s.places → is_open (get_or s.places j Open) ≡ true → better b.olds (point j) (point place) ≡ false

  pub first_stands : IsStrictlySortedBy key_cmp b.left.keys → (key : Key) → find open_key b.left.keys ≡ Some key → First key
  first_stands sorted key e =
      let first = first_of open_key b.left.keys key sorted e in
      let its = listed_at b.olds key xs (found_among (λ (q : Key). IsListed b.olds q xs) open_key b.left.keys key e kept.listed) in
      let k = its.0 in
      let many = places_many in
      let within : k < length s.places = omega (arith, its.1) in
      let here = spot b k key.leaf kept within (sym its.2.leaf) in
      let region : box_of (get_or xs k none) ≡ box_at s k = ap box_of here.node ∙ here.region in
      let values : key.values.items ≡ point k = its.2.values ∙ ap (cheapest b.olds) region in
      let costs : key.cost ≡ cost b.olds key.values.items = its.2.cost ∙ sym (ap (cost b.olds) its.2.values) in
      record {
        place = k;
        within = within;
        number = sym its.2.leaf;
        values = values;
        opened = ap is_open here.place ∙ first.passes;
        best = λ j below opened.
            let q = open_has_key (λ (x : Key). open_key x ≡ true → (x ≡ key) ⊎ (key_cmp key x ≡ Less)) first.before j below opened in
            let q_cost : q.0.cost ≡ cost b.olds q.0.values.items = q.4 ∙ sym (ap (cost b.olds) q.3) in
            let no_better : better b.olds q.0.values.items key.values.items ≡ false =
            ⊎_elim (λ same. ap (λ (x : Key). better b.olds x.values.items key.values.items) same ∙ better_itself b.olds key.values.items)
            (λ less. ⊎_elim (λ more. better_one_way b.olds key.values.items q.0.values.items more) (λ same. ap (λ (v : List ℤ). better b.olds v key.values.items) (sym same) ∙ better_itself b.olds key.values.items) (before_better b.olds key q.0 costs q_cost less))
            (q.1 q.2) in
            sym (ap (λ (v : List ℤ). better b.olds v key.values.items) q.3 ∙ ap (λ (v : List ℤ). better b.olds (point j) v) values) ∙ no_better;
      }

  boxes_many : length (boxes s) ≡ length s.places
  boxes_many = length-boxed s.places (b.root ∷ []) kept.sound.stands

  place_at : (j : ℕ) → j < length s.places → (get_or (boxes s) j ([], Open)).1 ≡ get_or s.places j Open
  place_at j within = let many = boxes_many in (boxed_place s.places (b.root ∷ []) j [] Open (omega arith)).1

  spans_at : (j : ℕ) → j < length s.places → (length b.olds ≡ length (box_at s j)) × In (box_at s j) (point j)
  spans_at j within =
      let many = boxes_many in
      let fits = box_fits s j kept.sound (omega arith) in
      let long : length b.olds ≡ length (box_at s j) = kept.sound.priced ∙ sym fits.same in
      (long, cheapest_in b.olds (box_at s j) long fits.spans)

  -- of two open leaves the points differ
  points_apart : (j k : ℕ) → j < k → k < length s.places → is_open (get_or s.places j Open) ≡ true → is_open (get_or s.places k Open) ≡ true → point j ≡ point k → ⊥
  points_apart j k below within first second same =
      let many = boxes_many in
      let p = point k in
      let inside = λ (x : Box × Place). is_leaf x.1 && is_in x.0 p in
      let at_j : inside (get_or (boxes s) j ([], Open)) ≡ true =
      and_both (is_leaf (get_or (boxes s) j ([], Open)).1) (is_in (box_at s j) p) (ap is_leaf (place_at j (omega arith)) ∙ open_leaf (get_or s.places j Open) first)
      (is_in-In (box_at s j) p (subst (λ (q : List ℤ). In (box_at s j) q) same (spans_at j (omega arith)).1)) in
      let at_k : inside (get_or (boxes s) k ([], Open)) ≡ true =
      and_both (is_leaf (get_or (boxes s) k ([], Open)).1) (is_in (box_at s k) p) (ap is_leaf (place_at k within) ∙ open_leaf (get_or s.places k Open) second)
      (is_in-In (box_at s k) p (spans_at k within).1) in
      at_most_one (count_by inside (boxes s)) (is_in b.root p) (partition s kept.sound.stands p) (count_two inside (boxes s) j k ([], Open) below (omega arith) at_j at_k)

  abbrev wanted : ℕ → Bool
  wanted j = is_wanted s.prices s.best (get_or (boxes s) j ([], Open))

  wanted_open : (j : ℕ) → j < length s.places → wanted j ≡ true → is_open (get_or s.places j Open) ≡ true
  wanted_open j within h = sym (ap is_open (place_at j within)) ∙ (and_parts (is_open (get_or (boxes s) j ([], Open)).1) (beats s.prices s.best (point j)) h).0

  -- the best wanted leaf is the first open one
  pub best_stands : (key : Key) (first : First key) → beats b.olds s.best key.values.items ≡ true → best_place s ≡ Some first.place
  best_stands key first beats_it =
      let k = first.place in
      let many = boxes_many in
      let here : wanted k ≡ true = and_both (is_open (get_or (boxes s) k ([], Open)).1) (beats s.prices s.best (point k)) (ap is_open (place_at k first.within) ∙ first.opened) (ap (beats b.olds s.best) (sym first.values) ∙ beats_it) in
      let test = λ (i : ℕ) (y : Box × Place). not (is_wanted s.prices s.best y && better s.prices (cheapest s.prices y.0) (point i)) in
      position-first (is_best_wanted s.prices s.best (boxes s)) (boxes s) k ([], Open) (omega (arith, first.within))
      (and_both (wanted k) (list_all (test k) (boxes s)) here
      (list_all-from_AllPass (test k) (boxes s) (λ j d below.
      subst (λ (y : Box × Place). test k y ≡ true) (sym (get_or_default (boxes s) j d ([], Open) below))
      (passes_test (wanted j) (better s.prices (point j) (point k)) (λ w. first.best j (omega arith) (wanted_open j (omega arith) w))))))
      (λ j below. and_second (wanted j) (list_all (test j) (boxes s)) (λ w.
      let under : j < length s.places = omega (arith, first.within) in
      let opened = wanted_open j under w in
      list_all_at (test j) (boxes s) k ([], Open) (omega (arith, first.within))
      (fails_test (wanted k) (better s.prices (point k) (point j)) here
      (⊎_elim (λ (more : better b.olds (point k) (point j) ≡ true). more)
      (λ rest. ⊎_elim (λ (same : point k ≡ point j). absurd (points_apart j k below first.within opened first.opened (sym same))) (λ (less : better b.olds (point j) (point k) ≡ true). absurd (false≢true (sym (first.best j under opened) ∙ less))) rest)
      (better_cases b.olds (point k) (point j))))))

  not_beaten : (f : Option (List ℤ)) (p q : List ℤ) → beats b.olds f p ≡ false → better b.olds q p ≡ false → beats b.olds f q ≡ false
  not_beaten None p q h m = absurd (false≢true (sym h))
  not_beaten (Some g) p q h m = not_better_trans b.olds g p q h m

  -- where the first open one is not wanted, none is
  pub none_wanted : IsStrictlySortedBy key_cmp b.left.keys → best_number b.olds s.best b.links.items b.left.keys ≡ None → (j : ℕ) → j < length s.places → wanted j ≡ false
  none_wanted sorted e j within =
      by_first (find open_key b.left.keys) refl
    where
      by_first : (o : Option Key) → find open_key b.left.keys ≡ o → wanted j ≡ false
      by_first None f =
          and_second (is_open (get_or (boxes s) j ([], Open)).1) (beats s.prices s.best (point j))
          (λ opened. let q = open_has_key (λ (x : Key). open_key x ≡ false) (none_of open_key b.left.keys f) j within (sym (ap is_open (place_at j within)) ∙ opened) in absurd (false≢true (sym q.1 ∙ q.2)))
      by_first (Some key) f =
          let first = first_stands sorted key f in
          let loses : beats b.olds s.best key.values.items ≡ false = unwanted (beats b.olds s.best key.values.items) key.leaf (sym (ap (wanted_number b.olds s.best) f) ∙ e) in
          and_second (is_open (get_or (boxes s) j ([], Open)).1) (beats s.prices s.best (point j))
          (λ opened. not_beaten s.best (point first.place) (point j) (ap (beats b.olds s.best) (sym first.values) ∙ loses) (first.best j within (sym (ap is_open (place_at j within)) ∙ opened)))

  pub best_nowhere : IsStrictlySortedBy key_cmp b.left.keys → best_number b.olds s.best b.links.items b.left.keys ≡ None → best_place s ≡ None
  best_nowhere sorted e =
      let many = boxes_many in
      position-nowhere (is_best_wanted s.prices s.best (boxes s)) (boxes s) ([], Open)
      (λ j below. and_second (wanted j) _ (λ w. absurd (false≢true (sym (none_wanted sorted e j (omega arith)) ∙ w))))

  pub best_somewhere : IsStrictlySortedBy key_cmp b.left.keys → (at : ℕ) → best_number b.olds s.best b.links.items b.left.keys ≡ Some at → (k : ℕ) × (best_place s ≡ Some k) × ((get_or xs k none).0 ≡ at) × (wanted k ≡ true)
  best_somewhere sorted at e = by_first (find open_key b.left.keys) refl
    where
      by_first : (o : Option Key) → find open_key b.left.keys ≡ o → (k : ℕ) × (best_place s ≡ Some k) × ((get_or xs k none).0 ≡ at) × (wanted k ≡ true)
      by_first None f = absurd (none-some _ (sym (ap (wanted_number b.olds s.best) f) ∙ e))
      by_first (Some key) f =
          let first = first_stands sorted key f in
          let wins = wanted_parts (beats b.olds s.best key.values.items) key.leaf at (sym (ap (wanted_number b.olds s.best) f) ∙ e) in
          let stands = best_stands key first wins.0 in
          let k = first.place in
          (k, stands, first.number ∙ wins.1, and_both (is_open (get_or (boxes s) k ([], Open)).1) (beats s.prices s.best (point k)) (ap is_open (place_at k first.within) ∙ first.opened) (ap (beats b.olds s.best) (sym first.values) ∙ wins.0))

  -- whether there is a wanted leaf
  pub nothing_wanted : IsStrictlySortedBy key_cmp b.left.keys → best_number b.olds s.best b.links.items b.left.keys ≡ None → false ≡ list_any (is_wanted s.prices s.best) (boxes s)
  nothing_wanted sorted e =
      let many = boxes_many in
      sym (list_any_none (is_wanted s.prices s.best) (boxes s) (λ j d below. ap (is_wanted s.prices s.best) (get_or_default (boxes s) j d ([], Open) below) ∙ none_wanted sorted e j (omega arith)))

  pub something_wanted : (k : ℕ) → k < length s.places → wanted k ≡ true → true ≡ list_any (is_wanted s.prices s.best) (boxes s)
  something_wanted k within is =
      let many = boxes_many in
      sym (list_any_at (is_wanted s.prices s.best) (boxes s) k ([], Open) (omega arith) is)

  -- each key is that of a node
  pub real_keys : AllByRecursion (IsReal b.olds b.links.items) b.left.keys
  real_keys =
      all_map (λ (q : Key). IsListed b.olds q xs) (IsReal b.olds b.links.items) b.left.keys
      (λ q h. let its = listed_at b.olds q xs h in (listed_below b.olds q xs (length b.links.items) (nodes_below b.links.items (chain b.links.items) (length b.links.items) kept.linked.below) h, its.2.cost ∙ sym (ap (cost b.olds) its.2.values))) kept.listed

  -- the best wanted leaf is held then
  pub kept_take : (who k at : ℕ) → best_place s ≡ Some k → (get_or xs k none).0 ≡ at → HoldsNone s who → who < length b.held.items → (links : Vec Link Global) (held : Vec (Option ℕ) Global) (holding : ℕ) → links.items ≡ slice_set b.links.items at (with_kind (link_at b.links.items at) (kind.Held who)) → held.items ≡ slice_set b.held.items who (Some at) → holding ≡ b.holding + 1
      → IsKept (record b { links = links; held = held; holding = holding }) × (state_of (record b { links = links; held = held; holding = holding }) ≡ put_at s k (Held who ∷ []))
  kept_take who k at is number free small links held holding put taken more =
      let opened = best_place_open s k is in
      let was = best_is_leaf s k is in
      let here = spot b k at kept opened.0 number in
      let node : Numbered = (at, record (link_at b.links.items at).node { kind = kind.Held who }) in
      let both = linked_kind b.links.items links.items k at (kind.Held who) put kept.linked here.within here.number in
      let opened_node : is_open (place_of (get_or xs k none)) ≡ true = ap (λ (x : Numbered). is_open (place_of x)) here.node ∙ (sym (ap is_open here.place) ∙ opened.1) in
      let nobody = none_held who xs (position-None (is_held_by who) s.places free) in
      let counting = count_by-put is_counted s.places (Held who ∷ []) k Open opened.0 in
      let holding_all = count_by-put is_held s.places (Held who ∷ []) k Open opened.0 in
      let counts = open_counts (get_or s.places k Open) opened.1 in
      let no_count : cond {A = ℕ} (is_counted (get_or s.places k Open)) 1 0 ≡ 0 = ap (λ (c : Bool). cond {A = ℕ} c 1 0) counts.0 in
      let no_hold : cond {A = ℕ} (is_held (get_or s.places k Open)) 1 0 ≡ 0 = ap (λ (c : Bool). cond {A = ℕ} c 1 0) counts.1 in
      let held_is = λ (w : ℕ).
      ⊎_elim
      (λ (same : (nat_eq w who ≡ true) × (w ≡ who)).
      ap (held_number held.items) same.1 ∙ (ap (λ (hs : List (Option ℕ)). held_number hs who) taken ∙ (get_or-set_same b.held.items who (Some at) None small
      ∙ (sym (ap (option_map (λ (x : Numbered). x.0)) (find-put_here (λ (x : Numbered). is_held_by who (place_of x)) xs k node here.inside nobody (itself who)))
      ∙ ap (λ (v : ℕ). first_held v (put_in xs k (node ∷ []))) (sym same.1)))))
      (λ (other : (nat_eq w who ≡ false) × (w ≢ who)).
      ap (λ (hs : List (Option ℕ)). held_number hs w) taken
      ∙ (get_or-set_other b.held.items who w (Some at) None other.1
      ∙ (kept.held w
      ∙ sym (ap (option_map (λ (x : Numbered). x.0)) (find-put (λ (x : Numbered). is_held_by w (place_of x)) xs (node ∷ []) k none here.inside (open_apart w (place_of (get_or xs k none)) opened_node) (apart_test who w other.1, tt))))))
      (eqb_tells w who) in
      let region : (link_at b.links.items at).node.region ≡ box_at s k = here.region in
      kept_new b kept k (node ∷ []) links held b.left b.counted holding b.best b.room both.0 both.1 (ap length taken ∙ length-set b.held.items who (Some at))
      (sound_take s who (Some k) is free kept.sound)
      (boxed_leaf s.places (b.root ∷ []) k Open (Held who) refl was.0 was.1 kept.sound.stands ∙ ap (λ (r : Box). put_in (boxes s) k ((r, Held who) ∷ [])) (sym region))
      held_is
      (all_map (λ (key : Key). IsListed b.olds key xs) (λ (key : Key). IsListed b.olds key (put_in xs k (node ∷ []))) b.left.keys
      (λ key h. listed_put b.olds key xs (node ∷ []) k here.inside (λ mine. let it = subst (λ (x : Numbered). IsKeyOf b.olds x key) here.node mine in inl (record { leaf = it.leaf; left = refl; values = it.values; cost = it.cost })) h) kept.listed)
      (all_put (λ (x : Numbered). is_left (place_of x) ≡ true → has_key b.left.keys x.0 ≡ true) xs (node ∷ []) k kept.left
      ((λ _. ap (has_key b.left.keys) (sym number) ∙ all_at (λ (x : Numbered). is_left (place_of x) ≡ true → has_key b.left.keys x.0 ≡ true) xs k none kept.left here.inside (open_left (place_of (get_or xs k none)) opened_node)), tt))
      (omega (arith, kept.counted)) (omega (arith, more, kept.holding)) kept.best kept.room

  -- ---- where nothing is left to do

  someone_holds : nat_eq b.holding 0 ≡ false → has_ended s ≡ false
  someone_holds other =
      let at = some_held is_held s.places b.holding (not_zero b.holding other) (sym kept.holding) in
      let many = boxes_many in
      list_all_at (λ (x : Box × Place). not (is_held x.1) && not (is_wanted s.prices s.best x)) (boxes s) at.0 ([], Open) (omega (arith, at.1))
      (ap (λ (c : Bool). not c && not (wanted at.0)) (ap is_held (place_at at.0 at.1) ∙ at.2))

  pub still_held : (b.holding ≡ 0 → ⊥) → nat_eq b.holding 0 ≡ has_ended s
  still_held some = ⊎_elim (λ same. absurd (some same.1)) (λ other. other.0 ∙ sym (someone_holds other.0)) (eqb_tells b.holding 0)

  pub ended_is : IsStrictlySortedBy key_cmp b.left.keys → b.holding ≡ 0 → (o : Option ℕ) → o ≡ best_number b.olds s.best b.links.items b.left.keys → not (is_some o) ≡ has_ended s
  ended_is sorted is None e =
      let nobody = fail-count is_held s.places (sym kept.holding ∙ is) in
      let many = boxes_many in
      sym (list_all-from_AllPass (λ (x : Box × Place). not (is_held x.1) && not (is_wanted s.prices s.best x)) (boxes s)
      (λ j d below. subst (λ (x : Box × Place). (not (is_held x.1) && not (is_wanted s.prices s.best x)) ≡ true) (sym (get_or_default (boxes s) j d ([], Open) below))
      (and_both (not (is_held (get_or (boxes s) j ([], Open)).1)) (not (wanted j))
      (ap not (ap is_held (place_at j (omega arith)) ∙ all_at (λ (p : Place). is_held p ≡ false) s.places j Open nobody (omega arith)))
      (ap not (none_wanted sorted (sym e) j (omega arith))))))
  ended_is sorted is (Some at) e =
      let best = best_somewhere sorted at (sym e) in
      let within = (best_place_open s best.0 best.1).0 in
      let many = boxes_many in
      sym (list_all_at (λ (x : Box × Place). not (is_held x.1) && not (is_wanted s.prices s.best x)) (boxes s) best.0 ([], Open) (omega arith)
      (and_second (not (is_held (get_or (boxes s) best.0 ([], Open)).1)) (not (wanted best.0)) (λ _. ap not best.3)))
