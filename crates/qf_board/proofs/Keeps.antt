-- What a board keeps, where a leaf gives way.
use Rattle.std.specs.Prelude.{◌≡◌, ◌≢◌, ℕ, suc, zero, ◌+◌, ◌-◌, ◌<◌, ◌≤◌, ℤ, Bool, true, false, cond, List, [], ◌∷◌, ◌++◌, map, length, slice_set, nat_eq}
use Rattle.std.specs.declared.option.Option.{Option}
use Rattle.std.specs.declared.option.Option.TheVariants.{Some, None}
use Rattle.std.specs.declared.vec.Vec.{Vec}
use Rattle.std.specs.declared.alloc.Global.{Global}
use Rattle.std.specs.Option.{option_map}
use Rattle.std.specs.List.{AllByRecursion, count_by}
use Rattle.std.proofs.Common.{arith, refl, sym, ap, ◌∙◌, subst, get_or, inl, inr, ⊎_elim}
use Rattle.std.proofs.lemmas.Bool.{false≢true}
use Rattle.std.proofs.lemmas.Bool.Decides.{eqb_tells}
use Rattle.std.proofs.lemmas.Option.{none-some}
use Rattle.std.proofs.lemmas.List.{get_or-map, get_or_default, length-map, get_or-set_other, length-set}
use Rattle.qf_base.specs.declared.names.RowName.{RowName}
use Rattle.qf_lin.specs.declared.step.Step.{Step}
use Rattle.qf_point.specs.Points.{Price, cost, cheapest, HasNoEmpty}
use Rattle.qf_point.specs.Bests.{Found}
use Rattle.qf_point.proofs.Positions.{at_position}
use Rattle.qf_board.specs.declared.nodes.Kind.{Kind}
use Rattle.qf_board.specs.declared.nodes.Kind.TheVariants as kind
use Rattle.qf_board.specs.declared.nodes.Link.{Link}
use Rattle.qf_board.specs.declared.keys.Key.{Key}
use Rattle.qf_board.specs.declared.board.Board.TheInside.{Inside}
use Rattle.qf_board.specs.Boards.{BoardState, Place, Split, Refuted, Open, Held, Box, boxes, box_at, put_at, put_if, after, better_of, held_place, Holds, is_leaf, is_held, is_held_by, is_counted}
use Rattle.std.specs.BTreeSet.{BTreeSet}
use Rattle.std.specs.BTreeSet as tree
use Rattle.std.specs.BTreeMap.{is_at}
use Rattle.std.specs.Set.{remove_key}
use Rattle.qf_board.specs.Boards as event
use Rattle.qf_board.specs.Sound.{IsSound}
use Rattle.qf_board.specs.Allowed.{is_left}
use Rattle.qf_board.specs.Numbered.{Numbered, nowhere, link_at, chain, with_node, numbered, place_of, place_of_kind, box_of, pair_of, IsLinked, Once}
use Rattle.qf_board.specs.Kept.{key_cmp, state_of, IsKept, IsKeyOf, IsKeyFor, IsListed, has_key, held_number, first_held, with_kind}
use Rattle.qf_board.proofs.Lists.{put_in, all_append, all_put, all_at, all_map, all_both, map_put, find-put, find-none, fail-count}
use Rattle.qf_board.proofs.Chains.{linked_kind, numbers}
use Rattle.qf_board.proofs.KeySets.{same_place, has_kept, all_removed, none_at, leaf_absent}
use Rattle.qf_board.proofs.BoardLaws.{count_by-cons, boxed_leaf, count_by-put, held_place_held, held_is_leaf, sound_leaf, box_fits, length-boxed, Fits}
use Rattle.qf_board.proofs.Others.{held_apart}

pub none : Numbered
none = (0, nowhere.node)

-- ---- a node by its place in preorder and by its number

pub record Spot (b : Inside) (k at : ℕ) : Type 0 where
  pub within : k < length (chain b.links.items)
  pub number : get_or (chain b.links.items) k 0 ≡ at
  pub small : at < length b.links.items
  pub inside : k < length (numbered b.links.items)
  pub node : get_or (numbered b.links.items) k none ≡ (at, (link_at b.links.items at).node)
  pub place : get_or (state_of b).places k Open ≡ place_of_kind (link_at b.links.items at).node.kind
  pub region : (link_at b.links.items at).node.region ≡ box_at (state_of b) k
  pub fits : Fits b.root (link_at b.links.items at).node.region

pub spot : (b : Inside) (k at : ℕ) → IsKept b → k < length (state_of b).places → (get_or (numbered b.links.items) k none).0 ≡ at → Spot b k at
spot b k at kept within is =
    let links = b.links.items in
    let xs = numbered links in
    let many = length-map xs place_of in
    let more = length-map (chain links) (with_node links) in
    let inside : k < length xs = omega arith in
    let in_chain : k < length (chain links) = omega arith in
    let here : get_or xs k none ≡ with_node links (get_or (chain links) k 0) = get_or-map (with_node links) (chain links) k 0 none in_chain in
    let number : get_or (chain links) k 0 ≡ at = sym (ap (λ (x : Numbered). x.0) here) ∙ is in
    let node : get_or xs k none ≡ (at, (link_at links at).node) = here ∙ ap (with_node links) number in
    let region : (link_at links at).node.region ≡ box_at (state_of b) k =
    sym (ap box_of node) ∙ (sym (ap (λ (x : Box × Place). x.0) (get_or-map pair_of xs k none ([], Open) inside)) ∙ sym (ap (λ (ys : List (Box × Place)). (get_or ys k ([], Open)).0) kept.boxes)) in
    record {
      within = in_chain;
      number = number;
      small = subst (λ (m : ℕ). m < length links) number (all_at (λ m. m < length links) (chain links) k 0 kept.linked.below in_chain);
      inside = inside;
      node = node;
      place = get_or-map place_of xs k none Open inside ∙ ap place_of node;
      region = region;
      fits = subst (λ (r : Box). Fits b.root r) (sym region) (box_fits (state_of b) k kept.sound (omega (arith, length-boxed (state_of b).places (b.root ∷ []) kept.sound.stands)));
    }

-- the number that an explorer holds is that of its node
pub holder : (b : Inside) (who k : ℕ) → IsKept b → held_place (state_of b) who ≡ Some k → held_number b.held.items who ≡ Some (get_or (numbered b.links.items) k none).0
holder b who k kept at =
    kept.held who
    ∙ (sym (at_position (is_held_by who) (λ (x : Numbered). x.0) place_of (numbered b.links.items) none)
    ∙ ap (option_map (λ (j : ℕ). (get_or (numbered b.links.items) j none).0)) at)

abbrev number_or : Option ℕ → ℕ
number_or None = 0
number_or (Some i) = i

pub held_spot : (b : Inside) (who k at : ℕ) → IsKept b → held_place (state_of b) who ≡ Some k → held_number b.held.items who ≡ Some at → Spot b k at
held_spot b who k at kept is number = spot b k at kept (held_place_held (state_of b) who k is).0 (ap number_or (sym (holder b who k kept is) ∙ number))

-- an explorer that holds a box has a number
pub held_somewhere : {A : Type 0} (b : Inside) (who k : ℕ) → IsKept b → held_place (state_of b) who ≡ Some k → held_number b.held.items who ≡ None → A
held_somewhere b who k kept is e = absurd (none-some _ (sym e ∙ holder b who k kept is))

-- ---- who holds what

set_none : (held : List (Option ℕ)) (who : ℕ) → held_number (slice_set held who None) who ≡ None
set_none [] who = refl
set_none (h ∷ held) zero = refl
set_none (h ∷ held) (suc who) = set_none held who

unmap : {X Y : Type 0} (P : Y → Type 0) (f : X → Y) (xs : List X) → AllByRecursion P (map f xs) → AllByRecursion (λ x. P (f x)) xs
unmap P f [] h = tt
unmap P f (x ∷ xs) h = (h.0, unmap P f xs h.1)

pub none_held : (who : ℕ) (xs : List Numbered) → count_by (is_held_by who) (map place_of xs) ≡ 0 → AllByRecursion (λ (x : Numbered). is_held_by who (place_of x) ≡ false) xs
none_held who xs e = unmap (λ (p : Place). is_held_by who p ≡ false) place_of xs (fail-count (is_held_by who) (map place_of xs) e)

pub released : (held new_held : List (Option ℕ)) (xs new : List Numbered) (who k : ℕ) → new_held ≡ slice_set held who None → ((w : ℕ) → held_number held w ≡ first_held w xs) → k < length xs → is_held_by who (place_of (get_or xs k none)) ≡ true → count_by (is_held_by who) (map place_of (put_in xs k new)) ≡ 0 → ((w : ℕ) → AllByRecursion (λ (x : Numbered). is_held_by w (place_of x) ≡ false) new) → (w : ℕ) → held_number new_held w ≡ first_held w (put_in xs k new)
released held new_held xs new who k is was within holds gone unheld w =
    ⊎_elim
    (λ (same : (nat_eq w who ≡ true) × (w ≡ who)).
    let nobody = find-none (λ (x : Numbered). is_held_by who (place_of x)) (put_in xs k new) (none_held who (put_in xs k new) gone) in
    ap (held_number new_held) same.1 ∙ (ap (λ (hs : List (Option ℕ)). held_number hs who) is ∙ (set_none held who
    ∙ (sym (ap (option_map (λ (x : Numbered). x.0)) nobody) ∙ ap (λ (v : ℕ). first_held v (put_in xs k new)) (sym same.1)))))
    (λ (other : (nat_eq w who ≡ false) × (w ≢ who)).
    ap (λ (hs : List (Option ℕ)). held_number hs w) is
    ∙ (get_or-set_other held who w None None other.1
    ∙ (was w
    ∙ sym (ap (option_map (λ (x : Numbered). x.0)) (find-put (λ (x : Numbered). is_held_by w (place_of x)) xs new k none within (held_apart who w (place_of (get_or xs k none)) other.1 holds) (unheld w))))))
    (eqb_tells w who)

-- ---- the keys

listed_left : (prices : List Price) (key : Key) (xs ys : List Numbered) → IsListed prices key xs → IsListed prices key (xs ++ ys)
listed_left prices key [] ys h = absurd h
listed_left prices key (x ∷ xs) ys h = ⊎_elim (λ here. inl here) (λ there. inr (listed_left prices key xs ys there)) h

listed_right : (prices : List Price) (key : Key) (xs ys : List Numbered) → IsListed prices key ys → IsListed prices key (xs ++ ys)
listed_right prices key [] ys h = h
listed_right prices key (x ∷ xs) ys h = inr (listed_right prices key xs ys h)

pub listed_put : (prices : List Price) (key : Key) (xs new : List Numbered) (k : ℕ) → k < length xs → (IsKeyOf prices (get_or xs k none) key → IsListed prices key new) → IsListed prices key xs → IsListed prices key (put_in xs k new)
listed_put prices key [] new k within f h = absurd h
listed_put prices key (x ∷ xs) new zero within f h = ⊎_elim (λ here. listed_left prices key new xs (f here)) (λ there. listed_right prices key new xs there) h
listed_put prices key (x ∷ xs) new (suc k) within f h = ⊎_elim (λ here. inl here) (λ there. inr (listed_put prices key xs new k (omega arith) f there)) h

pub listed_new : (prices : List Price) (key : Key) (xs new : List Numbered) (k : ℕ) → k < length xs → IsListed prices key new → IsListed prices key (put_in xs k new)
listed_new prices key [] new k within h = absurd (omega arith)
listed_new prices key (x ∷ xs) new zero within h = listed_left prices key new xs h
listed_new prices key (x ∷ xs) new (suc k) within h = inr (listed_new prices key xs new k (omega arith) h)

held_left : (who : ℕ) (p : Place) → is_held_by who p ≡ true → is_left p ≡ true
held_left who (Split param cut row) h = absurd (false≢true h)
held_left who (Refuted row steps) h = absurd (false≢true h)
held_left who Open h = absurd (false≢true h)
held_left who (Held w) h = refl

held_counts : (who : ℕ) (p : Place) → is_held_by who p ≡ true → (is_counted p ≡ false) × (is_held p ≡ true)
held_counts who (Split param cut row) h = absurd (false≢true h)
held_counts who (Refuted row steps) h = absurd (false≢true h)
held_counts who Open h = absurd (false≢true h)
held_counts who (Held w) h = (refl, refl)

if_true : (b : Bool) → b ≡ true → cond {A = ℕ} b 1 0 ≡ 1
if_true b e = ap (λ (c : Bool). cond {A = ℕ} c 1 0) e

if_false : (b : Bool) → b ≡ false → cond {A = ℕ} b 1 0 ≡ 0
if_false b e = ap (λ (c : Bool). cond {A = ℕ} c 1 0) e

-- ---- the other nodes

abbrev pub OnceEach : List Numbered → Type 0
OnceEach xs = Once (map (λ (x : Numbered). x.0) xs)

pub once_each : (b : Inside) → IsKept b → OnceEach (numbered b.links.items)
once_each b kept = subst Once (sym (numbers b.links.items (chain b.links.items))) kept.linked.once

only_apart : (P : Numbered → Type 0) (i : ℕ) (xs : List Numbered) → AllByRecursion (λ j. j ≢ i) (map (λ (x : Numbered). x.0) xs) → AllByRecursion (λ (x : Numbered). x.0 ≢ i → P x) xs → AllByRecursion P xs
only_apart P i [] apart h = tt
only_apart P i (x ∷ xs) apart h = (h.0 apart.0, only_apart P i xs apart.1 h.1)

-- each node but the one that gives way, and each new one
pub all_put_apart : (P : Numbered → Type 0) (xs new : List Numbered) (k i : ℕ) → k < length xs → (get_or xs k none).0 ≡ i → OnceEach xs → AllByRecursion (λ (x : Numbered). x.0 ≢ i → P x) xs → AllByRecursion P new → AllByRecursion P (put_in xs k new)
all_put_apart P [] new k i within at once h m = absurd (omega arith)
all_put_apart P (x ∷ xs) new zero i within at once h m =
    all_append P new xs m (only_apart P i xs (subst (λ (n : ℕ). AllByRecursion (λ j. j ≢ n) (map (λ (y : Numbered). y.0) xs)) at once.0) h.1)
all_put_apart P (x ∷ xs) new (suc k) i within at once h m =
    let many = length-map xs (λ (y : Numbered). y.0) in
    let there : get_or (map (λ (y : Numbered). y.0) xs) k 0 ≡ i = get_or-map (λ (y : Numbered). y.0) xs k none 0 (omega arith) ∙ at in
    let apart : x.0 ≢ i = λ same. all_at (λ j. j ≢ x.0) (map (λ (y : Numbered). y.0) xs) k 0 once.0 (omega arith) (there ∙ sym same) in
    (h.0 apart, all_put_apart P xs new k i (omega arith) at once.1 h.1 m)

-- ---- what a board keeps where a leaf gives way to other nodes

module _ (b : Inside) (kept : IsKept b) (k : ℕ) (new : List Numbered) (links : Vec Link Global) (held : Vec (Option ℕ) Global) (left : BTreeSet Key) (counted holding : ℕ) (best : Found) (room : List ℤ) where
  abbrev made : Inside
  made = record b { links = links; held = held; left = left; counted = counted; holding = holding; best = best; room = room }

  abbrev next : BoardState
  next = put_at (record (state_of b) { best = best.best }) k (map place_of new)

  pub kept_new : IsLinked links.items → numbered links.items ≡ put_in (numbered b.links.items) k new → length held.items ≡ length b.held.items → IsSound next → boxes next ≡ put_in (boxes (state_of b)) k (map pair_of new)
      → ((w : ℕ) → held_number held.items w ≡ first_held w (put_in (numbered b.links.items) k new))
      → AllByRecursion (λ (key : Key). IsListed b.olds key (put_in (numbered b.links.items) k new)) left.keys
      → AllByRecursion (λ (x : Numbered). is_left (place_of x) ≡ true → has_key left.keys x.0 ≡ true) (put_in (numbered b.links.items) k new)
      → counted ≡ count_by is_counted next.places → holding ≡ count_by is_held next.places → best.params ≡ length b.olds → length room ≡ length b.olds
      → IsKept made × (state_of made ≡ next)
  kept_new linked is many sound pairs held_is listed left_is counted_is holding_is params long =
      let xs = numbered b.links.items in
      let places : map place_of (numbered links.items) ≡ next.places = ap (map place_of) is ∙ map_put place_of xs new k in
      let same : state_of made ≡ next =
      ap (λ (n : ℕ). record (state_of made) { explorers = n }) many ∙ ap (λ (ps : List Place). record next { places = ps }) places in (
        record {
          sound = subst IsSound (sym same) sound;
          linked = linked;
          boxes = ap boxes same ∙ (pairs ∙ (ap (λ (ys : List (Box × Place)). put_in ys k (map pair_of new)) kept.boxes ∙ sym (ap (map pair_of) is ∙ map_put pair_of xs new k)));
          held = λ w. held_is w ∙ ap (first_held w) (sym is);
          listed = subst (λ (ys : List Numbered). AllByRecursion (λ (key : Key). IsListed b.olds key ys) left.keys) (sym is) listed;
          left = subst (AllByRecursion (λ (x : Numbered). is_left (place_of x) ≡ true → has_key left.keys x.0 ≡ true)) (sym is) left_is;
          counted = counted_is ∙ sym (ap (count_by is_counted) places);
          holding = holding_is ∙ sym (ap (count_by is_held) places);
          best = params;
          room = long;
        },
        same,
      )

-- ---- an explorer lets go of its leaf

pub holds_inside : (b : Inside) (t : BoardState) (who : ℕ) → state_of b ≡ t → Holds t who → Holds (state_of b) who
holds_inside b t who same h = subst (λ (u : BoardState). Holds u who) (sym same) h

pub listed_below : (prices : List Price) (key : Key) (xs : List Numbered) (n : ℕ) → AllByRecursion (λ (x : Numbered). x.0 < n) xs → IsListed prices key xs → key.leaf < n
listed_below prices key [] n below h = absurd h
listed_below prices key (x ∷ xs) n below h = ⊎_elim (λ here. subst (λ (i : ℕ). i < n) (sym here.leaf) below.0) (λ there. listed_below prices key xs n below.1 there) h

pub nodes_below : (links : List Link) (order : List ℕ) (n : ℕ) → AllByRecursion (λ i. i < n) order → AllByRecursion (λ (x : Numbered). x.0 < n) (map (with_node links) order)
nodes_below links [] n h = tt
nodes_below links (i ∷ order) n h = (h.0, nodes_below links order n h.1)

below_apart : (m n : ℕ) → m < n → m ≢ n
below_apart m n h = λ same. omega arith

-- the key of a new leaf stands nowhere yet
pub new_absent : (b : Inside) (key : Key) → IsKept b → key.leaf ≡ length b.links.items → tree.contains key_cmp b.left key ≡ false
new_absent b key kept is =
    leaf_absent b.left.keys key
    (all_map (λ (q : Key). IsListed b.olds q (numbered b.links.items)) (λ (q : Key). q.leaf ≢ key.leaf) b.left.keys
    (λ q h. subst (λ (n : ℕ). q.leaf ≢ n) (sym is) (below_apart q.leaf (length b.links.items) (listed_below b.olds q (numbered b.links.items) (length b.links.items) (nodes_below b.links.items (chain b.links.items) (length b.links.items) kept.linked.below) h))) kept.listed)

module _ (b : Inside) (kept : IsKept b) (who k at : ℕ) (is : held_place (state_of b) who ≡ Some k) (number : held_number b.held.items who ≡ Some at) where
  abbrev xs : List Numbered
  xs = numbered b.links.items

  abbrev s : BoardState
  s = state_of b

  pub here : Spot b k at
  here = held_spot b who k at kept is number

  holds : is_held_by who (get_or s.places k Open) ≡ true
  holds = (held_place_held s who k is).1

  holds_node : is_held_by who (place_of (get_or xs k none)) ≡ true
  holds_node = ap (λ (x : Numbered). is_held_by who (place_of x)) here.node ∙ (sym (ap (is_held_by who) here.place) ∙ holds)

  pub within : k < length s.places
  within = (held_place_held s who k is).0

  pub here_number : (get_or xs k none).0 ≡ at
  here_number = ap (λ (x : Numbered). x.0) here.node

  pub held_count : 1 ≤ b.holding
  held_count =
      let change = count_by-put is_held s.places [] k Open within in
      let one = if_true (is_held (get_or s.places k Open)) (held_counts who (get_or s.places k Open) holds).1 in
      omega (arith, kept.holding)

  pub held_rest : (held : Vec (Option ℕ) Global) (new : List Numbered) → held.items ≡ slice_set b.held.items who None → ((w : ℕ) → AllByRecursion (λ (x : Numbered). is_held_by w (place_of x) ≡ false) new) → count_by (is_held_by who) (map place_of new) ≡ 0 → (w : ℕ) → held_number held.items w ≡ first_held w (put_in xs k new)
  held_rest held new let_go unheld nobody w =
      let mine = count_by-put (is_held_by who) s.places (map place_of new) k Open within in
      let one = if_true (is_held_by who (get_or s.places k Open)) holds in
      let before = kept.sound.holds_one who in
      let gone : count_by (is_held_by who) (put_in s.places k (map place_of new)) ≡ 0 = omega arith in
      released b.held.items held.items xs new who k let_go kept.held here.inside holds_node (ap (count_by (is_held_by who)) (map_put place_of xs new k) ∙ gone) unheld w

  pub holding_rest : (new : List Numbered) → count_by is_held (map place_of new) ≡ 0 → b.holding - 1 ≡ count_by is_held (put_in s.places k (map place_of new))
  holding_rest new nobody =
      let change = count_by-put is_held s.places (map place_of new) k Open within in
      let one = if_true (is_held (get_or s.places k Open)) (held_counts who (get_or s.places k Open) holds).1 in
      omega (arith, kept.holding)

  pub counted_rest : (new : List Numbered) (m : ℕ) → count_by is_counted (map place_of new) ≡ m → b.counted + m ≡ count_by is_counted (put_in s.places k (map place_of new))
  counted_rest new m many =
      let change = count_by-put is_counted s.places (map place_of new) k Open within in
      let none_before = if_false (is_counted (get_or s.places k Open)) (held_counts who (get_or s.places k Open) holds).0 in
      omega (arith, kept.counted)

  leaf_pairs : (n : Kind) (f : Option (List ℤ)) → is_leaf (place_of_kind n) ≡ true → boxes (put_at (record s { best = f }) k (place_of_kind n ∷ [])) ≡ put_in (boxes s) k (((link_at b.links.items at).node.region, place_of_kind n) ∷ [])
  leaf_pairs n f leaf =
      let was = held_is_leaf s who k is in
      boxed_leaf s.places (b.root ∷ []) k Open (place_of_kind n) leaf was.0 was.1 kept.sound.stands
      ∙ ap (λ (r : Box). put_in (boxes s) k ((r, place_of_kind n) ∷ [])) (sym here.region)

  opened : (key : Key) → IsKeyOf b.olds (get_or xs k none) key → IsKeyOf b.olds (at, record (link_at b.links.items at).node { kind = kind.Open }) key
  opened key h =
      let it = subst (λ (x : Numbered). IsKeyOf b.olds x key) here.node h in
      record { leaf = it.leaf; left = refl; values = it.values; cost = it.cost }

  -- the leaf is open again
  pub kept_open : (links : Vec Link Global) (held : Vec (Option ℕ) Global) (holding : ℕ) (best : Found) (room : List ℤ) → links.items ≡ slice_set b.links.items at (with_kind (link_at b.links.items at) kind.Open) → held.items ≡ slice_set b.held.items who None → holding ≡ b.holding - 1 → best.params ≡ length b.olds → length room ≡ length b.olds
      → IsKept (record b { links = links; held = held; holding = holding; best = best; room = room }) × (state_of (record b { links = links; held = held; holding = holding; best = best; room = room }) ≡ put_at (record s { best = best.best }) k (Open ∷ []))
  kept_open links held holding best room put let_go less params long =
      let node : Numbered = (at, record (link_at b.links.items at).node { kind = kind.Open }) in
      let both = linked_kind b.links.items links.items k at kind.Open put kept.linked here.within here.number in
      kept_new b kept k (node ∷ []) links held b.left b.counted holding best room both.0 both.1 (ap length let_go ∙ length-set b.held.items who None)
      (sound_leaf s k who Open best.best refl (λ w. refl) is kept.sound) (leaf_pairs kind.Open best.best refl)
      (held_rest held (node ∷ []) let_go (λ w. (refl, tt)) refl)
      (all_map (λ (key : Key). IsListed b.olds key xs) (λ (key : Key). IsListed b.olds key (put_in xs k (node ∷ []))) b.left.keys (λ key h. listed_put b.olds key xs (node ∷ []) k here.inside (λ mine. inl (opened key mine)) h) kept.listed)
      (all_put (λ (x : Numbered). is_left (place_of x) ≡ true → has_key b.left.keys x.0 ≡ true) xs (node ∷ []) k kept.left
      ((λ _. ap (has_key b.left.keys) (sym here_number) ∙ all_at (λ (x : Numbered). is_left (place_of x) ≡ true → has_key b.left.keys x.0 ≡ true) xs k none kept.left here.inside (held_left who (place_of (get_or xs k none)) holds_node)), tt))
      (sym (plus_none b.counted) ∙ counted_rest (node ∷ []) 0 refl) (less ∙ holding_rest (node ∷ []) refl) params long
    where
      plus_none : (n : ℕ) → n + 0 ≡ n
      plus_none n = omega arith

  -- a key that is not at the place of the leaf's is not the leaf's
  pub apart_key : (gone key : Key) → IsKeyOf b.olds (get_or xs k none) gone → is_at (key_cmp gone) key ≡ false → IsKeyOf b.olds (get_or xs k none) key → ⊥
  apart_key gone key mine other h =
      false≢true (sym other ∙ same_place gone key (mine.cost ∙ sym h.cost) (mine.values ∙ sym h.values) (mine.leaf ∙ sym h.leaf))

  -- the leaf is refuted
  pub kept_refuted : (row : RowName) (steps : List Step) (gone : Key) (links : Vec Link Global) (held : Vec (Option ℕ) Global) (left : BTreeSet Key) (counted holding : ℕ) (room : List ℤ) → links.items ≡ slice_set b.links.items at (with_kind (link_at b.links.items at) (kind.Refuted row steps)) → held.items ≡ slice_set b.held.items who None → holding ≡ b.holding - 1 → counted ≡ b.counted + 1 → length room ≡ length b.olds
      → IsKeyOf b.olds (at, (link_at b.links.items at).node) gone → left.keys ≡ remove_key (is_at (key_cmp gone)) b.left.keys → tree.contains_by (key_cmp gone) left ≡ false
      → IsKept (record b { links = links; held = held; left = left; counted = counted; holding = holding; room = room }) × (state_of (record b { links = links; held = held; left = left; counted = counted; holding = holding; room = room }) ≡ put_at s k (Refuted row steps ∷ []))
  kept_refuted row steps gone links held left counted holding room put let_go less more long mine removed absent =
      let n = kind.Refuted row steps in
      let node : Numbered = (at, record (link_at b.links.items at).node { kind = n }) in
      let both = linked_kind b.links.items links.items k at n put kept.linked here.within here.number in
      let its = subst (λ (x : Numbered). IsKeyOf b.olds x gone) (sym here.node) mine in
      let still : AllByRecursion (λ (key : Key). IsListed b.olds key xs) left.keys = subst (AllByRecursion (λ (key : Key). IsListed b.olds key xs)) (sym removed) (all_removed (λ (key : Key). IsListed b.olds key xs) (is_at (key_cmp gone)) b.left.keys kept.listed) in
      let others = none_at (is_at (key_cmp gone)) left.keys absent in
      kept_new b kept k (node ∷ []) links held left counted holding b.best room both.0 both.1 (ap length let_go ∙ length-set b.held.items who None)
      (sound_leaf s k who (Refuted row steps) s.best refl (λ w. refl) is kept.sound) (leaf_pairs n s.best refl)
      (held_rest held (node ∷ []) let_go (λ w. (refl, tt)) refl)
      (all_map (λ (key : Key). (is_at (key_cmp gone) key ≡ false) × IsListed b.olds key xs) (λ (key : Key). IsListed b.olds key (put_in xs k (node ∷ []))) left.keys (λ key h. listed_put b.olds key xs (node ∷ []) k here.inside (λ m. absurd (apart_key gone key its h.0 m)) h.1)
      (all_both (λ (key : Key). is_at (key_cmp gone) key ≡ false) (λ (key : Key). IsListed b.olds key xs) left.keys others still))
      (all_put_apart (λ (x : Numbered). is_left (place_of x) ≡ true → has_key left.keys x.0 ≡ true) xs (node ∷ []) k at here.inside here_number (once_each b kept)
      (all_map (λ (x : Numbered). is_left (place_of x) ≡ true → has_key b.left.keys x.0 ≡ true) (λ (x : Numbered). x.0 ≢ at → is_left (place_of x) ≡ true → has_key left.keys x.0 ≡ true) xs
      (λ x h apart is_left_too. ap (λ (ks : List Key). has_key ks x.0) removed ∙ has_kept b.left.keys gone x.0 (λ same. apart (same ∙ mine.leaf)) (h is_left_too)) kept.left)
      ((λ h. absurd (false≢true h)), tt))
      (more ∙ counted_rest (node ∷ []) 1 refl) (less ∙ holding_rest (node ∷ []) refl) kept.best long

-- ---- the link of a held leaf, as the code reads it

pub record Usable (b : Inside) (at : ℕ) (l : Link) : Type 0 where
  pub small : at < length b.links.items
  pub same : l ≡ link_at b.links.items at
  pub olds : length b.olds ≡ length l.node.region
  pub room : length b.room ≡ length l.node.region
  pub spans : HasNoEmpty l.node.region

pub usable : (b : Inside) (k at : ℕ) (l : Link) → IsKept b → Spot b k at → l ≡ get_or b.links.items at l → Usable b at l
usable b k at l kept spot is =
    let same : l ≡ link_at b.links.items at = is ∙ get_or_default b.links.items at l nowhere spot.small in
    let fits = subst (λ (m : Link). Fits b.root m.node.region) (sym same) spot.fits in
    record {
      small = spot.small;
      same = same;
      olds = kept.sound.priced ∙ sym fits.same;
      room = kept.room ∙ (kept.sound.priced ∙ sym fits.same);
      spans = fits.spans;
    }

-- the key that is made of it
pub made_key : (b : Inside) (at : ℕ) (l : Link) (key : Key) → l ≡ link_at b.links.items at → is_left (place_of_kind (link_at b.links.items at).node.kind) ≡ true → IsKeyFor b.olds l.node.region at key → IsKeyOf b.olds (at, (link_at b.links.items at).node) key
made_key b at l key same left is = record {
  leaf = is.leaf;
  left = left;
  values = is.values ∙ ap (λ (m : Link). cheapest b.olds m.node.region) same;
  cost = is.cost ∙ ap (λ (m : Link). cost b.olds (cheapest b.olds m.node.region)) same;
}

pub held_is_left : (b : Inside) (who k at : ℕ) → Spot b k at → held_place (state_of b) who ≡ Some k → is_left (place_of_kind (link_at b.links.items at).node.kind) ≡ true
held_is_left b who k at spot is =
    held_left who (place_of_kind (link_at b.links.items at).node.kind) (sym (ap (is_held_by who) spot.place) ∙ (held_place_held (state_of b) who k is).1)

-- the best found after a find
pub found_is : (b : Inside) (who k at : ℕ) (l : Link) (key : List ℤ) (best : Found) → Spot b k at → held_place (state_of b) who ≡ Some k → l ≡ link_at b.links.items at → key ≡ cheapest b.olds l.node.region → best ≡ record b.best { best = better_of b.olds b.best.best (Some key) } → put_at (record (state_of b) { best = best.best }) k (Open ∷ []) ≡ after (state_of b) (event.Found who)
found_is b who k at l key best spot is same cheap won =
    let s = state_of b in
    let key_is : key ≡ cheapest b.olds (box_at s k) = cheap ∙ (ap (λ (m : Link). cheapest b.olds m.node.region) same ∙ ap (cheapest b.olds) spot.region) in
    let found : best.best ≡ better_of s.prices s.best (Some (cheapest s.prices (box_at s k))) = ap (λ (w : Found). w.best) won ∙ ap (λ (v : List ℤ). better_of s.prices s.best (Some v)) key_is in
    ap (λ (f : Option (List ℤ)). put_at (record s { best = f }) k (Open ∷ [])) found
    ∙ ap (λ (o : Option ℕ). put_if (record s { best = better_of s.prices s.best (option_map (cheapest s.prices) (option_map (box_at s) o)) }) o (Open ∷ [])) (sym is)

-- the room is worked on
pub kept_room : (b : Inside) (room : List ℤ) → length room ≡ length b.olds → IsKept b → IsKept (record b { room = room })
kept_room b room long kept = record {
  sound = kept.sound;
  linked = kept.linked;
  boxes = kept.boxes;
  held = kept.held;
  listed = kept.listed;
  left = kept.left;
  counted = kept.counted;
  holding = kept.holding;
  best = kept.best;
  room = long;
}

-- the parts stand as before
pub kept_same : (b : Inside) (links : Vec Link Global) (left : BTreeSet Key) (room : List ℤ) → links.items ≡ b.links.items → left.keys ≡ b.left.keys → length room ≡ length b.olds → IsKept b → IsKept (record b { links = links; left = left; room = room }) × (state_of (record b { links = links; left = left; room = room }) ≡ state_of b)
kept_same b links left room same same_keys long kept =
    let made = record b { links = links; left = left; room = room } in
    let ls : b.links.items ≡ links.items = sym same in
    let state_is : state_of made ≡ state_of b = ap (λ (l : List Link). record (state_of b) { places = map place_of (numbered l) }) same in (
      record {
        sound = subst IsSound (sym state_is) kept.sound;
        linked = subst IsLinked ls kept.linked;
        boxes = ap boxes state_is ∙ (kept.boxes ∙ ap (λ (l : List Link). map pair_of (numbered l)) ls);
        held = λ w. kept.held w ∙ ap (λ (l : List Link). first_held w (numbered l)) ls;
        listed = subst (λ (ks : List Key). AllByRecursion (λ (key : Key). IsListed b.olds key (numbered links.items)) ks) (sym same_keys)
            (subst (λ (l : List Link). AllByRecursion (λ (key : Key). IsListed b.olds key (numbered l)) b.left.keys) ls kept.listed);
        left = subst (λ (ks : List Key). AllByRecursion (λ (x : Numbered). is_left (place_of x) ≡ true → has_key ks x.0 ≡ true) (numbered links.items)) (sym same_keys)
            (subst (λ (l : List Link). AllByRecursion (λ (x : Numbered). is_left (place_of x) ≡ true → has_key b.left.keys x.0 ≡ true) (numbered l)) ls kept.left);
        counted = kept.counted ∙ ap (λ (t : BoardState). count_by is_counted t.places) (sym state_is);
        holding = kept.holding ∙ ap (λ (t : BoardState). count_by is_held t.places) (sym state_is);
        best = kept.best;
        room = long;
      },
      state_is,
    )

count_small : {X : Type 0} (test : X → Bool) (ys : List X) → count_by test ys ≤ length ys
count_small test [] = omega arith
count_small test (y ∷ ys) =
    let this : count_by test (y ∷ ys) ≡ cond {A = ℕ} (test y) 1 0 + count_by test ys = count_by-cons test y ys in
    let rest = count_small test ys in
    let one = at_most_one (test y) in
    omega arith
  where
    at_most_one : (c : Bool) → cond {A = ℕ} c 1 0 ≤ 1
    at_most_one true = omega arith
    at_most_one false = omega arith

-- there are at most as many split or refuted nodes as nodes
pub counted_small : (b : Inside) → IsKept b → b.counted ≤ length b.links.items
counted_small b kept =
    let many = length-map (numbered b.links.items) place_of in
    let more = length-map (chain b.links.items) (with_node b.links.items) in
    omega (arith, count_small is_counted (state_of b).places, kept.counted, kept.linked.many)
