-- Boxes in the order of their keys, and the events that work on them.
use Rattle.std.proofs.Common.{◌≡◌, refl, sym, ap, ◌∙◌, ℤ, Bool, true, false, cond, List, [], ◌∷◌, ◌++◌, filter, map}
use Rattle.std.specs.List.{AllByRecursion, flat_map}
use Rattle.std.specs.declared.option.Option.{Option}
use Rattle.std.proofs.lemmas.List.Concat.{flat_map-cons}
use Rattle.qf_point.specs.Points.{better, cheapest}
use Rattle.qf_point.proofs.PointLaws.{better_one_way, not_better_trans}
use Rattle.qf_tree.specs.declared.tree.Node.{Node}
use Rattle.qf_tree.specs.declared.tree.Node.TheVariants as node
use Rattle.qf_tree.specs.Certificates.{Placed}
use Rattle.qf_tree.specs.Sizes.{is_worked}
use Rattle.qf_board.specs.Boards.{Event, Place, Split, Refuted, Open, Held, Box, beats, left_node, tree_node}
use Rattle.qf_board.proofs.Lists.{all_map}
use Rattle.qf_search.specs.Solving.{put_in_order, in_order, work_on}

-- ---- the boxes that were split or refuted

abbrev pub works : List Placed → List Placed
works ps = filter (λ (p : Placed). is_worked p.1) ps

pub all_works : (P : Placed → Type 0) (ps : List Placed) → AllByRecursion P ps → AllByRecursion P (works ps)
all_works P [] all = tt
all_works P (o ∷ ps) all =
    let rest = all_works P ps all.1 in
    elim (is_worked o.1) as (λ b. AllByRecursion P (cond b (o ∷ works ps) (works ps))) [
      | true ↦ (all.0, rest)
      | false ↦ rest
    ]

events_cons : (x : Placed) (ps : List Placed) → flat_map work_on ps ≡ flat_map work_on (works ps) → flat_map work_on (x ∷ ps) ≡ flat_map work_on (x ∷ works ps)
events_cons x ps e = flat_map-cons work_on x ps ∙ (ap (λ (es : List Event). work_on x ++ es) e ∙ sym (flat_map-cons work_on x (works ps)))

-- only they have events
pub events_works : (ps : List Placed) → flat_map work_on ps ≡ flat_map work_on (works ps)
events_works [] = refl
events_works ((b, node.Split param cut row) ∷ ps) = events_cons (b, node.Split param cut row) ps (events_works ps)
events_works ((b, node.Refuted row steps) ∷ ps) = events_cons (b, node.Refuted row steps) ps (events_works ps)
events_works ((b, node.Dear) ∷ ps) = flat_map-cons work_on (b, node.Dear) ps ∙ events_works ps
events_works ((b, node.Open) ∷ ps) = flat_map-cons work_on (b, node.Open) ps ∙ events_works ps

module _ (prices : List ℤ) where
  abbrev pub key : Placed → List ℤ
  key x = cheapest prices x.0

  -- ---- one is put in

  put_last : (x : Placed) (ps : List Placed) → AllByRecursion (λ (o : Placed). better prices (key o) (key x) ≡ true) ps → put_in_order prices x ps ≡ ps ++ (x ∷ [])
  put_last x [] all = refl
  put_last x (o ∷ ps) all =
      ap (λ (b : Bool). cond {A = List Placed} b (o ∷ put_in_order prices x ps) (x ∷ o ∷ ps)) all.0 ∙ ap (λ (l : List Placed). o ∷ l) (put_last x ps all.1)

  put_first : (x : Placed) (ps : List Placed) → AllByRecursion (λ (o : Placed). better prices (key o) (key x) ≡ false) ps → put_in_order prices x ps ≡ x ∷ ps
  put_first x [] all = refl
  put_first x (o ∷ ps) all = ap (λ (b : Bool). cond {A = List Placed} b (o ∷ put_in_order prices x ps) (x ∷ o ∷ ps)) all.0

  put_before : (a x : Placed) (ps : List Placed) → better prices (key x) (key a) ≡ false → put_in_order prices a (ps ++ (x ∷ [])) ≡ put_in_order prices a ps ++ (x ∷ [])
  put_before a x [] h = ap (λ (b : Bool). cond {A = List Placed} b (x ∷ a ∷ []) (a ∷ x ∷ [])) h
  put_before a x (o ∷ ps) h =
      elim (better prices (key o) (key a)) as (λ b. cond {A = List Placed} b (o ∷ put_in_order prices a (ps ++ (x ∷ []))) (a ∷ o ∷ (ps ++ (x ∷ []))) ≡ cond {A = List Placed} b (o ∷ put_in_order prices a ps) (a ∷ o ∷ ps) ++ (x ∷ [])) [
        | true ↦ ap (λ (l : List Placed). o ∷ l) (put_before a x ps h)
        | false ↦ refl
      ]

  all_put_in : (P : Placed → Type 0) (x : Placed) (ps : List Placed) → P x → AllByRecursion P ps → AllByRecursion P (put_in_order prices x ps)
  all_put_in P x [] h all = (h, tt)
  all_put_in P x (o ∷ ps) h all =
      elim (better prices (key o) (key x)) as (λ b. AllByRecursion P (cond {A = List Placed} b (o ∷ put_in_order prices x ps) (x ∷ o ∷ ps))) [
        | true ↦ (all.0, all_put_in P x ps h all.1)
        | false ↦ (h, all)
      ]

  all_in_order : (P : Placed → Type 0) (ps : List Placed) → AllByRecursion P ps → AllByRecursion P (in_order prices ps)
  all_in_order P [] all = tt
  all_in_order P (o ∷ ps) all = all_put_in P o (in_order prices ps) all.0 (all_in_order P ps all.1)

  -- one that is behind all others comes last
  pub last_in_order : (before : List Placed) (x : Placed) (behind : List Placed) → AllByRecursion (λ (o : Placed). better prices (key x) (key o) ≡ false) before → AllByRecursion (λ (o : Placed). better prices (key o) (key x) ≡ true) behind → in_order prices (before ++ (x ∷ behind)) ≡ in_order prices (before ++ behind) ++ (x ∷ [])
  last_in_order [] x behind none all = put_last x (in_order prices behind) (all_in_order (λ (o : Placed). better prices (key o) (key x) ≡ true) behind all)
  last_in_order (o ∷ before) x behind none all =
      ap (put_in_order prices o) (last_in_order before x behind none.1 all) ∙ put_before o x (in_order prices (before ++ behind)) none.0

  -- ---- the order of the worked boxes

  abbrev Sorted : List Placed → Type 0
  Sorted [] = Unit {0}
  Sorted (o ∷ ps) = AllByRecursion (λ (p : Placed). better prices (key p) (key o) ≡ false) ps × Sorted ps

  behind_all : (x o : Placed) (ps : List Placed) → better prices (key o) (key x) ≡ false → AllByRecursion (λ (p : Placed). better prices (key p) (key o) ≡ false) ps → AllByRecursion (λ (p : Placed). better prices (key p) (key x) ≡ false) ps
  behind_all x o ps e all = all_map (λ (p : Placed). better prices (key p) (key o) ≡ false) (λ (p : Placed). better prices (key p) (key x) ≡ false) ps (λ p h. not_better_trans prices (key x) (key o) (key p) e h) all

  sorted_put : (x : Placed) (ps : List Placed) → Sorted ps → Sorted (put_in_order prices x ps)
  sorted_put x [] sorted = (tt, tt)
  sorted_put x (o ∷ ps) sorted = by (sorted_put x ps sorted.1) (better prices (key o) (key x)) refl
    where
      by : Sorted (put_in_order prices x ps) → (b : Bool) → better prices (key o) (key x) ≡ b → Sorted (cond {A = List Placed} b (o ∷ put_in_order prices x ps) (x ∷ o ∷ ps))
      by rest true e = (all_put_in (λ (p : Placed). better prices (key p) (key o) ≡ false) x ps (better_one_way prices (key o) (key x) e) sorted.0, rest)
      by rest false e = ((e, behind_all x o ps e sorted.0), sorted)

  sorted_in_order : (ps : List Placed) → Sorted (in_order prices ps)
  sorted_in_order [] = tt
  sorted_in_order (x ∷ ps) = sorted_put x (in_order prices ps) (sorted_in_order ps)

  put_out : (x : Placed) (ps : List Placed) → is_worked x.1 ≡ false → works (put_in_order prices x ps) ≡ works ps
  put_out x [] h = ap (λ (b : Bool). cond {A = List Placed} b (x ∷ []) []) h
  put_out x (o ∷ ps) h =
      elim (better prices (key o) (key x)) as (λ b. works (cond {A = List Placed} b (o ∷ put_in_order prices x ps) (x ∷ o ∷ ps)) ≡ works (o ∷ ps)) [
        | true ↦ ap (λ (l : List Placed). cond {A = List Placed} (is_worked o.1) (o ∷ l) l) (put_out x ps h)
        | false ↦ ap (λ (b : Bool). cond {A = List Placed} b (x ∷ works (o ∷ ps)) (works (o ∷ ps))) h
      ]

  put_within : (x : Placed) (ps : List Placed) → is_worked x.1 ≡ true → Sorted ps → works (put_in_order prices x ps) ≡ put_in_order prices x (works ps)
  put_within x [] h sorted = ap (λ (b : Bool). cond {A = List Placed} b (x ∷ []) []) h
  put_within x (o ∷ ps) h sorted = by (put_within x ps h sorted.1) (better prices (key o) (key x)) (is_worked o.1) refl refl
    where
      here : works (x ∷ o ∷ ps) ≡ x ∷ works (o ∷ ps)
      here = ap (λ (b : Bool). cond {A = List Placed} b (x ∷ works (o ∷ ps)) (works (o ∷ ps))) h

      by : works (put_in_order prices x ps) ≡ put_in_order prices x (works ps) → (b w : Bool) → better prices (key o) (key x) ≡ b → is_worked o.1 ≡ w → works (cond {A = List Placed} b (o ∷ put_in_order prices x ps) (x ∷ o ∷ ps)) ≡ put_in_order prices x (cond {A = List Placed} w (o ∷ works ps) (works ps))
      by rest true true e f =
          ap (λ (c : Bool). cond {A = List Placed} c (o ∷ works (put_in_order prices x ps)) (works (put_in_order prices x ps))) f
          ∙ (ap (λ (l : List Placed). o ∷ l) rest
          ∙ sym (ap (λ (c : Bool). cond {A = List Placed} c (o ∷ put_in_order prices x (works ps)) (x ∷ o ∷ works ps)) e))
      by rest true false e f =
          ap (λ (c : Bool). cond {A = List Placed} c (o ∷ works (put_in_order prices x ps)) (works (put_in_order prices x ps))) f ∙ rest
      by rest false true e f =
          here
          ∙ (ap (λ (c : Bool). x ∷ cond {A = List Placed} c (o ∷ works ps) (works ps)) f
          ∙ sym (ap (λ (c : Bool). cond {A = List Placed} c (o ∷ put_in_order prices x (works ps)) (x ∷ o ∷ works ps)) e))
      by rest false false e f =
          here
          ∙ (ap (λ (c : Bool). x ∷ cond {A = List Placed} c (o ∷ works ps) (works ps)) f
          ∙ sym (put_first x (works ps) (all_works (λ (p : Placed). better prices (key p) (key x) ≡ false) ps (behind_all x o ps e sorted.0))))

  works_in_order : (ps : List Placed) → works (in_order prices ps) ≡ in_order prices (works ps)
  works_in_order [] = refl
  works_in_order (x ∷ ps) = by (works_in_order ps) (is_worked x.1) refl
    where
      by : works (in_order prices ps) ≡ in_order prices (works ps) → (w : Bool) → is_worked x.1 ≡ w → works (put_in_order prices x (in_order prices ps)) ≡ in_order prices (cond {A = List Placed} w (x ∷ works ps) (works ps))
      by rest true e = put_within x (in_order prices ps) e (sorted_in_order ps) ∙ ap (put_in_order prices x) rest
      by rest false e = put_out x (in_order prices ps) e ∙ rest

  -- the events of a list are those of its worked boxes
  pub events_in_order : (ps : List Placed) → flat_map work_on (in_order prices ps) ≡ flat_map work_on (in_order prices (works ps))
  events_in_order ps = events_works (in_order prices ps) ∙ ap (flat_map work_on) (works_in_order ps)

-- ---- the worked boxes of a board

abbrev pub done : List (Box × Place) → List Placed
done [] = []
done ((b, Split param cut row) ∷ xs) = (b, node.Split param cut row) ∷ done xs
done ((b, Refuted row steps) ∷ xs) = (b, node.Refuted row steps) ∷ done xs
done ((b, Open) ∷ xs) = done xs
done ((b, Held who) ∷ xs) = done xs

-- a box with its node in the finished tree
abbrev pub placed_node : List ℤ → Option (List ℤ) → Box × Place → Placed
placed_node prices best x = (x.0, tree_node prices best x)

left_out : (prices : List ℤ) (best : Option (List ℤ)) (b : Box) (xs : List Placed) → works ((b, left_node prices best b) ∷ xs) ≡ works xs
left_out prices best b xs =
    elim (beats prices best (cheapest prices b)) as (λ t. works ((b, cond {A = Node} t node.Open node.Dear) ∷ xs) ≡ works xs) [
      | true ↦ refl
      | false ↦ refl
    ]

pub works_done : (prices : List ℤ) (best : Option (List ℤ)) (xs : List (Box × Place)) → works (map (placed_node prices best) xs) ≡ done xs
works_done prices best [] = refl
works_done prices best ((b, Split param cut row) ∷ xs) = ap (λ (l : List Placed). (b, node.Split param cut row) ∷ l) (works_done prices best xs)
works_done prices best ((b, Refuted row steps) ∷ xs) = ap (λ (l : List Placed). (b, node.Refuted row steps) ∷ l) (works_done prices best xs)
works_done prices best ((b, Open) ∷ xs) = left_out prices best b (map (placed_node prices best) xs) ∙ works_done prices best xs
works_done prices best ((b, Held who) ∷ xs) = left_out prices best b (map (placed_node prices best) xs) ∙ works_done prices best xs

pub done_append : (xs ys : List (Box × Place)) → done (xs ++ ys) ≡ done xs ++ done ys
done_append [] ys = refl
done_append ((b, Split param cut row) ∷ xs) ys = ap (λ (l : List Placed). (b, node.Split param cut row) ∷ l) (done_append xs ys)
done_append ((b, Refuted row steps) ∷ xs) ys = ap (λ (l : List Placed). (b, node.Refuted row steps) ∷ l) (done_append xs ys)
done_append ((b, Open) ∷ xs) ys = done_append xs ys
done_append ((b, Held who) ∷ xs) ys = done_append xs ys
