-- What the events of one explorer alone leave on a board: it is at rest, holds the box that it took last, or has found a
-- point and nothing is left to want.
use Rattle.std.proofs.Common.{◌≡◌, inl, inr, ⊎_elim, refl, sym, ap, ◌∙◌, subst, arith, ℕ, zero, suc, ◌-◌, ◌<◌, ℤ, Bool, true, false, not, ◌&&◌, List, [], ◌∷◌, ◌++◌, length, take, drop, get_or}
use Rattle.std.specs.declared.option.Option.{Option}
use Rattle.std.specs.declared.option.Option.TheVariants.{Some, None}
use Rattle.std.specs.List.{AllByRecursion, flat_map, list_all}
use Rattle.std.proofs.lemmas.Bool.{false≢true}
use Rattle.std.proofs.lemmas.Grind.{flat_map-append}
use Rattle.std.proofs.lemmas.List.Elements.{All-from_get_or, recursion_from_All}
use Rattle.std.proofs.lemmas.List.Quantifiers.{position-Some}
use Rattle.qf_base.specs.declared.names.RowName.{RowName}
use Rattle.qf_base.specs.Values.{Bounds}
use Rattle.qf_lin.specs.declared.step.Step.{Step}
use Rattle.qf_point.specs.Points.{better, cheapest, lower_half, upper_half, CanCut, In}
use Rattle.qf_point.proofs.PointLaws.{better_cases, none_better, not_better_trans, cheapest_in}
use Rattle.qf_goal.specs.Case.{Case, Mends, first_failing}
use Rattle.qf_slice.specs.RootBox.{IsNeeded}
use Rattle.qf_tree.specs.declared.tree.Node.{Node}
use Rattle.qf_tree.specs.declared.tree.Node.TheVariants as node
use Rattle.qf_tree.specs.Certificates.{Placed}
use Rattle.qf_tree.specs.Lines.{StepsFit}
use Rattle.qf_board.specs.Boards.{BoardState, Place, Split, Refuted, Open, Held, Box, boxed, box_at, is_open, is_held, is_held_by, is_leaf, is_wanted, is_best_wanted, is_counted, best_place, HoldsNone, Event, Take, Refute, Cut, after, after_all}
use Rattle.qf_board.specs.Sound.{IsSound}
use Rattle.qf_board.proofs.Lists.{put_in, all_put, all_at, all_map, all_both}
use Rattle.qf_board.proofs.BoardLaws.{Fits, boxed_leaf, boxed_split, cut_nodes, box_fits, lower_fits, upper_fits, best_is_leaf}
use Rattle.qf_search.specs.Standing.{RefutesFor}
use Rattle.qf_search.specs.Exploring.{IsNamed, IsDue, IsNotClosable}
use Rattle.qf_search.specs.Solving.{in_order, work_on}
use Rattle.qf_search.proofs.BoardSteps.{take_is, refuted_is, cut_is, nowhere}
use Rattle.qf_search.proofs.LeavesApart.{Apart, apart_behind}
use Rattle.qf_search.proofs.WorkOrder.{done, done_append, last_in_order}

-- ---- lists

pub all_take : {X : Type 0} (P : X → Type 0) (xs : List X) (k : ℕ) → AllByRecursion P xs → AllByRecursion P (take k xs)
all_take P [] zero all = tt
all_take P [] (suc k) all = tt
all_take P (x ∷ xs) zero all = tt
all_take P (x ∷ xs) (suc k) all = (all.0, all_take P xs k all.1)

pub all_drop : {X : Type 0} (P : X → Type 0) (xs : List X) (k : ℕ) → AllByRecursion P xs → AllByRecursion P (drop k xs)
all_drop P [] zero all = tt
all_drop P [] (suc k) all = tt
all_drop P (x ∷ xs) zero all = all
all_drop P (x ∷ xs) (suc k) all = all_drop P xs k all.1

pub parted : {X : Type 0} (xs : List X) (k : ℕ) (d : X) → k < length xs → xs ≡ take k xs ++ (get_or xs k d ∷ drop (suc k) xs)
parted [] k d within = absurd (omega arith)
parted (x ∷ xs) zero d within = refl
parted {X} (x ∷ xs) (suc k) d within = ap (λ (ys : List X). x ∷ ys) (parted xs k d (omega arith))

both_of : (a b : Bool) → (a && b) ≡ true → (a ≡ true) × (b ≡ true)
both_of true true h = (refl, refl)
both_of true false h = absurd (false≢true h)
both_of false b h = absurd (false≢true h)

pub all_passed : {X : Type 0} (p : X → Bool) (xs : List X) → list_all p xs ≡ true → AllByRecursion (λ (x : X). p x ≡ true) xs
all_passed p [] e = tt
all_passed p (x ∷ xs) e = let parts = both_of (p x) (list_all p xs) e in (parts.0, all_passed p xs parts.1)

not_better : (opens better_key : Bool) → not ((opens && true) && better_key) ≡ true → opens ≡ true → better_key ≡ false
not_better true true h e = absurd (false≢true h)
not_better true false h e = refl
not_better false b h e = absurd (false≢true e)

pub open_is : (n : Place) → is_open n ≡ true → n ≡ Open
open_is (Split param cut row) h = absurd (false≢true h)
open_is (Refuted row steps) h = absurd (false≢true h)
open_is Open h = refl
open_is (Held who) h = absurd (false≢true h)

held_by_none : (e : ℕ) (n : Place) → is_held n ≡ false → is_held_by e n ≡ false
held_by_none e (Split param cut row) h = refl
held_by_none e (Refuted row steps) h = refl
held_by_none e Open h = refl
held_by_none e (Held who) h = absurd (false≢true (sym h))

-- ---- rows that splits name

named_left : (row : RowName) (xs ys : List Place) → IsNamed row xs → IsNamed row (xs ++ ys)
named_left row [] ys h = absurd h
named_left row (Split param cut named ∷ xs) ys (inl h) = inl h
named_left row (Split param cut named ∷ xs) ys (inr h) = inr (named_left row xs ys h)
named_left row (Refuted other steps ∷ xs) ys h = named_left row xs ys h
named_left row (Open ∷ xs) ys h = named_left row xs ys h
named_left row (Held who ∷ xs) ys h = named_left row xs ys h

named_right : (row : RowName) (xs ys : List Place) → IsNamed row ys → IsNamed row (xs ++ ys)
named_right row [] ys h = h
named_right row (Split param cut named ∷ xs) ys h = inr (named_right row xs ys h)
named_right row (Refuted other steps ∷ xs) ys h = named_right row xs ys h
named_right row (Open ∷ xs) ys h = named_right row xs ys h
named_right row (Held who ∷ xs) ys h = named_right row xs ys h

-- a leaf that is replaced named none
pub named_put : (row : RowName) (xs new : List Place) (k : ℕ) → is_leaf (get_or xs k Open) ≡ true → IsNamed row xs → IsNamed row (put_in xs k new)
named_put row [] new k leaf h = absurd h
named_put row (Split param cut named ∷ xs) new zero leaf h = absurd (false≢true leaf)
named_put row (Refuted other steps ∷ xs) new zero leaf h = named_right row new xs h
named_put row (Open ∷ xs) new zero leaf h = named_right row new xs h
named_put row (Held who ∷ xs) new zero leaf h = named_right row new xs h
named_put row (Split param cut named ∷ xs) new (suc k) leaf (inl h) = inl h
named_put row (Split param cut named ∷ xs) new (suc k) leaf (inr h) = inr (named_put row xs new k leaf h)
named_put row (Refuted other steps ∷ xs) new (suc k) leaf h = named_put row xs new k leaf h
named_put row (Open ∷ xs) new (suc k) leaf h = named_put row xs new k leaf h
named_put row (Held who ∷ xs) new (suc k) leaf h = named_put row xs new k leaf h

-- ---- worked boxes

pub all_done : (Q : Box → Type 0) (xs : List (Box × Place)) → AllByRecursion (λ (x : Box × Place). is_counted x.1 ≡ true → Q x.0) xs → AllByRecursion (λ (p : Placed). Q p.0) (done xs)
all_done Q [] all = tt
all_done Q ((b, Split param cut row) ∷ xs) all = (all.0 refl, all_done Q xs all.1)
all_done Q ((b, Refuted row steps) ∷ xs) all = (all.0 refl, all_done Q xs all.1)
all_done Q ((b, Open) ∷ xs) all = all_done Q xs all.1
all_done Q ((b, Held who) ∷ xs) all = all_done Q xs all.1

pub after_both : (s : BoardState) (a b : List Event) → after_all s (a ++ b) ≡ after_all (after_all s a) b
after_both s [] b = refl
after_both s (e ∷ a) b = after_both (after s e) a b

module _ (case : Case) (region : Bounds) where
  -- ---- boards over the region with one explorer

  abbrev pub board : List Place → Option (List ℤ) → BoardState
  board ps best = record { root = region; prices = case.plan.olds; explorers = 1; places = ps; best = best }

  abbrev pub cells : List Place → List (Box × Place)
  cells ps = boxed ps (region ∷ [])

  abbrev pub key_of : Box → List ℤ
  key_of b = cheapest case.plan.olds b

  pub record IsGoodCut (b : Box) (param : ℕ) (cut : ℤ) (row : RowName) : Type 0 where
    pub first : 0 < param
    pub cuts : CanCut b (param - 1) cut
    pub needed : IsNeeded case param
    pub failing : first_failing case (key_of b) ≡ Some row
    pub unclosed : IsNotClosable case b

  pub record IsGoodRefutation (ps : List Place) (b : Box) (row : RowName) (steps : List Step) : Type 0 where
    pub refutes : RefutesFor case b row steps
    pub fit : StepsFit steps
    pub due : IsDue case (board ps None) (key_of b) row
    pub fails : Mends case (key_of b) → ⊥

  abbrev pub NodeIsGood : List Place → Box × Place → Type 0
  NodeIsGood ps (b, Split param cut row) = IsGoodCut b param cut row
  NodeIsGood ps (b, Refuted row steps) = IsGoodRefutation ps b row steps
  NodeIsGood ps (b, Open) = Unit {0}
  NodeIsGood ps (b, Held who) = Unit {0}

  -- an open box is no better than a worked one
  abbrev pub Before : Box × Place → Box × Place → Type 0
  Before y x = is_open y.1 ≡ true → is_counted x.1 ≡ true → better case.plan.olds (key_of y.0) (key_of x.0) ≡ false

  -- nobody holds a box and nothing is found
  pub record IsGood (ps : List Place) : Type 0 where
    pub sound : IsSound (board ps None)
    pub nodes : AllByRecursion (NodeIsGood ps) (cells ps)
    pub unheld : AllByRecursion (λ (n : Place). is_held n ≡ false) ps
    pub order : AllByRecursion (λ (y : Box × Place). AllByRecursion (Before y) (cells ps)) (cells ps)
    pub replays : after_all (board (Open ∷ []) None) (flat_map work_on (in_order case.plan.olds (done (cells ps)))) ≡ board ps None

  pub good_start : IsSound (board (Open ∷ []) None) → IsGood (Open ∷ [])
  good_start sound = record {
    sound = sound;
    nodes = (tt, tt);
    unheld = (refl, tt);
    order = ((λ o w. absurd (false≢true w), tt), tt);
    replays = refl;
  }

  pub holds_none : (ps : List Place) (best : Option (List ℤ)) (e : ℕ) → AllByRecursion (λ (n : Place). is_held n ≡ false) ps → HoldsNone (board ps best) e
  holds_none ps best e unheld = nowhere (is_held_by e) ps (all_map (λ (n : Place). is_held n ≡ false) (λ (n : Place). is_held_by e n ≡ false) ps (λ n h. held_by_none e n h) unheld)

  due_more : (ps qs : List Place) (point : List ℤ) (row : RowName) → (IsNamed row ps → IsNamed row qs) → IsDue case (board ps None) point row → IsDue case (board qs None) point row
  due_more ps qs point row more (inl misses) = inl misses
  due_more ps qs point row more (inr (inl complained)) = inr (inl complained)
  due_more ps qs point row more (inr (inr named)) = inr (inr (more named))

  node_more : (ps qs : List Place) → ((row : RowName) → IsNamed row ps → IsNamed row qs) → (x : Box × Place) → NodeIsGood ps x → NodeIsGood qs x
  node_more ps qs more (b, Split param cut row) h = h
  node_more ps qs more (b, Refuted row steps) h = record { refutes = h.refutes; fit = h.fit; due = due_more ps qs (key_of b) row (more row) h.due; fails = h.fails }
  node_more ps qs more (b, Open) h = h
  node_more ps qs more (b, Held who) h = h

  -- ---- the open box with the best key

  module _ (ps : List Place) (k : ℕ) (g : IsGood ps) (best : best_place (board ps None) ≡ Some k) where
    abbrev pub s : BoardState
    s = board ps None

    abbrev pub b : Box
    b = box_at s k

    abbrev pub x : Box × Place
    x = get_or (cells ps) k ([], Open)

    pub here : (k < length (cells ps)) × (is_best_wanted case.plan.olds None (cells ps) x ≡ true)
    here = let at = position-Some (is_best_wanted case.plan.olds None (cells ps)) (cells ps) k ([], Open) best in (at.0, at.1)

    wanted : (is_wanted case.plan.olds None x ≡ true) × (list_all (λ (y : Box × Place). not (is_wanted case.plan.olds None y && better case.plan.olds (key_of y.0) (key_of b))) (cells ps) ≡ true)
    wanted = both_of (is_wanted case.plan.olds None x) _ here.1

    opened : is_open x.1 ≡ true
    opened = (both_of (is_open x.1) true wanted.0).0

    pub x_is : x ≡ (b, Open)
    x_is = ap (λ (n : Place). (b, n)) (open_is x.1 opened)

    pub leaf : (k < length ps) × (is_leaf (get_or ps k Open) ≡ true)
    leaf = best_is_leaf s k best

    pub fits : Fits region b
    fits = box_fits s k g.sound here.0

    long : length case.plan.olds ≡ length b
    long = g.sound.priced ∙ sym fits.same

    pub key_in : In b (key_of b)
    key_in = cheapest_in case.plan.olds b long fits.spans

    pub no_better : AllByRecursion (λ (y : Box × Place). is_open y.1 ≡ true → better case.plan.olds (key_of y.0) (key_of b) ≡ false) (cells ps)
    no_better = all_map (λ (y : Box × Place). not (is_wanted case.plan.olds None y && better case.plan.olds (key_of y.0) (key_of b)) ≡ true) (λ (y : Box × Place). is_open y.1 ≡ true → better case.plan.olds (key_of y.0) (key_of b) ≡ false) (cells ps) (λ y h o. not_better (is_open y.1) (better case.plan.olds (key_of y.0) (key_of b)) h o) (all_passed _ (cells ps) wanted.1)

    pub no_worse : AllByRecursion (λ (y : Box × Place). is_counted y.1 ≡ true → better case.plan.olds (key_of b) (key_of y.0) ≡ false) (cells ps)
    no_worse = all_map (Before x) (λ (y : Box × Place). is_counted y.1 ≡ true → better case.plan.olds (key_of b) (key_of y.0) ≡ false) (cells ps) (λ y h w. h opened w) (all_at (λ (y : Box × Place). AllByRecursion (Before y) (cells ps)) (cells ps) k ([], Open) g.order here.0)

    -- the cheapest point of each box lies in it
    own : AllByRecursion (λ (y : Box × Place). In y.0 (key_of y.0)) (cells ps)
    own = recursion_from_All (λ (y : Box × Place). In y.0 (key_of y.0)) (cells ps) (All-from_get_or (λ (y : Box × Place). In y.0 (key_of y.0)) (cells ps) ([], Open) (λ j within.
        let f = box_fits s j g.sound within in
        cheapest_in case.plan.olds (box_at s j) (g.sound.priced ∙ sym f.same) f.spans))

    behind_by : (y : Box × Place) → In y.0 (key_of y.0) → Apart b y.0 → better case.plan.olds (key_of b) (key_of y.0) ≡ false → better case.plan.olds (key_of y.0) (key_of b) ≡ true
    behind_by y i apart h =
        ⊎_elim (λ less. absurd (false≢true (sym h ∙ less)))
        (λ rest. ⊎_elim (λ same. absurd (apart (key_of b) key_in (subst (In y.0) (sym same) i))) (λ more. more) rest)
        (better_cases case.plan.olds (key_of b) (key_of y.0))

    -- each worked box behind it is better
    behind : AllByRecursion (λ (y : Box × Place). is_counted y.1 ≡ true → better case.plan.olds (key_of y.0) (key_of b) ≡ true) (drop (suc k) (cells ps))
    behind =
        let apart = apart_behind ps region k g.sound.stands leaf.1 in
        let all = all_both (λ (y : Box × Place). is_counted y.1 ≡ true → better case.plan.olds (key_of b) (key_of y.0) ≡ false) (λ (y : Box × Place). In y.0 (key_of y.0)) (cells ps) no_worse own in
        let three = all_both (λ (y : Box × Place). (is_counted y.1 ≡ true → better case.plan.olds (key_of b) (key_of y.0) ≡ false) × In y.0 (key_of y.0)) (λ (y : Box × Place). Apart b y.0) (drop (suc k) (cells ps)) (all_drop _ (cells ps) (suc k) all) apart in
        all_map _ (λ (y : Box × Place). is_counted y.1 ≡ true → better case.plan.olds (key_of y.0) (key_of b) ≡ true) (drop (suc k) (cells ps)) (λ y h w. behind_by y h.0.1 h.1 (h.0.0 w)) three

    -- ---- it is worked on: a worked node takes its place, and open boxes in it may follow

    module _ (w : Place) (opens : List (Box × Place)) (new : List Place) (pairs : cells (put_in ps k new) ≡ put_in (cells ps) k ((b, w) ∷ opens)) (worked : is_open w ≡ false) (later : AllByRecursion (λ (y : Box × Place). (is_counted y.1 ≡ false) × (better case.plan.olds (key_of y.0) (key_of b) ≡ false)) opens) where
      abbrev zs : List (Box × Place)
      zs = put_in (cells ps) k ((b, w) ∷ opens)

      uncounted : (y z : Box × Place) → is_counted z.1 ≡ false → Before y z
      uncounted y z e o c = absurd (false≢true (sym e ∙ c))

      old_before : (y : Box × Place) → AllByRecursion (Before y) (cells ps) → (is_open y.1 ≡ true → better case.plan.olds (key_of y.0) (key_of b) ≡ false) → AllByRecursion (Before y) zs
      old_before y all h =
          all_put (Before y) (cells ps) ((b, w) ∷ opens) k all
          (λ o c. h o, all_map (λ (z : Box × Place). (is_counted z.1 ≡ false) × (better case.plan.olds (key_of z.0) (key_of b) ≡ false)) (Before y) opens (λ z e. uncounted y z e.0) later)

      new_before : (y : Box × Place) → better case.plan.olds (key_of y.0) (key_of b) ≡ false → AllByRecursion (Before y) zs
      new_before y e =
          old_before y
          (all_map (λ (z : Box × Place). is_counted z.1 ≡ true → better case.plan.olds (key_of b) (key_of z.0) ≡ false) (Before y) (cells ps) (λ z h o c. not_better_trans case.plan.olds (key_of z.0) (key_of b) (key_of y.0) (h c) e) no_worse)
          (λ o. e)

      worked_before : (ys : List (Box × Place)) → AllByRecursion (Before (b, w)) ys
      worked_before [] = tt
      worked_before (z ∷ ys) = (λ o c. absurd (false≢true (sym worked ∙ o)), worked_before ys)

      order_zs : AllByRecursion (λ (y : Box × Place). AllByRecursion (Before y) zs) zs
      order_zs =
          all_put (λ (y : Box × Place). AllByRecursion (Before y) zs) (cells ps) ((b, w) ∷ opens) k
          (all_map (λ (y : Box × Place). AllByRecursion (Before y) (cells ps) × (is_open y.1 ≡ true → better case.plan.olds (key_of y.0) (key_of b) ≡ false)) (λ (y : Box × Place). AllByRecursion (Before y) zs) (cells ps) (λ y h. old_before y h.0 h.1)
          (all_both (λ (y : Box × Place). AllByRecursion (Before y) (cells ps)) (λ (y : Box × Place). is_open y.1 ≡ true → better case.plan.olds (key_of y.0) (key_of b) ≡ false) (cells ps) g.order no_better))
          (worked_before zs, all_map (λ (y : Box × Place). (is_counted y.1 ≡ false) × (better case.plan.olds (key_of y.0) (key_of b) ≡ false)) (λ (y : Box × Place). AllByRecursion (Before y) zs) opens (λ y h. new_before y h.1) later)

      pub order_after : AllByRecursion (λ (y : Box × Place). AllByRecursion (Before y) (cells (put_in ps k new))) (cells (put_in ps k new))
      order_after = subst (λ (ys : List (Box × Place)). AllByRecursion (λ (y : Box × Place). AllByRecursion (Before y) ys) ys) (sym pairs) order_zs

      module _ (n : Node) (done_is : done ((b, w) ∷ opens) ≡ (b, n) ∷ []) (events : List Event) (events_are : flat_map work_on ((b, n) ∷ []) ≡ events) (becomes : after_all s events ≡ board (put_in ps k new) None) where
        abbrev front : List Placed
        front = done (take k (cells ps))

        abbrev back : List Placed
        back = done (drop (suc k) (cells ps))

        was_done : done (cells ps) ≡ front ++ back
        was_done =
            ap done (parted (cells ps) k ([], Open) here.0)
            ∙ (done_append (take k (cells ps)) (x ∷ drop (suc k) (cells ps))
            ∙ ap (λ (y : Box × Place). front ++ done (y ∷ drop (suc k) (cells ps))) x_is)

        now_done : done (cells (put_in ps k new)) ≡ front ++ ((b, n) ∷ back)
        now_done =
            ap done pairs
            ∙ (done_append (take k (cells ps)) (((b, w) ∷ opens) ++ drop (suc k) (cells ps))
            ∙ (ap (λ (l : List Placed). front ++ l) (done_append ((b, w) ∷ opens) (drop (suc k) (cells ps)))
            ∙ ap (λ (l : List Placed). front ++ (l ++ back)) done_is))

        last : in_order case.plan.olds (done (cells (put_in ps k new))) ≡ in_order case.plan.olds (done (cells ps)) ++ ((b, n) ∷ [])
        last =
            ap (in_order case.plan.olds) now_done
            ∙ (last_in_order case.plan.olds front (b, n) back
            (all_done (λ (c : Box). better case.plan.olds (key_of b) (key_of c) ≡ false) (take k (cells ps)) (all_take _ (cells ps) k no_worse))
            (all_done (λ (c : Box). better case.plan.olds (key_of c) (key_of b) ≡ true) (drop (suc k) (cells ps)) behind)
            ∙ ap (λ (l : List Placed). in_order case.plan.olds l ++ ((b, n) ∷ [])) (sym was_done))

        pub replays_after : after_all (board (Open ∷ []) None) (flat_map work_on (in_order case.plan.olds (done (cells (put_in ps k new))))) ≡ board (put_in ps k new) None
        replays_after =
            let first = in_order case.plan.olds (done (cells ps)) in
            let start = board (Open ∷ []) None in
            ap (λ (l : List Placed). after_all start (flat_map work_on l)) last
            ∙ (ap (after_all start) (flat_map-append work_on first ((b, n) ∷ []))
            ∙ (ap (λ (es : List Event). after_all start (flat_map work_on first ++ es)) events_are
            ∙ (after_both start (flat_map work_on first) events
            ∙ (ap (λ (t : BoardState). after_all t events) g.replays ∙ becomes))))

    -- ---- it is refuted or cut

    named_after : (new : List Place) (row : RowName) → IsNamed row ps → IsNamed row (put_in ps k new)
    named_after new row h = named_put row ps new k leaf.1 h

    old_nodes : (new : List Place) → AllByRecursion (NodeIsGood (put_in ps k new)) (cells ps)
    old_nodes new = all_map (NodeIsGood ps) (NodeIsGood (put_in ps k new)) (cells ps) (λ y h. node_more ps (put_in ps k new) (named_after new) y h) g.nodes

    pub good_refuted : (row : RowName) (steps : List Step) → IsSound (board (put_in ps k (Refuted row steps ∷ [])) None) → IsGoodRefutation ps b row steps → IsGood (put_in ps k (Refuted row steps ∷ []))
    good_refuted row steps sound h =
        let new = Refuted row steps ∷ [] in
        let pairs = boxed_leaf ps (region ∷ []) k Open (Refuted row steps) refl leaf.0 leaf.1 g.sound.stands in
        let none = holds_none ps None 0 g.unheld in
        let becomes = ap (λ (t : BoardState). after t (Refute 0 row steps)) (take_is s 0 k best) ∙ refuted_is s 0 k best none row steps in
        record {
          sound = sound;
          nodes = subst (AllByRecursion (NodeIsGood (put_in ps k new))) (sym pairs) (all_put (NodeIsGood (put_in ps k new)) (cells ps) ((b, Refuted row steps) ∷ []) k (old_nodes new) (node_more ps (put_in ps k new) (named_after new) (b, Refuted row steps) h, tt));
          unheld = all_put (λ (n : Place). is_held n ≡ false) ps new k g.unheld (refl, tt);
          order = order_after (Refuted row steps) [] new pairs refl tt;
          replays = replays_after (Refuted row steps) [] new pairs refl tt (node.Refuted row steps) refl (Take 0 ∷ Refute 0 row steps ∷ []) refl becomes;
        }

    half_later : (half : Box) → Fits region half → ((q : List ℤ) → In half q → In b q) → better case.plan.olds (key_of half) (key_of b) ≡ false
    half_later half f into = none_better case.plan.olds b (key_of half) long (into (key_of half) (cheapest_in case.plan.olds half (g.sound.priced ∙ sym f.same) f.spans))

    pub good_cut : (param : ℕ) (cut : ℤ) (row : RowName) → IsSound (board (put_in ps k (Split param cut row ∷ Open ∷ Open ∷ [])) None) → IsGoodCut b param cut row → IsGood (put_in ps k (Split param cut row ∷ Open ∷ Open ∷ []))
    good_cut param cut row sound h =
        let new = Split param cut row ∷ Open ∷ Open ∷ [] in
        let low = lower_half b (param - 1) cut in
        let high = upper_half b (param - 1) cut in
        let opens = (low, Open) ∷ (high, Open) ∷ [] in
        let pairs = boxed_split ps (region ∷ []) k Open param cut row leaf.0 leaf.1 g.sound.stands in
        let none = holds_none ps None 0 g.unheld in
        let becomes = ap (λ (t : BoardState). after t (Cut 0 param cut row)) (take_is s 0 k best) ∙ cut_is s 0 k best none param cut row in
        let itself : Fits b b = record { spans = fits.spans; within = λ q i. i; same = refl } in
        let lows = half_later low (lower_fits region b (param - 1) cut h.cuts fits) (lower_fits b b (param - 1) cut h.cuts itself).within in
        let highs = half_later high (upper_fits region b (param - 1) cut h.cuts fits) (upper_fits b b (param - 1) cut h.cuts itself).within in
        record {
          sound = sound;
          nodes = subst (AllByRecursion (NodeIsGood (put_in ps k new))) (sym pairs) (all_put (NodeIsGood (put_in ps k new)) (cells ps) (cut_nodes b param cut row) k (old_nodes new) (h, (tt, (tt, tt))));
          unheld = all_put (λ (n : Place). is_held n ≡ false) ps new k g.unheld (refl, (refl, (refl, tt)));
          order = order_after (Split param cut row) opens new pairs refl ((refl, lows), ((refl, highs), tt));
          replays = replays_after (Split param cut row) opens new pairs refl ((refl, lows), ((refl, highs), tt)) (node.Split param cut row) refl (Take 0 ∷ Cut 0 param cut row ∷ []) refl becomes;
        }
