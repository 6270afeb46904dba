-- What a run of one explorer alone answers.
use Rattle.std.proofs.Common.{◌≡◌, ◌⊎◌, inl, inr, ⊎_elim, refl, sym, ap, ◌∙◌, subst, arith, ℕ, zero, suc, ◌<◌, ◌≤◌, min, ℤ, Bool, true, false, not, ◌&&◌, ◌||◌, ◌≤ℤ◌, int_lt, cond, List, [], ◌∷◌, ◌++◌, length, map, filter, fold, get_or}
use Rattle.std.specs.declared.option.Option.{Option}
use Rattle.std.specs.declared.option.Option.TheVariants.{Some, None}
use Rattle.std.specs.List.{All, AllByRecursion, Contains, count_by, flat_map, list_any}
use Rattle.std.proofs.lemmas.Bool.{false≢true, and_from}
use Rattle.std.proofs.lemmas.List.{get_or-map, length-map}
use Rattle.std.proofs.lemmas.List.Elements.{All-from_recursion, recursion_from_All}
use Rattle.std.proofs.lemmas.List.Folds.{list_any_at}
use Rattle.qf_base.specs.declared.names.RowName.{RowName}
use Rattle.qf_base.specs.Values.{Bounds}
use Rattle.qf_base.proofs.BoxLaws.{is_in-In, IsWithin-In, In-IsWithin}
use Rattle.qf_base.proofs.Integers.{int_lt_no}
use Rattle.qf_lin.specs.Inequalities.{is_empty}
use Rattle.qf_point.specs.Points.{better, cheapest, cost, HasNoEmpty}
use Rattle.qf_point.specs.Least.{Least, IsAnswer}
use Rattle.qf_point.proofs.PointLaws.{better_cases}
use Rattle.qf_goal.specs.Case.{Case, Mends, first_failing}
use Rattle.qf_goal.proofs.KeptLemmas.{failing_tells}
use Rattle.qf_tree.specs.declared.tree.Node.{Node}
use Rattle.qf_tree.specs.declared.tree.Node.TheVariants as node
use Rattle.qf_tree.specs.declared.tree.Tree.{Tree}
use Rattle.qf_tree.specs.declared.cert.Answer.{Answer}
use Rattle.qf_tree.specs.declared.cert.Answer.TheVariants as answer
use Rattle.qf_tree.specs.declared.cert.Cert.{Cert}
use Rattle.qf_tree.specs.Lines.{are_trees, answer_fits}
use Rattle.qf_tree.specs.Lean.{IsWorthWork}
use Rattle.qf_tree.specs.Certificates.{Placed, placed, NodeIsRight, is_open, least_of, open_costs, answer_is_right, end_is_right}
use Rattle.qf_tree.specs.Sizes as size
use Rattle.qf_tree.proofs.Sizes.{small_trees}
use Rattle.qf_tree.proofs.Orders.{cost_from_no_better}
use Rattle.qf_instance.specs.Leanness.{IsValidFor, IsLeanFor}
use Rattle.qf_instance.proofs.Boxes.{boxes_hold}
use Rattle.qf_board.specs.Boards as on
use Rattle.qf_board.specs.Boards.{BoardState, Place, Split, Refuted, Open, Held, Box, boxes, box_at, is_held, is_wanted, is_counted, beats, left_node, tree_node, tree_of, best_place, best_box, has_ended, start, Event, Take, after, after_all}
use Rattle.qf_board.specs.Laws.{StepsAreSound}
use Rattle.qf_board.proofs.Lists.{all_map, all_both}
use Rattle.qf_board.proofs.BoardLaws.{sound_start}
use Rattle.qf_board.proofs.Truth.{answer_after}
use Rattle.qf_search.specs.Standing.{RefutesFor}
use Rattle.qf_search.specs.Exploring.{Explores, IsIdle, IsLeft}
use Rattle.qf_search.specs.Searched.{IsGround}
use Rattle.qf_search.specs.declared.solving.Found.TheVariants as found
use Rattle.qf_search.specs.Solving.{in_order, work_on, IsSolved}
use Rattle.qf_search.proofs.BoardSteps.{take_is, found_is, box_placed}
use Rattle.qf_search.proofs.Repairs.{steps_sound, box_spans, box_long}
use Rattle.qf_search.proofs.WorkOrder.{placed_node, works_done, events_in_order, done}
use Rattle.qf_search.proofs.OneExplorer.{board, cells, key_of, IsGood, NodeIsGood, after_both, all_passed, holds_none, x_is, here, no_better, no_worse}
use Rattle.qf_search.proofs.OneRun.{IsResting, HasFound, after_run, nothing_best, unwanted, not_here}
use Rattle.qf_search.proofs.BoardTree.{all_mapped, placed_is, trees_are, cuts_are, counts_are}
use Rattle.qf_search.proofs.SolvedTree.{inst, is_inst, in_domains, free_cells, values_fit, shaped, spelled, nodes_right, nodes_lean, nodes_in_order, LeftIsRight, IsWorth}

-- ---- options

none_is_some : {X : Type 0} (o : Option X) (p : X) → o ≡ None → o ≡ Some p → ⊥
none_is_some o p none some = absurd (cc)

same_some : {X : Type 0} (o : Option X) (p q : X) → o ≡ Some p → o ≡ Some q → p ≡ q
same_some o p q first second = cc

-- ---- the least of a list

least_from : (m x : ℕ) (xs : List ℕ) → m ≤ x → AllByRecursion (λ (y : ℕ). m ≤ y) xs → m ≤ fold min x xs
least_from m x [] h all = h
least_from m x (y ∷ xs) h all = least_from m (min x y) xs (omega (arith, h, all.0)) all.1

least_below : (x : ℕ) (xs : List ℕ) → fold min x xs ≤ x
least_below x [] = omega arith
least_below x (y ∷ xs) = let rest = least_below (min x y) xs in omega (arith, rest)

least_at : (x : ℕ) (xs : List ℕ) (k d : ℕ) → k < length xs → fold min x xs ≤ get_or xs k d
least_at x [] k d within = absurd (omega (arith, within))
least_at x (y ∷ xs) zero d within = let rest = least_below (min x y) xs in omega (arith, rest)
least_at x (y ∷ xs) (suc k) d within = least_at (min x y) xs k d (omega (arith, within))

least_here : (x : ℕ) (xs : List ℕ) (k d : ℕ) → k < length (x ∷ xs) → fold min x xs ≤ get_or (x ∷ xs) k d
least_here x xs zero d within = least_below x xs
least_here x xs (suc k) d within = least_at x xs k d (omega (arith, within))

-- the one that no other is below
is_least : (m : ℕ) (xs : List ℕ) (k d : ℕ) → k < length xs → get_or xs k d ≡ m → AllByRecursion (λ (y : ℕ). m ≤ y) xs → least_of xs ≡ m
is_least m [] k d within is all = absurd (omega (arith, within))
is_least m (x ∷ xs) k d within is all =
    let up = least_from m x xs all.0 all.1 in
    let down = least_here x xs k d within in
    omega (arith, up, down, is)

contained_at : {X : Type 0} (test : X → Bool) (xs : List X) (x d : X) (k : ℕ) → k < length xs → get_or xs k d ≡ x → test x ≡ true → Contains (filter test xs) x
contained_at test [] x d k within e passes = absurd (omega (arith, within))
contained_at {X} test (y ∷ xs) x d zero within e passes =
    let is : test y ≡ true = ap test e ∙ passes in
    subst (λ (b : Bool). Contains (cond {A = List X} b (y ∷ filter test xs) (filter test xs)) x) (sym is) (0, omega arith, e)
contained_at {X} test (y ∷ xs) x d (suc k) within e passes =
    let rest = contained_at test xs x d k (omega (arith, within)) e passes in
    elim (test y) as (λ b. Contains (cond {A = List X} b (y ∷ filter test xs) (filter test xs)) x) [
      | true ↦ (suc rest.0, omega (arith, rest.1), rest.2)
      | false ↦ rest
    ]

all_kept : {X : Type 0} (P : X → Type 0) (test : X → Bool) (xs : List X) → AllByRecursion (λ (x : X). test x ≡ true → P x) xs → AllByRecursion P (filter test xs)
all_kept P test [] all = tt
all_kept {X} P test (x ∷ xs) all = by (test x) refl (all_kept P test xs all.1)
  where
    by : (b : Bool) → test x ≡ b → AllByRecursion P (filter test xs) → AllByRecursion P (cond {A = List X} b (x ∷ filter test xs) (filter test xs))
    by true e rest = (all.0 e, rest)
    by false e rest = rest

not_empty : (region : Bounds) → AllByRecursion (λ (r : ℤ × ℤ). r.0 ≤ℤ r.1) region → is_empty region ≡ false
not_empty [] all = refl
not_empty (r ∷ region) all = or_not (int_lt r.1 r.0) (is_empty region) (int_lt_no r.1 r.0 all.0) (not_empty region all.1)
  where
    or_not : (a b : Bool) → a ≡ false → b ≡ false → (a || b) ≡ false
    or_not true b e f = absurd (false≢true (sym e))
    or_not false b e f = f

-- ---- points that don't repair

fails_first : (case : Case) (point : List ℤ) (row : RowName) → first_failing case point ≡ Some row → Mends case point → ⊥
fails_first case point row e mends = none_is_some (first_failing case point) row ((failing_tells case point (first_failing case point) refl).1 mends) e

no_repair : (case : Case) (region : Bounds) (ps : List Place) (x : Box × Place) → NodeIsGood case region ps x → is_counted x.1 ≡ true → Mends case (key_of case region x.0) → ⊥
no_repair case region ps (b, Split param cut row) h w mends = fails_first case (key_of case region b) row h.failing mends
no_repair case region ps (b, Refuted row steps) h w mends = h.fails mends
no_repair case region ps (b, Open) h w mends = false≢true w
no_repair case region ps (b, Held who) h w mends = false≢true w

module _ (case : Case) (root region : Bounds) (params : ℕ → Bool) (ground : IsGround case root region params) (budget : ℕ) (t : BoardState) (run : Explores case 0 budget (start region case.plan.olds 1) t) where
  priced : length case.plan.olds ≡ length region
  priced = box_long case root region ground.sound ground.is_root ground.inside

  spans : HasNoEmpty region
  spans = box_spans region root ground.inside

  sound_steps : StepsAreSound (Mends case) (RefutesFor case) region
  sound_steps = steps_sound case root region ground.sound ground.is_root ground.inside

  phase : IsResting case region t ⊎ HasFound case region t
  phase = after_run case region sound_steps budget t (sound_start region case.plan.olds 1 priced spans) run

  -- ---- nobody holds a box

  unheld : (p : IsResting case region t ⊎ HasFound case region t) (e k : ℕ) → on.held_place t e ≡ Some k → ⊥
  unheld (inl r) e k at = not_here (on.held_place t e) k (ap (λ (s : BoardState). on.held_place s e) r.is ∙ holds_none case region r.places None e r.good.unheld) at
  unheld (inr f) e k at = not_here (on.held_place t e) k (ap (λ (s : BoardState). on.held_place s e) f.is ∙ holds_none case region f.places (Some (key_of case region (box_at (board case region f.places None) f.place))) e f.good.unheld) at

  pub never_idle : IsIdle 0 t → ⊥
  never_idle idle = unheld phase idle.other idle.holds.0 idle.holds.1

  answers : has_ended t ≡ true → IsAnswer (Mends case) region case.plan.olds t.best
  answers ended =
      let begin = start region case.plan.olds 1 in
      subst (λ (s : BoardState). IsAnswer (Mends case) region case.plan.olds s.best) run.leads
      (answer_after (Mends case) (RefutesFor case) region sound_steps case.plan.olds 1 run.events priced spans run.allowed (ap has_ended run.leads ∙ ended))

  few_nodes : on.node_count t ≤ budget
  few_nodes = omega (arith, run.added, run.few)

  -- the board's old constants and its one explorer stay
  frame_by : IsResting case region t ⊎ HasFound case region t → (t.prices ≡ case.plan.olds) × (t.explorers ≡ 1)
  frame_by (inl r) = (ap (λ (s : BoardState). s.prices) r.is, ap (λ (s : BoardState). s.explorers) r.is)
  frame_by (inr f) = (ap (λ (s : BoardState). s.prices) f.is, ap (λ (s : BoardState). s.explorers) f.is)

  pub frame : (t.prices ≡ case.plan.olds) × (t.explorers ≡ 1)
  frame = frame_by phase

  module _ (tree : Tree) (is_tree : tree.nodes ≡ tree_of t) where
    -- ---- its tree, whatever the answer

    module _ (ps : List Place) (g : IsGood case region ps) (best : Option (List ℤ)) (is : t ≡ board case region ps best) (a : Answer) where
      abbrev cert : Cert
      cert = record { answer = a; tree = tree }

      nodes_are : tree.nodes ≡ tree_of (board case region ps best)
      nodes_are = is_tree ∙ ap tree_of is

      same_placed : placed (region ∷ []) tree.nodes ≡ map (placed_node case.plan.olds best) (cells case region ps)
      same_placed = ap (placed (region ∷ [])) nodes_are ∙ placed_is case.plan.olds best ps (region ∷ []) g.sound.stands

      counted : size.node_count tree.nodes ≡ on.node_count t
      counted =
          ap (count_by size.is_worked) nodes_are
          ∙ (counts_are case.plan.olds best ps (region ∷ []) g.sound.stands ∙ sym (ap on.node_count is))

      few : size.node_count tree.nodes ≤ budget
      few = omega (arith, counted, few_nodes)

      trees : are_trees 1 tree.nodes ≡ true
      trees = ap (are_trees 1) nodes_are ∙ trees_are case.plan.olds best ps (region ∷ []) g.sound.stands (shaped case root region params ground ps g)

      cuts : size.all_cut (placed (region ∷ []) tree.nodes) ≡ true
      cuts = ap size.all_cut same_placed ∙ cuts_are case.plan.olds best (cells case region ps) (shaped case root region params ground ps g)

      -- its events lead to the board before the last box was found
      replayed_from : (more : List Event) → after_all (start region case.plan.olds 1) (flat_map work_on (in_order case.plan.olds (placed (region ∷ []) tree.nodes)) ++ more) ≡ after_all (board case region ps None) more
      replayed_from more =
          let begin = start region case.plan.olds 1 in
          let all = map (placed_node case.plan.olds best) (cells case region ps) in
          let events =
          ap (λ (l : List Placed). flat_map work_on (in_order case.plan.olds l)) same_placed
          ∙ (events_in_order case.plan.olds all ∙ ap (λ (l : List Placed). flat_map work_on (in_order case.plan.olds l)) (works_done case.plan.olds best (cells case region ps))) in
          ap (λ (es : List Event). after_all begin (es ++ more)) events
          ∙ (after_both begin (flat_map work_on (in_order case.plan.olds (done (cells case region ps)))) more
          ∙ ap (λ (s : BoardState). after_all s more) g.replays)

      valid : answer_fits a ≡ true → answer_is_right (inst case root region params ground) a ≡ true → AllByRecursion (LeftIsRight case root region params ground ps g best a) (cells case region ps) → end_is_right a tree.nodes ≡ true → IsValidFor case region cert
      valid fits right left end = record {
        inst = inst case root region params ground;
        is_instance = is_inst case root region params ground;
        valid = record {
          spelled = spelled case root region params ground ps g best a tree nodes_are fits;
          answer = right;
          nodes = nodes_right case root region params ground ps g best a tree nodes_are left;
          end = end;
        };
      }

      lean : AllByRecursion (IsWorth case root region params ground ps g best a tree nodes_are) (cells case region ps) → IsLeanFor case region cert
      lean worth = record {
        inst = inst case root region params ground;
        is_instance = is_inst case root region params ground;
        lean = record {
          nodes = nodes_lean case root region params ground ps g best a tree nodes_are worth;
          best_first = nodes_in_order case root region params ground ps g best a tree nodes_are;
        };
      }

      worth_all : ((b : Box) → IsWorthWork (inst case root region params ground) a b) → (ys : List (Box × Place)) → AllByRecursion (IsWorth case root region params ground ps g best a tree nodes_are) ys
      worth_all f [] = tt
      worth_all f (x ∷ ys) = (λ w. f x.0, worth_all f ys)

    -- ---- it has ended

    ended_all : has_ended t ≡ true → (ps : List Place) (best : Option (List ℤ)) → t ≡ board case region ps best → AllByRecursion (λ (x : Box × Place). (not (is_held x.1) && not (is_wanted case.plan.olds best x)) ≡ true) (cells case region ps)
    ended_all ended ps best is = all_passed (λ (x : Box × Place). not (is_held x.1) && not (is_wanted case.plan.olds best x)) (cells case region ps) (sym (ap has_ended is) ∙ ended)

    -- where nothing is found no box is left
    none_left : (ps : List Place) (g : IsGood case region ps) (x : Box × Place) → (not (is_held x.1) && not (is_wanted case.plan.olds None x)) ≡ true → LeftIsRight case root region params ground ps g None answer.Nothing x
    none_left ps g (b, Split param cut row) h left = absurd (false≢true left)
    none_left ps g (b, Refuted row steps) h left = absurd (false≢true left)
    none_left ps g (b, Open) h left = absurd (false≢true h)
    none_left ps g (b, Held who) h left = absurd (false≢true h)

    nothing_at_rest : has_ended t ≡ true → t.best ≡ None → IsResting case region t → IsSolved case region budget (found.Nothing tree)
    nothing_at_rest ended none r =
        let left = all_map _ (LeftIsRight case root region params ground r.places r.good None answer.Nothing) (cells case region r.places) (none_left r.places r.good) (ended_all ended r.places None r.is) in
        record {
          answers = subst (IsAnswer (Mends case) region case.plan.olds) none (answers ended);
          valid = valid r.places r.good None r.is answer.Nothing refl refl left refl;
          lean = lean r.places r.good None r.is answer.Nothing (worth_all r.places r.good None r.is answer.Nothing (λ b. tt) (cells case region r.places));
          few = few r.places r.good None r.is answer.Nothing;
          replayed = ap tree_of (replayed_from r.places r.good None r.is answer.Nothing []) ∙ sym (nodes_are r.places r.good None r.is answer.Nothing);
        }

    pub nothing_solved : has_ended t ≡ true → t.best ≡ None → IsSolved case region budget (found.Nothing tree)
    nothing_solved ended none =
        ⊎_elim (λ r. nothing_at_rest ended none r)
        (λ f. absurd (none_is_some t.best (key_of case region (box_at (board case region f.places None) f.place)) none (ap (λ (s : BoardState). s.best) f.is)))
        phase

    -- ---- .. and a point is found

    module _ (f : HasFound case region t) where
      abbrev p : List ℤ
      p = key_of case region (box_at (board case region f.places None) f.place)

      left_by : (b : Box) → (not (beats case.plan.olds (Some p) (cheapest case.plan.olds b))) ≡ true → NodeIsRight (inst case root region params ground) (answer.Repair p) (b, left_node case.plan.olds (Some p) b)
      left_by b h =
          (elim (beats case.plan.olds (Some p) (cheapest case.plan.olds b)) as (λ w. not w ≡ true → not w ≡ true → NodeIsRight (inst case root region params ground) (answer.Repair p) (b, cond {A = Node} w node.Open node.Dear)) [
            | true ↦ λ e d. absurd (false≢true e)
            | false ↦ λ e d. h
          ]) h h

      left_dear : (x : Box × Place) → (not (is_held x.1) && not (is_wanted case.plan.olds (Some p) x)) ≡ true → LeftIsRight case root region params ground f.places f.good (Some p) (answer.Repair p) x
      left_dear (b, Split param cut row) h left = absurd (false≢true left)
      left_dear (b, Refuted row steps) h left = absurd (false≢true left)
      left_dear (b, Open) h left = left_by b h
      left_dear (b, Held who) h left = absurd (false≢true h)

      better_by : (q : List ℤ) → better case.plan.olds p q ≡ false → (Mends case q → ⊥) → better case.plan.olds q p ≡ true
      better_by q h fails =
          ⊎_elim (λ less. absurd (false≢true (sym h ∙ less)))
          (λ rest. ⊎_elim (λ same. absurd (fails (subst (Mends case) same f.mends))) (λ more. more) rest)
          (better_cases case.plan.olds p q)

      worth_found : AllByRecursion (IsWorth case root region params ground f.places f.good (Some p) (answer.Repair p) tree (nodes_are f.places f.good (Some p) f.is (answer.Repair p))) (cells case region f.places)
      worth_found =
          all_map (λ (x : Box × Place). NodeIsGood case region f.places x × (is_counted x.1 ≡ true → better case.plan.olds p (key_of case region x.0) ≡ false)) _ (cells case region f.places)
          (λ x h w. better_by (key_of case region x.0) (h.1 w) (no_repair case region f.places x h.0 w))
          (all_both (NodeIsGood case region f.places) (λ (x : Box × Place). is_counted x.1 ≡ true → better case.plan.olds p (key_of case region x.0) ≡ false) (cells case region f.places) f.good.nodes (no_worse case region f.places f.place f.good f.best))

      repair_found : has_ended t ≡ true → IsSolved case region budget (found.Repair p tree)
      repair_found ended =
          let s = board case region f.places None in
          let least : Least (Mends case) region case.plan.olds p = subst (IsAnswer (Mends case) region case.plan.olds) (ap (λ (s : BoardState). s.best) f.is) (answers ended) in
          let in_whole = In-IsWithin case.domains.region p (boxes_hold region case.domains.region (in_domains case root region params ground region ground.inside) p (IsWithin-In region p least.inside)) in
          let left = all_map _ (LeftIsRight case root region params ground f.places f.good (Some p) (answer.Repair p)) (cells case region f.places) left_dear (ended_all ended f.places (Some p) f.is) in
          let last = ap (λ (s : BoardState). after s (on.Found 0)) (take_is s 0 f.place f.best) ∙ found_is s 0 f.place f.best (holds_none case region f.places None 0 f.good.unheld) f.good.sound in
          record {
            answers = least;
            valid = valid f.places f.good (Some p) f.is (answer.Repair p) (values_fit case.domains.region p ground.small in_whole) (and_from _ _ (is_in-In case.domains.region p in_whole) f.mends) left refl;
            lean = lean f.places f.good (Some p) f.is (answer.Repair p) worth_found;
            few = few f.places f.good (Some p) f.is (answer.Repair p);
            replayed = ap tree_of (replayed_from f.places f.good (Some p) f.is (answer.Repair p) (Take 0 ∷ on.Found 0 ∷ []) ∙ last) ∙ sym (nodes_are f.places f.good (Some p) f.is (answer.Repair p));
          }

    pub repair_solved : (q : List ℤ) → has_ended t ≡ true → t.best ≡ Some q → IsSolved case region budget (found.Repair q tree)
    repair_solved q ended some =
        ⊎_elim (λ r. absurd (none_is_some t.best q (ap (λ (s : BoardState). s.best) r.is) some))
        (λ f. subst (λ (v : List ℤ). IsSolved case region budget (found.Repair v tree)) (same_some t.best (p f) q (ap (λ (s : BoardState). s.best) f.is) some) (repair_found f ended))
        phase

    -- ---- the budget was used up

    module _ (r : IsResting case region t) (k : ℕ) (best : best_place (board case region r.places None) ≡ Some k) where
      abbrev b : Box
      b = box_at (board case region r.places None) k

      abbrev to_node : Box × Place → Placed
      to_node x = placed_node case.plan.olds None x

      abbrev ys : List (Box × Place)
      ys = cells case region r.places

      abbrev leaf : Placed
      leaf = (b, node.Open)

      inside_ys : k < length ys
      inside_ys = (here case region r.places k r.good best).0

      leaf_there : (k < length (map to_node ys)) × (get_or (map to_node ys) k leaf ≡ leaf)
      leaf_there = (omega (arith, inside_ys, length-map ys to_node), get_or-map to_node ys k ([], Open) leaf inside_ys ∙ ap to_node (x_is case region r.places k r.good best))

      no_other : (y : Box × Place) → is_held y.1 ≡ false → (on.is_open y.1 ≡ true → better case.plan.olds (key_of case region y.0) (key_of case region b) ≡ false) → is_open (tree_node case.plan.olds None y) ≡ true → better case.plan.olds (key_of case region y.0) (key_of case region b) ≡ false
      no_other (c, Split param cut row) free h o = absurd (false≢true o)
      no_other (c, Refuted row steps) free h o = absurd (false≢true o)
      no_other (c, Open) free h o = h refl
      no_other (c, Held who) free h o = absurd (false≢true (sym free))

      abbrev IsBehind : Placed → Type 0
      IsBehind other = is_open other.1 ≡ true → better case.plan.olds (cheapest case.plan.olds other.0) (cheapest case.plan.olds leaf.0) ≡ false

      all_behind : AllByRecursion IsBehind (map to_node ys)
      all_behind =
          all_mapped IsBehind to_node ys
          (all_map (λ (y : Box × Place). (is_held y.1 ≡ false) × (on.is_open y.1 ≡ true → better case.plan.olds (key_of case region y.0) (key_of case region b) ≡ false)) (λ (y : Box × Place). IsBehind (to_node y)) ys (λ y h. no_other y h.0 h.1)
          (all_both (λ (y : Box × Place). is_held y.1 ≡ false) (λ (y : Box × Place). on.is_open y.1 ≡ true → better case.plan.olds (key_of case region y.0) (key_of case region b) ≡ false) ys (free_cells case root region params ground r.places r.good) (no_better case region r.places k r.good best)))

      open_there : list_any is_open tree.nodes ≡ true
      open_there =
          let nodes = map (tree_node case.plan.olds None) ys in
          let at_k = get_or-map (tree_node case.plan.olds None) ys k ([], Open) node.Open inside_ys ∙ ap (tree_node case.plan.olds None) (x_is case region r.places k r.good best) in
          ap (list_any is_open) (nodes_are r.places r.good None r.is answer.Budget) ∙ list_any_at is_open nodes k node.Open (omega (arith, inside_ys, length-map ys (tree_node case.plan.olds None))) (ap is_open at_k)

      abbrev key_cost : Placed → ℕ
      key_cost other = cost case.plan.olds (cheapest case.plan.olds other.0)

      least_key : least_of (open_costs (inst case root region params ground) (map to_node ys)) ≡ key_cost leaf
      least_key =
          let opens = filter (λ (other : Placed). is_open other.1) (map to_node ys) in
          let at = contained_at (λ (other : Placed). is_open other.1) (map to_node ys) leaf leaf k leaf_there.0 leaf_there.1 refl in
          let behind = all_map IsBehind (λ (other : Placed). is_open other.1 ≡ true → key_cost leaf ≤ key_cost other) (map to_node ys) (λ other h o. cost_from_no_better case.plan.olds (cheapest case.plan.olds other.0) (cheapest case.plan.olds b) (h o)) all_behind in
          is_least (key_cost leaf) (map key_cost opens) at.0 0 (omega (arith, at.1, length-map opens key_cost))
          (get_or-map key_cost opens at.0 leaf 0 at.1 ∙ ap key_cost at.2)
          (all_mapped (λ (m : ℕ). key_cost leaf ≤ m) key_cost opens (all_kept (λ (other : Placed). key_cost leaf ≤ key_cost other) (λ (other : Placed). is_open other.1) (map to_node ys) behind))

      left_open : (y : Box × Place) → LeftIsRight case root region params ground r.places r.good None answer.Budget y
      left_open (c, Split param cut row) left = absurd (false≢true left)
      left_open (c, Refuted row steps) left = absurd (false≢true left)
      left_open (c, Open) left = refl
      left_open (c, Held who) left = refl

      all_left_open : (zs : List (Box × Place)) → AllByRecursion (LeftIsRight case root region params ground r.places r.good None answer.Budget) zs
      all_left_open [] = tt
      all_left_open (y ∷ zs) = (left_open y, all_left_open zs)

      budget_at_rest : (least : ℕ) → least ≡ cost case.plan.olds (key_of case region b) → on.node_count t ≡ budget → (Mends case (key_of case region b) → ⊥) → IsSolved case region budget (found.Budget tree least)
      budget_at_rest least least_is used fails =
          let same = same_placed r.places r.good None r.is answer.Budget in
          let count = counted r.places r.good None r.is answer.Budget in
          let filled = not_empty region (recursion_from_All (λ (i : ℤ × ℤ). i.0 ≤ℤ i.1) region spans) in
          let tree_small = small_trees region tree.nodes (trees r.places r.good None r.is answer.Budget) (cuts r.places r.good None r.is answer.Budget) filled in
          record {
            answers = record {
              short = record {
                used = count ∙ used;
                leaf = leaf;
                best = record {
                  among = subst (λ (l : List Placed). Contains l leaf) (sym same) (k, leaf_there.0, leaf_there.1);
                  still_open = refl;
                  best = subst (All IsBehind) (sym same) (All-from_recursion IsBehind (map to_node ys) all_behind);
                };
                fails = fails;
              };
              least_is = record {
                inst = inst case root region params ground;
                is_instance = is_inst case root region params ground;
                least_is = least_is ∙ (sym least_key ∙ ap (λ (l : List Placed). least_of (open_costs (inst case root region params ground) l)) (sym same));
              };
              many = omega (arith, count, used, tree_small.worked_open open_there);
            };
            valid = valid r.places r.good None r.is answer.Budget refl refl (all_left_open ys) open_there;
            lean = lean r.places r.good None r.is answer.Budget (worth_all r.places r.good None r.is answer.Budget (λ c. tt) ys);
            few = few r.places r.good None r.is answer.Budget;
            replayed = ap tree_of (replayed_from r.places r.good None r.is answer.Budget []) ∙ sym (nodes_are r.places r.good None r.is answer.Budget);
          }

    none_best : (f : HasFound case region t) → best_place t ≡ None
    none_best f = ap best_place f.is ∙ nothing_best (board case region f.places (Some (key_of case region (box_at (board case region f.places None) f.place)))) (unwanted case region sound_steps f.places f.good f.place f.best)

    pub budget_solved : (left : IsLeft case t) (least : ℕ) → least ≡ cost case.plan.olds (cheapest case.plan.olds left.box) → on.node_count t ≡ budget → IsSolved case region budget (found.Budget tree least)
    budget_solved left least least_is used =
        let at = box_placed t left.box left.best in
        ⊎_elim (λ (r : IsResting case region t).
        let best = sym (ap best_place r.is) ∙ at.1 in
        let same : left.box ≡ box_at (board case region r.places None) at.0 = sym at.2 ∙ ap (λ (s : BoardState). box_at s at.0) r.is in
        let fails = subst (λ (olds : List ℤ). Mends case (cheapest olds left.box) → ⊥) (ap (λ (s : BoardState). s.prices) r.is) left.fails in
        budget_at_rest r at.0 best least (least_is ∙ ap (λ (c : Box). cost case.plan.olds (cheapest case.plan.olds c)) same) used
        (subst (λ (c : Box). Mends case (cheapest case.plan.olds c) → ⊥) same fails))
        (λ (f : HasFound case region t). absurd (none_is_some (best_place t) at.0 (none_best f) at.1))
        phase
