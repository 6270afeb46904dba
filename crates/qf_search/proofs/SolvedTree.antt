-- The tree of a run is valid and lean.
use Rattle.std.proofs.Common.{◌≡◌, ◌⊎◌, inl, inr, refl, sym, ap, ◌∙◌, subst, arith, ℕ, zero, suc, ◌-◌, ◌^◌, ◌<◌, ◌≤◌, nat_lt, ℤ, pos, neg_ℤ, ◌≤ℤ◌, int_le, unsigned_abs, Bool, true, false, cond, List, [], ◌∷◌, length, map, filter, slice_get}
use Rattle.std.specs.declared.option.Option.{Option}
use Rattle.std.specs.declared.option.Option.TheVariants.{Some, None}
use Rattle.std.specs.List.{All, AllByRecursion, Contains, list_all, flat_map}
use Rattle.std.proofs.lemmas.Int.{ints}
use Rattle.std.proofs.lemmas.Bool.{false≢true, and_from}
use Rattle.std.proofs.lemmas.Bool.Decides.{nat_tests}
use Rattle.std.proofs.lemmas.List.Elements.{All-from_recursion, recursion_from_All}
use Rattle.qf_base.specs.declared.names.RowName.{RowName}
use Rattle.qf_base.specs.declared.names.RowName.TheVariants.{Start, Inserted}
use Rattle.qf_base.specs.Values.{Bounds, interval_at, In}
use Rattle.qf_base.proofs.BoxLaws.{length-In}
use Rattle.qf_base.proofs.Integers.{int_le_yes}
use Rattle.qf_lin.specs.declared.step.Step.{Step}
use Rattle.qf_point.specs.Points.{cheapest, CanCut, lower_half, upper_half}
use Rattle.qf_point.specs.Domains.{is_small, HasSmallEnds}
use Rattle.qf_ir.specs.Plan.{RowExists}
use Rattle.qf_goal.specs.Case.{Case, complained_rows, is_complained}
use Rattle.qf_goal.specs.SoundCase.{IsSoundCase}
use Rattle.qf_goal.proofs.KeptLemmas.{rows-same}
use Rattle.qf_goal.proofs.RowLemmas.{row_exists_is, row-at-place}
use Rattle.qf_tree.specs.declared.line.Line.{Line}
use Rattle.qf_tree.specs.declared.line.Line.TheVariants as line
use Rattle.qf_tree.specs.declared.tree.Node.{Node}
use Rattle.qf_tree.specs.declared.tree.Node.TheVariants as node
use Rattle.qf_tree.specs.declared.tree.Tree.{Tree}
use Rattle.qf_tree.specs.declared.cert.Answer.{Answer}
use Rattle.qf_tree.specs.declared.cert.Cert.{Cert}
use Rattle.qf_tree.specs.Lines.{is_number, is_value, is_named_row, answer_fits, line_fits, step_line, node_lines, cert_lines, are_trees, HasSpelling}
use Rattle.qf_tree.specs.Certificates.{Instance, Placed, placed, NodeIsRight}
use Rattle.qf_tree.specs.Lean.{NamedBySplit, IsWorthWork, NodeIsLean, InOrder, is_closable_box}
use Rattle.qf_encode.specs.Lives.{BoxIn}
use Rattle.qf_instance.specs.Instances.{instance_of, IsInstance}
use Rattle.qf_instance.specs.Leanness.{aims_of}
use Rattle.qf_instance.proofs.Boxes.{box_within, root_in_domains}
use Rattle.qf_instance.proofs.Instances.{one}
use Rattle.qf_board.specs.Boards.{Place, Split, Refuted, Open, Held, Box, boxed, beats, left_node, tree_node, tree_of, is_counted, is_held}
use Rattle.qf_board.specs.Sound.{Stands}
use Rattle.qf_board.specs.Allowed.{is_left}
use Rattle.qf_board.proofs.Lists.{all_append, all_map, all_both, all_at}
use Rattle.qf_search.specs.Standing.{RefutesIn, RefutesFor}
use Rattle.qf_search.specs.Exploring.{IsNamed, IsDue}
use Rattle.qf_search.specs.Searched.{IsGround}
use Rattle.qf_search.proofs.Exact.{exists_test, failing_row}
use Rattle.qf_search.proofs.WorkOrder.{placed_node}
use Rattle.qf_search.proofs.OneExplorer.{board, cells, key_of, IsGood, NodeIsGood, Before}
use Rattle.qf_search.proofs.BoardTree.{all_mapped, all_flat, is_one, IsShaped, cut_inside, all_in, placed_is, trees_are}

-- ---- numbers in their ranges

small_size : (z : ℤ) → is_small z ≡ true → unsigned_abs z ≤ 2 ^ 50
small_size z e = grind (arith, nat_tests)

below_test : (a b : ℕ) → a < b → nat_lt a b ≡ true
below_test a b h = grind (arith, nat_tests)

number_fits : (n : ℕ) → 0 < n → n < 2 ^ 32 → is_number n ≡ true
number_fits n low high = and_from (nat_lt 0 n) (nat_lt n (2 ^ 32)) (below_test 0 n low) (below_test n (2 ^ 32) high)

value_fits : (low v high : ℤ) → is_small low ≡ true → is_small high ≡ true → low ≤ℤ v → v ≤ℤ high → is_value v ≡ true
value_fits low v high a b l h =
    let s = small_size low a in
    let t = small_size high b in
    and_from (int_le (neg_ℤ (pos (2 ^ 63))) v) (int_le v (pos (2 ^ 63 - 1))) (int_le_yes (neg_ℤ (pos (2 ^ 63))) v (omega (arith, ints, s, l))) (int_le_yes v (pos (2 ^ 63 - 1)) (omega (arith, ints, t, h)))

pub values_fit : (domains : Bounds) (p : List ℤ) → HasSmallEnds domains → In domains p → list_all is_value p ≡ true
values_fit [] [] small inside = refl
values_fit [] (v ∷ p) small inside = absurd inside
values_fit (r ∷ domains) [] small inside = absurd inside
values_fit (r ∷ domains) (v ∷ p) small inside = and_from (is_value v) (list_all is_value p) (value_fits r.0 v r.1 small.0.0 small.0.1 inside.0 inside.1) (values_fit domains p small.1 inside.2)

unmapped : {X Y : Type 0} (P : Y → Type 0) (f : X → Y) (xs : List X) → AllByRecursion P (map f xs) → AllByRecursion (λ (x : X). P (f x)) xs
unmapped P f [] all = tt
unmapped P f (x ∷ xs) all = (all.0, unmapped P f xs all.1)

-- ---- rows

contained : {X : Type 0} (test : X → Bool) (xs : List X) (x : X) (k : ℕ) → slice_get xs k ≡ Some x → test x ≡ true → Contains (filter test xs) x
contained test [] x k e passes = absurd (cc)
contained {X} test (y ∷ xs) x zero e passes =
    let same : y ≡ x = cc in
    let is : test y ≡ true = ap test same ∙ passes in
    subst (λ (b : Bool). Contains (cond {A = List X} b (y ∷ filter test xs) (filter test xs)) x) (sym is) (0, omega arith, same)
contained {X} test (y ∷ xs) x (suc k) e passes =
    let rest = contained test xs x k e passes in
    elim (test y) as (λ b. Contains (cond {A = List X} b (y ∷ filter test xs) (filter test xs)) x) [
      | true ↦ (suc rest.0, omega (arith, rest.1), rest.2)
      | false ↦ rest
    ]

complained_there : (case : Case) (row : RowName) → IsSoundCase case → RowExists case.plan row → is_complained case row ≡ true → Contains (complained_rows case) row
complained_there case row sound exists complained =
    subst (λ (rows : List RowName). Contains (filter (is_complained case) rows) row) (rows-same case sound) (contained (is_complained case) _ row _ (row-at-place case.plan row exists) complained)

-- ---- splits that name a row

left_named : (prices : List ℤ) (best : Option (List ℤ)) (b : Box) (row : RowName) (ns : List Node) → NamedBySplit row ns → NamedBySplit row (left_node prices best b ∷ ns)
left_named prices best b row ns h =
    elim (beats prices best (cheapest prices b)) as (λ t. NamedBySplit row (cond {A = Node} t node.Open node.Dear ∷ ns)) [
      | true ↦ h
      | false ↦ h
    ]

named_in_tree : (prices : List ℤ) (best : Option (List ℤ)) (row : RowName) (xs : List (Box × Place)) → IsNamed row (map (λ (x : Box × Place). x.1) xs) → NamedBySplit row (map (tree_node prices best) xs)
named_in_tree prices best row [] h = absurd h
named_in_tree prices best row ((b, Split param cut named) ∷ xs) (inl h) = inl h
named_in_tree prices best row ((b, Split param cut named) ∷ xs) (inr h) = inr (named_in_tree prices best row xs h)
named_in_tree prices best row ((b, Refuted other steps) ∷ xs) h = named_in_tree prices best row xs h
named_in_tree prices best row ((b, Open) ∷ xs) h = left_named prices best b row (map (tree_node prices best) xs) (named_in_tree prices best row xs h)
named_in_tree prices best row ((b, Held who) ∷ xs) h = left_named prices best b row (map (tree_node prices best) xs) (named_in_tree prices best row xs h)

-- the nodes with their boxes are the nodes
pub places_are : (places : List Place) (pending : List Box) → Stands places pending → map (λ (x : Box × Place). x.1) (boxed places pending) ≡ places
places_are [] [] h = refl
places_are [] (b ∷ pending) h = absurd h
places_are (n ∷ places) [] h = absurd h
places_are (Split p c r ∷ places) (b ∷ pending) h = ap (λ (ps : List Place). Split p c r ∷ ps) (places_are places (lower_half b (p - 1) c ∷ upper_half b (p - 1) c ∷ pending) h.1)
places_are (Refuted r steps ∷ places) (b ∷ pending) h = ap (λ (ps : List Place). Refuted r steps ∷ ps) (places_are places pending h)
places_are (Open ∷ places) (b ∷ pending) h = ap (λ (ps : List Place). Open ∷ ps) (places_are places pending h)
places_are (Held who ∷ places) (b ∷ pending) h = ap (λ (ps : List Place). Held who ∷ ps) (places_are places pending h)

abbrev LineFits : Line → Type 0
LineFits l = line_fits l ≡ true

module _ (case : Case) (root region : Bounds) (params : ℕ → Bool) (ground : IsGround case root region params) where
  abbrev pub inst : Instance
  inst = instance_of case root params

  pub is_inst : IsInstance case inst
  is_inst = record { root = ground.is_root; needed = ground.needed; is = refl }

  pub in_domains : (b : Box) → BoxIn b root → BoxIn b case.domains.region
  in_domains b box = box_within b root case.domains.region box (root_in_domains case root ground.sound ground.is_root)

  pub refutes_here : (b : Box) (row : RowName) (steps : List Step) → RefutesFor case b row steps → RefutesIn inst b row steps
  refutes_here b row steps h = subst (λ (i : Instance). RefutesIn i b row steps) (one case h.0 inst h.1 is_inst) h.2

  row_fits : (row : RowName) → RowExists case.plan row → is_named_row row ≡ true
  row_fits (Start k) h = number_fits k (omega (arith, h.0)) (omega (arith, h.1, ground.sound.plan.few_rows))
  row_fits (Inserted k) h = number_fits k (omega (arith, h.0)) (omega (arith, h.1, ground.sound.plan.few_rows))

  many : length case.domains.region ≤ 4096
  many = omega (arith, length-In case.domains.region case.plan.olds ground.sound.inside, ground.sound.plan.few_params)

  cut_fits : (b : Box) (param : ℕ) (cut : ℤ) → BoxIn b root → CanCut b (param - 1) cut → is_value cut ≡ true
  cut_fits b param cut box can =
      let whole = in_domains b box in
      let within : param - 1 < length case.domains.region = omega (arith, can.within, whole.same_length) in
      let own = whole.each (param - 1) within in
      let ends = all_at (λ (r : ℤ × ℤ). (is_small r.0 ≡ true) × (is_small r.1 ≡ true)) case.domains.region (param - 1) (pos 0, pos 0) ground.small within in
      value_fits (interval_at case.domains.region (param - 1)).0 cut (interval_at case.domains.region (param - 1)).1 ends.0 ends.1 (omega (arith, ints, own.0, can.low)) (omega (arith, ints, own.1.1, can.high))

  param_fits : (b : Box) (param : ℕ) (cut : ℤ) → BoxIn b root → 0 < param → CanCut b (param - 1) cut → is_number param ≡ true
  param_fits b param cut box first can = number_fits param first (omega (arith, can.within, (in_domains b box).same_length, many))

  -- ---- what each node of the board keeps

  module _ (ps : List Place) (g : IsGood case region ps) where
    abbrev xs : List (Box × Place)
    xs = cells case region ps

    pub boxes_in : AllByRecursion (λ (x : Box × Place). BoxIn x.0 root) xs
    boxes_in = all_in root ps (region ∷ []) g.sound.stands (ground.inside, tt)

    shape_of : (x : Box × Place) → NodeIsGood case region ps x → IsShaped x
    shape_of (b, Split param cut row) h = h.cuts
    shape_of (b, Refuted row steps) h = is_one _ _ steps (refutes_here b row steps h.refutes).1
    shape_of (b, Open) h = tt
    shape_of (b, Held who) h = tt

    pub shaped : AllByRecursion IsShaped xs
    shaped = all_map (NodeIsGood case region ps) IsShaped xs shape_of g.nodes

    pub free_cells : AllByRecursion (λ (x : Box × Place). is_held x.1 ≡ false) xs
    free_cells = unmapped (λ (n : Place). is_held n ≡ false) (λ (x : Box × Place). x.1) xs (subst (AllByRecursion (λ (n : Place). is_held n ≡ false)) (sym (places_are ps (region ∷ []) g.sound.stands)) g.unheld)

    module _ (best : Option (List ℤ)) where
      abbrev to_node : Box × Place → Placed
      to_node x = placed_node case.plan.olds best x

      left_lines : (b : Box) → AllByRecursion LineFits (node_lines (left_node case.plan.olds best b))
      left_lines b =
          elim (beats case.plan.olds best (cheapest case.plan.olds b)) as (λ t. AllByRecursion LineFits (node_lines (cond {A = Node} t node.Open node.Dear))) [
            | true ↦ (refl, tt)
            | false ↦ (refl, tt)
          ]

      lines_fit : (x : Box × Place) → NodeIsGood case region ps x → BoxIn x.0 root → AllByRecursion LineFits (node_lines (tree_node case.plan.olds best x))
      lines_fit (b, Split param cut row) h box =
          (and_from _ _ (and_from _ _ (param_fits b param cut box h.first h.cuts) (cut_fits b param cut box h.cuts)) (row_fits row (failing_row case (key_of case region b) row ground.sound h.failing).0), tt)
      lines_fit (b, Refuted row steps) h box =
          (row_fits row (row_exists_is case.plan row (refutes_here b row steps h.refutes).0), all_mapped LineFits step_line steps (recursion_from_All _ steps h.fit))
      lines_fit (b, Open) h box = left_lines b
      lines_fit (b, Held who) h box = left_lines b

      nodes_fit : AllByRecursion (λ (n : Node). AllByRecursion LineFits (node_lines n)) (map (tree_node case.plan.olds best) xs)
      nodes_fit =
          all_mapped (λ (n : Node). AllByRecursion LineFits (node_lines n)) (tree_node case.plan.olds best) xs
          (all_map (λ (x : Box × Place). NodeIsGood case region ps x × BoxIn x.0 root) (λ (x : Box × Place). AllByRecursion LineFits (node_lines (tree_node case.plan.olds best x))) xs (λ x h. lines_fit x h.0 h.1)
          (all_both (NodeIsGood case region ps) (λ (x : Box × Place). BoxIn x.0 root) xs g.nodes boxes_in))

      -- the certificate has a spelling
      pub spelled : (a : Answer) (tree : Tree) → tree.nodes ≡ tree_of (board case region ps best) → answer_fits a ≡ true → HasSpelling (record { answer = a; tree = tree })
      spelled a tree is fits =
          let lines = all_flat LineFits node_lines (map (tree_node case.plan.olds best) xs) nodes_fit in
          record {
            tree = ap (are_trees 1) is ∙ trees_are case.plan.olds best ps (region ∷ []) g.sound.stands shaped;
            numbers = All-from_recursion LineFits (cert_lines (record { answer = a; tree = tree })) (refl, (fits, all_append LineFits (flat_map node_lines tree.nodes) (line.End ∷ []) (subst (λ (ns : List Node). AllByRecursion LineFits (flat_map node_lines ns)) (sym is) lines) (refl, tt)));
          }

      -- ---- the rules of its nodes

      abbrev pub LeftIsRight : Answer → Box × Place → Type 0
      LeftIsRight a x = is_left x.1 ≡ true → NodeIsRight inst a (x.0, left_node case.plan.olds best x.0)

      node_right : (a : Answer) (x : Box × Place) → NodeIsGood case region ps x → LeftIsRight a x → NodeIsRight inst a (to_node x)
      node_right a (b, Split param cut row) h left =
          ((ground.needed param).1 h.needed, cut_inside b param cut h.cuts, exists_test case.plan row (failing_row case (key_of case region b) row ground.sound h.failing).0)
      node_right a (b, Refuted row steps) h left = refutes_here b row steps h.refutes
      node_right a (b, Open) h left = left refl
      node_right a (b, Held who) h left = left refl

      same_placed : (tree : Tree) → tree.nodes ≡ tree_of (board case region ps best) → placed (region ∷ []) tree.nodes ≡ map to_node xs
      same_placed tree is = ap (placed (region ∷ [])) is ∙ placed_is case.plan.olds best ps (region ∷ []) g.sound.stands

      pub nodes_right : (a : Answer) (tree : Tree) → tree.nodes ≡ tree_of (board case region ps best) → AllByRecursion (LeftIsRight a) xs → All (λ leaf. NodeIsRight inst a leaf) (placed (region ∷ []) tree.nodes)
      nodes_right a tree is left =
          let all = all_map (λ (x : Box × Place). NodeIsGood case region ps x × LeftIsRight a x) (λ (x : Box × Place). NodeIsRight inst a (to_node x)) xs (λ x h. node_right a x h.0 h.1) (all_both (NodeIsGood case region ps) (LeftIsRight a) xs g.nodes left) in
          All-from_recursion (λ leaf. NodeIsRight inst a leaf) (placed (region ∷ []) tree.nodes) (subst (AllByRecursion (λ leaf. NodeIsRight inst a leaf)) (sym (same_placed tree is)) (all_mapped (λ leaf. NodeIsRight inst a leaf) to_node xs all))

      -- ---- its nodes are lean

      module _ (a : Answer) (tree : Tree) (is : tree.nodes ≡ tree_of (board case region ps best)) where
        abbrev cert : Cert
        cert = record { answer = a; tree = tree }

        abbrev pub IsWorth : Box × Place → Type 0
        IsWorth x = is_counted x.1 ≡ true → IsWorthWork inst a x.0

        named_here : (row : RowName) → IsNamed row ps → NamedBySplit row tree.nodes
        named_here row h = subst (NamedBySplit row) (sym is) (named_in_tree case.plan.olds best row xs (subst (IsNamed row) (sym (places_are ps (region ∷ []) g.sound.stands)) h))

        due_lean : (b : Box) (row : RowName) → RowExists case.plan row → IsDue case (board case region ps None) (key_of case region b) row → Contains (complained_rows case) row ⊎ (((aims_of case).misses (cheapest inst.olds b) row ≡ true) ⊎ NamedBySplit row tree.nodes)
        due_lean b row exists (inl misses) = inr (inl misses)
        due_lean b row exists (inr (inl complained)) = inl (complained_there case row ground.sound exists complained)
        due_lean b row exists (inr (inr named)) = inr (inr (named_here row named))

        left_lean : (b : Box) → NodeIsLean inst (aims_of case) cert (b, left_node case.plan.olds best b)
        left_lean b =
            elim (beats case.plan.olds best (cheapest case.plan.olds b)) as (λ t. NodeIsLean inst (aims_of case) cert (b, cond {A = Node} t node.Open node.Dear)) [
              | true ↦ tt
              | false ↦ tt
            ]

        node_lean : (x : Box × Place) → NodeIsGood case region ps x → IsWorth x → NodeIsLean inst (aims_of case) cert (to_node x)
        node_lean (b, Split param cut row) h worth =
            ((ground.needed param).1 h.needed, subst (λ (i : Instance). is_closable_box i (aims_of case) b ≡ false) (one case h.unclosed.inst inst h.unclosed.is_instance is_inst) h.unclosed.none, h.failing, worth refl)
        node_lean (b, Refuted row steps) h worth =
            (due_lean b row (row_exists_is case.plan row (refutes_here b row steps h.refutes).0) h.due, worth refl)
        node_lean (b, Open) h worth = left_lean b
        node_lean (b, Held who) h worth = left_lean b

        pub nodes_lean : AllByRecursion IsWorth xs → All (λ leaf. NodeIsLean inst (aims_of case) cert leaf) (placed (region ∷ []) tree.nodes)
        nodes_lean worth =
            let all = all_map (λ (x : Box × Place). NodeIsGood case region ps x × IsWorth x) (λ (x : Box × Place). NodeIsLean inst (aims_of case) cert (to_node x)) xs (λ x h. node_lean x h.0 h.1) (all_both (NodeIsGood case region ps) IsWorth xs g.nodes worth) in
            All-from_recursion (λ leaf. NodeIsLean inst (aims_of case) cert leaf) (placed (region ∷ []) tree.nodes) (subst (AllByRecursion (λ leaf. NodeIsLean inst (aims_of case) cert leaf)) (sym (same_placed tree is)) (all_mapped (λ leaf. NodeIsLean inst (aims_of case) cert leaf) to_node xs all))

        -- ---- they are in order

        behind_left : (b c : Box) → InOrder inst (b, node.Open) (c, left_node case.plan.olds best c)
        behind_left b c =
            elim (beats case.plan.olds best (cheapest case.plan.olds c)) as (λ t. InOrder inst (b, node.Open) (c, cond {A = Node} t node.Open node.Dear)) [
              | true ↦ tt
              | false ↦ tt
            ]

        pair_in_order : (y x : Box × Place) → is_held y.1 ≡ false → Before case region y x → InOrder inst (to_node y) (to_node x)
        pair_in_order (b, Split p c r) x free h = tt
        pair_in_order (b, Refuted r steps) x free h = tt
        pair_in_order (b, Held who) x free h = absurd (false≢true (sym free))
        pair_in_order (b, Open) (d, Split p c r) free h =
            elim (beats case.plan.olds best (cheapest case.plan.olds b)) as (λ t. InOrder inst (b, cond {A = Node} t node.Open node.Dear) (d, node.Split p c r)) [
              | true ↦ h refl refl
              | false ↦ tt
            ]
        pair_in_order (b, Open) (d, Refuted r steps) free h =
            elim (beats case.plan.olds best (cheapest case.plan.olds b)) as (λ t. InOrder inst (b, cond {A = Node} t node.Open node.Dear) (d, node.Refuted r steps)) [
              | true ↦ h refl refl
              | false ↦ tt
            ]
        pair_in_order (b, Open) (d, Open) free h =
            elim (beats case.plan.olds best (cheapest case.plan.olds b)) as (λ t. InOrder inst (b, cond {A = Node} t node.Open node.Dear) (d, left_node case.plan.olds best d)) [
              | true ↦ behind_left b d
              | false ↦ tt
            ]
        pair_in_order (b, Open) (d, Held who) free h =
            elim (beats case.plan.olds best (cheapest case.plan.olds b)) as (λ t. InOrder inst (b, cond {A = Node} t node.Open node.Dear) (d, left_node case.plan.olds best d)) [
              | true ↦ behind_left b d
              | false ↦ tt
            ]

        row_in_order : (y : Box × Place) → is_held y.1 ≡ false → AllByRecursion (Before case region y) xs → All (λ other. InOrder inst (to_node y) other) (map to_node xs)
        row_in_order y free h = All-from_recursion (λ other. InOrder inst (to_node y) other) (map to_node xs) (all_mapped (λ other. InOrder inst (to_node y) other) to_node xs (all_map (Before case region y) (λ (x : Box × Place). InOrder inst (to_node y) (to_node x)) xs (λ x e. pair_in_order y x free e) h))

        pub nodes_in_order : All (λ one. All (λ other. InOrder inst one other) (placed (region ∷ []) tree.nodes)) (placed (region ∷ []) tree.nodes)
        nodes_in_order =
            let rows = all_map (λ (y : Box × Place). (is_held y.1 ≡ false) × AllByRecursion (Before case region y) xs) (λ (y : Box × Place). All (λ other. InOrder inst (to_node y) other) (map to_node xs)) xs (λ y h. row_in_order y h.0 h.1) (all_both (λ (y : Box × Place). is_held y.1 ≡ false) (λ (y : Box × Place). AllByRecursion (Before case region y) xs) xs free_cells g.order) in
            let all = All-from_recursion (λ one. All (λ other. InOrder inst one other) (map to_node xs)) (map to_node xs) (all_mapped (λ one. All (λ other. InOrder inst one other) (map to_node xs)) to_node xs rows) in
            subst (λ (l : List Placed). All (λ one. All (λ other. InOrder inst one other) l) l) (sym (same_placed tree is)) all
