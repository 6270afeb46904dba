-- The nodes are taken out in preorder.
use Rattle.std.specs.Prelude.{◌≡◌, ◌≢◌, ℕ, suc, ◌+◌, ◌<◌, ◌≤◌, ℤ, List, [], ◌∷◌, ◌++◌, map, length, drop, slice_set}
use Rattle.std.specs.declared.option.Option.{Option}
use Rattle.std.specs.declared.option.Option.TheVariants.{Some, None}
use Rattle.std.specs.List.{AllByRecursion}
use Rattle.std.proofs.Common.{arith, zero, refl, sym, ap, ◌∙◌, subst, get_or, ⊎_elim}
use Rattle.std.proofs.lemmas.Bool.Decides.{eqb_tells}
use Rattle.std.proofs.lemmas.List.{drop_more, append_assoc, append-nil, length-set, get_or-set_same, get_or-set_other, get_or_default}
use Rattle.qf_tree.specs.declared.tree.Node.{Node}
use Rattle.qf_point.specs.Points.{Price, HasNoEmpty}
use Rattle.qf_board.specs.declared.nodes.Kind.TheVariants as kind
use Rattle.qf_board.specs.declared.nodes.Link.{Link}
use Rattle.qf_board.specs.Boards.{Box, tree_node}
use Rattle.qf_board.specs.Numbered.{Numbered, nowhere, link_at, chain, with_node, numbered, place_of_kind, pair_of, IsChain, Once, IsLinked}
use Rattle.qf_board.specs.Kept.{with_kind}
use Rattle.qf_board.proofs.Chains.{chain_same}

-- what is left stands as at first
pub record Walk (first left : List Link) (next : Option ℕ) (rest : List ℕ) : Type 0 where
  pub many : length left ≡ length first
  pub chained : IsChain left next rest
  pub once : Once rest
  pub below : AllByRecursion (λ j. j < length first) rest
  pub same : AllByRecursion (λ j. link_at left j ≡ link_at first j) rest

pub walk_start : (links : List Link) → IsLinked links → Walk links links (Some 0) (chain links)
walk_start links linked = record {
  many = refl;
  chained = linked.chained;
  once = linked.once;
  below = linked.below;
  same = all_same (chain links);
}
  where
    all_same : (order : List ℕ) → AllByRecursion (λ j. link_at links j ≡ link_at links j) order
    all_same [] = tt
    all_same (j ∷ order) = (refl, all_same order)

-- something is left, and it comes next
pub walk_next : (first left : List Link) (next : Option ℕ) (at j : ℕ) (rest : List ℕ) → next ≡ Some at → Walk first left next (j ∷ rest) → (j ≡ at) × (at < length left) × (link_at left at ≡ link_at first at) × IsChain left (link_at left at).next rest
walk_next first left next at j rest is walk =
    let chained = subst (λ (o : Option ℕ). IsChain left o (j ∷ rest)) is walk.chained in (
      chained.0,
      subst (λ (n : ℕ). n < length left) chained.0 (omega (arith, walk.below.0, walk.many)),
      subst (λ (n : ℕ). link_at left n ≡ link_at first n) chained.0 walk.same.0,
      chained.1,
    )

pub walk_ends : {A : Type 0} (first left : List Link) (next : Option ℕ) (j : ℕ) (rest : List ℕ) → next ≡ None → Walk first left next (j ∷ rest) → A
walk_ends first left next j rest is walk = absurd (subst (λ (o : Option ℕ). IsChain left o (j ∷ rest)) is walk.chained)

-- one node is taken out
pub walk_on : (first left more : List Link) (next : Option ℕ) (at j : ℕ) (rest : List ℕ) → next ≡ Some at → more ≡ slice_set left at (with_kind (link_at left at) kind.Open) → Walk first left next (j ∷ rest) → Walk first more (link_at left at).next rest
walk_on first left more next at j rest is put walk =
    let step = walk_next first left next at j rest is walk in
    let link = with_kind (link_at left at) kind.Open in
    let here : link_at more at ≡ link = ap (λ (ls : List Link). link_at ls at) put ∙ get_or-set_same left at link nowhere step.1 in
    let other : (i : ℕ) → i ≢ at → link_at more i ≡ link_at left i = λ i apart. ap (λ (ls : List Link). link_at ls i) put ∙ get_or-set_other left at i link nowhere apart in
    let next_kept : (i : ℕ) → (link_at more i).next ≡ (link_at left i).next =
    λ i. ⊎_elim (λ same. ap (λ (n : ℕ). (link_at more n).next) same.1 ∙ (ap (λ (l : Link). l.next) here ∙ ap (λ (n : ℕ). (link_at left n).next) (sym same.1))) (λ apart. ap (λ (l : Link). l.next) (other i apart.1)) (eqb_tells i at) in
    let apart : AllByRecursion (λ i. i ≢ at) rest = subst (λ (n : ℕ). AllByRecursion (λ i. i ≢ n) rest) step.0 walk.once.0 in
    record {
      many = ap length put ∙ (length-set left at link ∙ walk.many);
      chained = chain_same left more (link_at left at).next rest (all_of rest next_kept) step.3;
      once = walk.once.1;
      below = walk.below.1;
      same = still rest apart walk.same.1 other;
    }
  where
    all_of : (order : List ℕ) → ((i : ℕ) → (link_at more i).next ≡ (link_at left i).next) → AllByRecursion (λ i. (link_at more i).next ≡ (link_at left i).next) order
    all_of [] f = tt
    all_of (i ∷ order) f = (f i, all_of order f)

    still : (order : List ℕ) → AllByRecursion (λ i. i ≢ at) order → AllByRecursion (λ i. link_at left i ≡ link_at first i) order → ((i : ℕ) → i ≢ at → link_at more i ≡ link_at left i) → AllByRecursion (λ i. link_at more i ≡ link_at first i) order
    still [] apart same other = tt
    still (i ∷ order) apart same other = (other i apart.0 ∙ same.0, still order apart.1 same.1 other)

-- ---- the nodes that are made

abbrev pub made : List Price → Option (List ℤ) → List Link → ℕ → Node
made prices best links j = tree_node prices best (pair_of (with_node links j))

pub made_all : (prices : List Price) (best : Option (List ℤ)) (links : List Link) (order : List ℕ) → map (λ (x : Numbered). tree_node prices best (pair_of x)) (map (with_node links) order) ≡ map (made prices best links) order
made_all prices best links [] = refl
made_all prices best links (j ∷ order) = ap (λ (ns : List Node). made prices best links j ∷ ns) (made_all prices best links order)

pub made_step : (prices : List Price) (best : Option (List ℤ)) (links : List Link) (order rest : List ℕ) (at : ℕ) (nodes new whole : List Node) (node : Node) → order ≡ at ∷ rest → node ≡ made prices best links at → new ≡ nodes ++ node ∷ [] → nodes ++ map (made prices best links) order ≡ whole → new ++ map (made prices best links) rest ≡ whole
made_step prices best links order rest at nodes new whole node is node_is put left =
    ap (λ (ns : List Node). ns ++ map (made prices best links) rest) put
    ∙ (append_assoc nodes (node ∷ []) (map (made prices best links) rest)
    ∙ (ap (λ (n : Node). nodes ++ n ∷ map (made prices best links) rest) node_is
    ∙ (ap (λ (js : List ℕ). nodes ++ map (made prices best links) js) (sym is) ∙ left)))

pub drop_from : (order : List ℕ) (i : ℕ) → i < length order → (j : ℕ) × (drop i order ≡ j ∷ drop (i + 1) order)
drop_from order i within = (get_or order i 0, drop_more order i 0 within)

drop_none : (order : List ℕ) (i : ℕ) → length order ≤ i → drop i order ≡ []
drop_none [] zero h = refl
drop_none [] (suc i) h = refl
drop_none (x ∷ order) zero h = absurd (omega arith)
drop_none (x ∷ order) (suc i) h = drop_none order i (omega arith)

pub made_end : (prices : List Price) (best : Option (List ℤ)) (links : List Link) (order : List ℕ) (i : ℕ) (nodes whole : List Node) → length order ≤ i → nodes ++ map (made prices best links) (drop i order) ≡ whole → nodes ≡ whole
made_end prices best links order i nodes whole past left =
    sym (append-nil nodes) ∙ (ap (λ (js : List ℕ). nodes ++ map (made prices best links) js) (sym (drop_none order i past)) ∙ left)

abbrev first_or : List ℕ → ℕ
first_or [] = 0
first_or (m ∷ ms) = m

-- what the code needs of the box
pub region_fits : (n : ℕ) (links : List Link) (order : List ℕ) (j : ℕ) (rest : List ℕ) (i : ℕ) → AllByRecursion (λ (x : Numbered). (length x.1.region ≡ n) × HasNoEmpty x.1.region) (map (with_node links) order) → i < length order → drop i order ≡ j ∷ rest → (length (link_at links j).node.region ≡ n) × HasNoEmpty (link_at links j).node.region
region_fits n links (k ∷ order) j rest zero h within is = subst (λ (m : ℕ). (length (link_at links m).node.region ≡ n) × HasNoEmpty (link_at links m).node.region) (ap first_or is) h.0
region_fits n links [] j rest i h within is = absurd (omega arith)
region_fits n links (k ∷ order) j rest (suc i) h within is = region_fits n links order j rest i h.1 (omega arith) is

-- ---- one turn

abbrev Fitting : ℕ → Numbered → Type 0
Fitting n x = (length x.1.region ≡ n) × HasNoEmpty x.1.region

walk_from : (first left : List Link) (next : Option ℕ) (i : ℕ) → IsLinked first → i < length left → Walk first left next (drop i (chain first)) → (j : ℕ) × (drop i (chain first) ≡ j ∷ drop (i + 1) (chain first)) × Walk first left next (j ∷ drop (i + 1) (chain first))
walk_from first left next i linked within walk =
    let from = drop_from (chain first) i (omega (arith, walk.many, linked.many)) in
    (from.0, from.1, subst (λ (js : List ℕ). Walk first left next js) from.1 walk)

opened_region : (left more : List Link) (at : ℕ) → at < length left → more ≡ slice_set left at (with_kind (link_at left at) kind.Open) → (link_at more at).node.region ≡ (link_at left at).node.region
opened_region left more at small put =
    ap (λ (l : Link). l.node.region) (ap (λ (ls : List Link). link_at ls at) put ∙ get_or-set_same left at (with_kind (link_at left at) kind.Open) nowhere small)

pub turn_fits : (n : ℕ) (first left more : List Link) (next : Option ℕ) (i at : ℕ) → IsLinked first → AllByRecursion (Fitting n) (numbered first) → i < length left → next ≡ Some at → Walk first left next (drop i (chain first)) → more ≡ slice_set left at (with_kind (link_at left at) kind.Open) → (at < length left) × (length (link_at more at).node.region ≡ n) × HasNoEmpty (link_at more at).node.region
turn_fits n first left more next i at linked boxes within is walk put =
    let from = walk_from first left next i linked within walk in
    let step = walk_next first left next at from.0 (drop (i + 1) (chain first)) is from.2 in
    let fits = region_fits n first (chain first) at (drop (i + 1) (chain first)) i boxes (omega (arith, walk.many, linked.many)) (from.1 ∙ ap (λ (m : ℕ). m ∷ drop (i + 1) (chain first)) step.0) in
    let region : (link_at more at).node.region ≡ (link_at first at).node.region = opened_region left more at step.1 put ∙ ap (λ (l : Link). l.node.region) step.2 in
    (step.1, ap length region ∙ fits.0, subst HasNoEmpty (sym region) fits.1)

pub turn_walks : (prices : List Price) (best : Option (List ℤ)) (first left more : List Link) (next new_next : Option ℕ) (i at : ℕ) (nodes new whole : List Node) (node : Node) → IsLinked first → i < length left → next ≡ Some at → Walk first left next (drop i (chain first)) → more ≡ slice_set left at (with_kind (link_at left at) kind.Open) → new_next ≡ (link_at left at).next → node ≡ tree_node prices best ((link_at more at).node.region, place_of_kind (link_at left at).node.kind) → new ≡ nodes ++ node ∷ [] → nodes ++ map (made prices best first) (drop i (chain first)) ≡ whole
    → Walk first more new_next (drop (i + 1) (chain first)) × (new ++ map (made prices best first) (drop (i + 1) (chain first)) ≡ whole)
turn_walks prices best first left more next new_next i at nodes new whole node linked within is walk put next_is node_is pushed so_far =
    let from = walk_from first left next i linked within walk in
    let rest = drop (i + 1) (chain first) in
    let step = walk_next first left next at from.0 rest is from.2 in
    let made_is : node ≡ made prices best first at =
    node_is ∙ (ap (λ (r : Box). tree_node prices best (r, place_of_kind (link_at left at).node.kind)) (opened_region left more at step.1 put)
    ∙ ap (λ (l : Link). tree_node prices best (l.node.region, place_of_kind l.node.kind)) step.2) in (
      subst (λ (o : Option ℕ). Walk first more o rest) (sym next_is) (walk_on first left more next at from.0 rest is put from.2),
      made_step prices best first (drop i (chain first)) rest at nodes new whole node (from.1 ∙ ap (λ (m : ℕ). m ∷ rest) step.0) made_is pushed so_far,
    )

pub turn_ends : {A : Type 0} (first left : List Link) (next : Option ℕ) (i : ℕ) → IsLinked first → i < length left → next ≡ None → Walk first left next (drop i (chain first)) → A
turn_ends first left next i linked within is walk =
    let from = walk_from first left next i linked within walk in
    walk_ends first left next from.0 (drop (i + 1) (chain first)) is from.2

-- the link as the code reads it
pub turn_link : (left more : List Link) (at : ℕ) (l : Link) → at < length left → more ≡ slice_set left at (with_kind (link_at left at) kind.Open) → l ≡ get_or more at l → l ≡ link_at more at
turn_link left more at l small put is =
    let long = ap length put ∙ length-set left at (with_kind (link_at left at) kind.Open) in
    is ∙ get_or_default more at l nowhere (omega arith)

pub plain_link : (left : List Link) (at : ℕ) (l : Link) → at < length left → l ≡ get_or left at l → l ≡ link_at left at
plain_link left at l small is = is ∙ get_or_default left at l nowhere small
