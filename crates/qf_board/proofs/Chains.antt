-- Nodes in preorder, where one is changed or split.
use Rattle.std.specs.Prelude.{◌≡◌, ◌≢◌, ℕ, suc, zero, ◌<◌, ◌≤◌, List, [], ◌∷◌, ◌++◌, map, length, slice_set}
use Rattle.std.specs.declared.option.Option.{Option}
use Rattle.std.specs.declared.option.Option.TheVariants.{Some, None}
use Rattle.std.specs.List.{AllByRecursion}
use Rattle.std.proofs.Common.{arith, refl, sym, ap, ◌∙◌, subst, get_or, ⊎_elim}
use Rattle.std.proofs.lemmas.Bool.Decides.{eqb_tells}
use Rattle.std.proofs.lemmas.List.{map-append, length-set, get_or-set_same, get_or-set_other}
use Rattle.qf_board.specs.declared.nodes.BoxNode.{BoxNode}
use Rattle.qf_board.specs.declared.nodes.Kind.{Kind}
use Rattle.qf_board.specs.declared.nodes.Link.{Link}
use Rattle.qf_board.specs.Numbered.{Numbered, nowhere, link_at, follow, chain, with_node, numbered, IsChain, Once, IsLinked}
use Rattle.qf_board.specs.Kept.{with_kind}
use Rattle.qf_board.proofs.Lists.{put_in, all_put, all_at, all_map, put_same, length-put}

abbrev next_of : List Link → ℕ → Option ℕ
next_of links i = (link_at links i).next

follow_is : (links : List Link) (at : Option ℕ) (order : List ℕ) (fuel : ℕ) → IsChain links at order → length order ≤ fuel → follow links fuel at ≡ order
follow_is links None [] zero h f = refl
follow_is links None [] (suc fuel) h f = refl
follow_is links None (j ∷ order) fuel h f = absurd h
follow_is links (Some i) [] fuel h f = absurd h
follow_is links (Some i) (j ∷ order) zero h f = absurd (omega arith)
follow_is links (Some i) (j ∷ order) (suc fuel) h f =
    ap (λ (ks : List ℕ). i ∷ ks) (follow_is links (next_of links i) order fuel h.1 (omega arith)) ∙ ap (λ (k : ℕ). k ∷ order) (sym h.0)

pub chain_same : (links more : List Link) (at : Option ℕ) (order : List ℕ) → AllByRecursion (λ j. next_of more j ≡ next_of links j) order → IsChain links at order → IsChain more at order
chain_same links more None [] same h = tt
chain_same links more None (j ∷ order) same h = absurd h
chain_same links more (Some i) [] same h = absurd h
chain_same links more (Some i) (j ∷ order) same h =
    let here : next_of more i ≡ next_of links i = subst (λ (m : ℕ). next_of more m ≡ next_of links m) h.0 same.0 in
    (h.0, subst (λ (o : Option ℕ). IsChain more o order) (sym here) (chain_same links more (next_of links i) order same.1 h.1))

-- the other numbers of the list
only_others : (P : ℕ → Type 0) (i : ℕ) (order : List ℕ) → AllByRecursion (λ j. j ≢ i) order → AllByRecursion (λ j. j ≢ i → P j) order → AllByRecursion P order
only_others P i [] apart h = tt
only_others P i (j ∷ order) apart h = (h.0 apart.0, only_others P i order apart.1 h.1)

apart_before : (j i k : ℕ) (order : List ℕ) → AllByRecursion (λ m. m ≢ j) order → k < length order → get_or order k 0 ≡ i → j ≢ i
apart_before j i k order apart within at = λ same. all_at (λ m. m ≢ j) order k 0 apart within (at ∙ sym same)

chain_split : (links more : List Link) (at : Option ℕ) (order : List ℕ) (k i n : ℕ) → k < length order → get_or order k 0 ≡ i → Once order → AllByRecursion (λ j. j ≢ i → next_of more j ≡ next_of links j) order → next_of more i ≡ Some n → next_of more n ≡ Some (suc n) → next_of more (suc n) ≡ next_of links i → IsChain links at order → IsChain more at (put_in order k (i ∷ n ∷ suc n ∷ []))
chain_split links more at [] k i n within is once same first second third h = absurd (omega arith)
chain_split links more None (j ∷ order) k i n within is once same first second third h = absurd h
chain_split links more (Some a) (j ∷ order) zero i n within is once same first second third h =
    let a_is : a ≡ i = sym h.0 ∙ is in
    let apart : AllByRecursion (λ m. m ≢ i) order = subst (λ (m : ℕ). AllByRecursion (λ x. x ≢ m) order) is once.0 in
    let rest : IsChain more (next_of links a) order = chain_same links more (next_of links a) order (only_others (λ m. next_of more m ≡ next_of links m) i order apart same.1) h.1 in
    let third_is : next_of more (suc n) ≡ next_of links a = third ∙ ap (next_of links) (sym a_is) in
    let after_third : IsChain more (next_of more (suc n)) order = subst (λ (o : Option ℕ). IsChain more o order) (sym third_is) rest in
    let after_second : IsChain more (next_of more n) (suc n ∷ order) = subst (λ (o : Option ℕ). IsChain more o (suc n ∷ order)) (sym second) (refl, after_third) in
    let first_is : next_of more a ≡ Some n = ap (next_of more) a_is ∙ first in
    (sym a_is, subst (λ (o : Option ℕ). IsChain more o (n ∷ suc n ∷ order)) (sym first_is) (refl, after_second))
chain_split links more (Some a) (j ∷ order) (suc k) i n within is once same first second third h =
    let apart : j ≢ i = apart_before j i k order once.0 (omega arith) is in
    let here : next_of more a ≡ next_of links a = subst (λ (m : ℕ). next_of more m ≡ next_of links m) h.0 (same.0 apart) in
    (h.0, subst (λ (o : Option ℕ). IsChain more o (put_in order k (i ∷ n ∷ suc n ∷ []))) (sym here) (chain_split links more (next_of links a) order k i n (omega arith) is once.1 same.1 first second third h.1))

-- ---- no number twice

less_apart : (j n : ℕ) → j < n → j ≢ n
less_apart j n h = λ same. omega arith

suc_apart : (n : ℕ) → suc n ≢ n
suc_apart n = λ same. omega arith

once_split : (order : List ℕ) (k i n : ℕ) → k < length order → get_or order k 0 ≡ i → i < n → AllByRecursion (λ j. j < n) order → Once order → Once (put_in order k (i ∷ n ∷ suc n ∷ []))
once_split [] k i n within is small below once = absurd (omega arith)
once_split (j ∷ order) zero i n within is small below once =
    let apart : AllByRecursion (λ m. m ≢ i) order = subst (λ (m : ℕ). AllByRecursion (λ x. x ≢ m) order) is once.0 in (
      ((λ same. omega arith), ((λ same. omega arith), apart)),
      (
        (suc_apart n, all_map (λ m. m < n) (λ m. m ≢ n) order (λ m h. less_apart m n h) below.1),
        (all_map (λ m. m < n) (λ m. m ≢ suc n) order (λ m h. less_apart m (suc n) (omega arith)) below.1, once.1),
      ),
    )
once_split (j ∷ order) (suc k) i n within is small below once =
    let apart : j ≢ i = apart_before j i k order once.0 (omega arith) is in
    let under : j < n = below.0 in (
      all_put (λ m. m ≢ j) order (i ∷ n ∷ suc n ∷ []) k once.0 ((λ same. apart (sym same)), ((λ same. omega arith), ((λ same. omega arith), tt))),
      once_split order k i n (omega arith) is small below.1 once.1,
    )

-- ---- the nodes

map_others : (f g : ℕ → Numbered) (order : List ℕ) → AllByRecursion (λ j. g j ≡ f j) order → map g order ≡ map f order
map_others f g [] same = refl
map_others f g (j ∷ order) same = ap (λ (x : Numbered). x ∷ map g order) same.0 ∙ ap (λ (xs : List Numbered). f j ∷ xs) (map_others f g order same.1)

map_change : (f g : ℕ → Numbered) (order new : List ℕ) (k i : ℕ) → k < length order → get_or order k 0 ≡ i → Once order → AllByRecursion (λ j. j ≢ i → g j ≡ f j) order → map g (put_in order k new) ≡ put_in (map f order) k (map g new)
map_change f g [] new k i within is once same = absurd (omega arith)
map_change f g (j ∷ order) new zero i within is once same =
    let apart : AllByRecursion (λ m. m ≢ i) order = subst (λ (m : ℕ). AllByRecursion (λ x. x ≢ m) order) is once.0 in
    map-append g new order ∙ ap (λ (xs : List Numbered). map g new ++ xs) (map_others f g order (only_others (λ m. g m ≡ f m) i order apart same.1))
map_change f g (j ∷ order) new (suc k) i within is once same =
    let apart : j ≢ i = apart_before j i k order once.0 (omega arith) is in
    ap (λ (x : Numbered). x ∷ map g (put_in order k new)) (same.0 apart) ∙ ap (λ (xs : List Numbered). f j ∷ xs) (map_change f g order new k i (omega arith) is once.1 same.1)

all_of : (P : ℕ → Type 0) (order : List ℕ) → ((j : ℕ) → P j) → AllByRecursion P order
all_of P [] f = tt
all_of P (j ∷ order) f = (f j, all_of P order f)

linked_by : (links : List Link) (order : List ℕ) → IsChain links (Some 0) order → Once order → AllByRecursion (λ i. i < length links) order → length order ≡ length links → IsLinked links × (chain links ≡ order)
linked_by links order chained once below many =
    let is : chain links ≡ order = follow_is links (Some 0) order (length links) chained (omega arith) in (
      record {
        chained = subst (IsChain links (Some 0)) (sym is) chained;
        once = subst Once (sym is) once;
        below = subst (AllByRecursion (λ i. i < length links)) (sym is) below;
        many = ap length is ∙ many;
      },
      is,
    )

-- ---- a node of another kind

pub linked_kind : (links more : List Link) (k i : ℕ) (n : Kind) → more ≡ slice_set links i (with_kind (link_at links i) n) → IsLinked links → k < length (chain links) → get_or (chain links) k 0 ≡ i → IsLinked more × (numbered more ≡ put_in (numbered links) k ((i, record (link_at links i).node { kind = n }) ∷ []))
linked_kind links more k i n is linked within at =
    let order = chain links in
    let link = with_kind (link_at links i) n in
    let small : i < length links = subst (λ (m : ℕ). m < length links) at (all_at (λ m. m < length links) order k 0 linked.below within) in
    let here : link_at more i ≡ link = ap (λ (ls : List Link). link_at ls i) is ∙ get_or-set_same links i link nowhere small in
    let other : (j : ℕ) → j ≢ i → link_at more j ≡ link_at links j = λ j apart. ap (λ (ls : List Link). link_at ls j) is ∙ get_or-set_other links i j link nowhere apart in
    let many : length more ≡ length links = ap length is ∙ length-set links i link in
    let next : (j : ℕ) → next_of more j ≡ next_of links j = next_kept links more i n here other in
    let both = linked_by more order (chain_same links more (Some 0) order (all_of (λ j. next_of more j ≡ next_of links j) order next) linked.chained) linked.once (subst (λ (m : ℕ). AllByRecursion (λ j. j < m) order) (sym many) linked.below) (linked.many ∙ sym many) in (
      both.0,
      ap (map (with_node more)) (both.1 ∙ sym (put_same order k 0 i within at))
          ∙ (map_change (with_node links) (with_node more) order (i ∷ []) k i within at linked.once (all_of (λ j. j ≢ i → with_node more j ≡ with_node links j) order (λ j apart. ap (λ (l : Link). (j, l.node)) (other j apart)))
          ∙ ap (λ (x : Numbered). put_in (numbered links) k (x ∷ [])) (ap (λ (l : Link). (i, l.node)) here)),
    )
  where
    next_kept : (links more : List Link) (i : ℕ) (n : Kind) → link_at more i ≡ with_kind (link_at links i) n → ((j : ℕ) → j ≢ i → link_at more j ≡ link_at links j) → (j : ℕ) → next_of more j ≡ next_of links j
    next_kept links more i n here other j =
        ⊎_elim (λ same. ap (next_of more) same.1 ∙ (ap (λ (l : Link). l.next) here ∙ ap (next_of links) (sym same.1)))
        (λ apart. ap (λ (l : Link). l.next) (other j apart.1)) (eqb_tells j i)

-- ---- a node split

pub linked_split : (links more : List Link) (k i : ℕ) (n : Kind) (low high : BoxNode) → more ≡ slice_set (links ++ (record { node = low; next = Some (suc (length links)) } ∷ record { node = high; next = (link_at links i).next } ∷ [])) i (record { node = record (link_at links i).node { kind = n }; next = Some (length links) }) → IsLinked links → k < length (chain links) → get_or (chain links) k 0 ≡ i → IsLinked more × (numbered more ≡ put_in (numbered links) k ((i, record (link_at links i).node { kind = n }) ∷ (length links, low) ∷ (suc (length links), high) ∷ []))
linked_split links more k i n low high is linked within at =
    let order = chain links in
    let end = length links in
    let first : Link = record { node = low; next = Some (suc end) } in
    let second : Link = record { node = high; next = (link_at links i).next } in
    let long = links ++ (first ∷ second ∷ []) in
    let link : Link = record { node = record (link_at links i).node { kind = n }; next = Some end } in
    let grown : length long ≡ suc (suc end) = long_is links first second in
    let small : i < end = subst (λ (m : ℕ). m < end) at (all_at (λ m. m < end) order k 0 linked.below within) in
    let here : link_at more i ≡ link = ap (λ (ls : List Link). link_at ls i) is ∙ get_or-set_same long i link nowhere (omega arith) in
    let away : (j : ℕ) → j ≢ i → link_at more j ≡ link_at long j = λ j apart. ap (λ (ls : List Link). link_at ls j) is ∙ get_or-set_other long i j link nowhere apart in
    let other : (j : ℕ) → j < end → j ≢ i → link_at more j ≡ link_at links j = λ j under apart. away j apart ∙ append_left links (first ∷ second ∷ []) j nowhere under in
    let at_first : link_at more end ≡ first = away end (λ same. omega arith) ∙ append_first links first second nowhere in
    let at_second : link_at more (suc end) ≡ second = away (suc end) (λ same. omega arith) ∙ append_second links first second nowhere in
    let many : length more ≡ suc (suc end) = ap length is ∙ (length-set long i link ∙ grown) in
    let new = i ∷ end ∷ suc end ∷ [] in
    let put = put_in order k new in
    let same_next = all_map (λ j. j < end) (λ j. j ≢ i → next_of more j ≡ next_of links j) order (λ j under apart. ap (λ (l : Link). l.next) (other j under apart)) linked.below in
    let same_node = all_map (λ j. j < end) (λ j. j ≢ i → with_node more j ≡ with_node links j) order (λ j under apart. ap (λ (l : Link). (j, l.node)) (other j under apart)) linked.below in
    let chained = chain_split links more (Some 0) order k i end within at linked.once same_next (ap (λ (l : Link). l.next) here) (ap (λ (l : Link). l.next) at_first) (ap (λ (l : Link). l.next) at_second) linked.chained in
    let below = all_put (λ j. j < length more) order new k (all_map (λ j. j < end) (λ j. j < length more) order (λ j under. omega arith) linked.below) (omega arith, (omega arith, (omega arith, tt))) in
    let both = linked_by more put chained (once_split order k i end within at small linked.below linked.once) below (omega (arith, length-put order new k within, linked.many)) in
    let nodes : map (with_node more) new ≡ (i, link.node) ∷ (end, low) ∷ (suc end, high) ∷ [] =
    rw (here, at_first, at_second) refl in (
      both.0,
      ap (map (with_node more)) both.1 ∙ (map_change (with_node links) (with_node more) order new k i within at linked.once same_node ∙ ap (put_in (numbered links) k) nodes),
    )
  where
    long_is : (links : List Link) (a b : Link) → length (links ++ (a ∷ b ∷ [])) ≡ suc (suc (length links))
    long_is [] a b = refl
    long_is (l ∷ links) a b = ap suc (long_is links a b)

    append_left : (links more : List Link) (j : ℕ) (d : Link) → j < length links → get_or (links ++ more) j d ≡ get_or links j d
    append_left [] more j d under = absurd (omega arith)
    append_left (l ∷ links) more zero d under = refl
    append_left (l ∷ links) more (suc j) d under = append_left links more j d (omega arith)

    append_first : (links : List Link) (a b d : Link) → get_or (links ++ (a ∷ b ∷ [])) (length links) d ≡ a
    append_first [] a b d = refl
    append_first (l ∷ links) a b d = append_first links a b d

    append_second : (links : List Link) (a b d : Link) → get_or (links ++ (a ∷ b ∷ [])) (suc (length links)) d ≡ b
    append_second [] a b d = refl
    append_second (l ∷ links) a b d = append_second links a b d

pub numbers : (links : List Link) (order : List ℕ) → map (λ (x : Numbered). x.0) (map (with_node links) order) ≡ order
numbers links [] = refl
numbers links (j ∷ order) = ap (λ (js : List ℕ). j ∷ js) (numbers links order)
