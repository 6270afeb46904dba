-- What a board keeps where a held leaf is split.
use Rattle.std.specs.Prelude.{◌≡◌, ◌≢◌, ℕ, suc, ◌+◌, ◌-◌, ◌<◌, ℤ, true, false, List, [], ◌∷◌, ◌++◌, map, length, slice_set, take, zero}
use Rattle.std.specs.declared.option.Option.{Option}
use Rattle.std.specs.declared.option.Option.TheVariants.{Some, None}
use Rattle.std.specs.declared.vec.Vec.{Vec}
use Rattle.std.specs.declared.alloc.Global.{Global}
use Rattle.std.specs.List.{AllByRecursion, count_by}
use Rattle.std.specs.BTreeSet.{BTreeSet, insert_key}
use Rattle.std.specs.BTreeSet as tree
use Rattle.std.specs.BTreeMap.{is_at}
use Rattle.std.specs.Set.{remove_key}
use Rattle.std.proofs.Common.{arith, refl, sym, ap, ◌∙◌, subst, inl, inr}
use Rattle.std.proofs.lemmas.Bool.{false≢true}
use Rattle.std.proofs.lemmas.List.{length-set, length-append}
use Rattle.qf_base.specs.declared.names.RowName.{RowName}
use Rattle.qf_point.specs.Points.{Price, cost, cheapest, lower_half, upper_half, CanCut}
use Rattle.qf_board.specs.declared.nodes.BoxNode.{BoxNode}
use Rattle.qf_board.specs.declared.nodes.Kind.{Kind}
use Rattle.qf_board.specs.declared.nodes.Kind.TheVariants as kind
use Rattle.qf_board.specs.declared.nodes.Link.{Link}
use Rattle.qf_board.specs.declared.keys.Key.{Key}
use Rattle.qf_board.specs.declared.board.Board.TheInside.{Inside}
use Rattle.qf_board.specs.Boards.{BoardState, Place, Split, Open, Box, boxes, box_at, put_at, held_place, is_held_by, is_held, is_counted}
use Rattle.qf_board.specs.Sound.{IsSound}
use Rattle.qf_board.specs.Allowed.{is_left}
use Rattle.qf_board.specs.Numbered.{Numbered, link_at, numbered, place_of, place_of_kind, pair_of}
use Rattle.qf_board.specs.Kept.{key_cmp, state_of, IsKept, IsKeyOf, IsKeyFor, IsListed, has_key, held_number, with_kind}
use Rattle.qf_board.proofs.Lists.{put_in, all_map, all_both}
use Rattle.qf_board.proofs.Chains.{linked_split}
use Rattle.qf_board.proofs.KeySets.{has_kept, has_inserted, has_new, all_inserted, all_removed, none_at}
use Rattle.qf_board.proofs.BoardLaws.{boxed_split, cut_nodes, held_is_leaf, sound_cut}
use Rattle.qf_board.proofs.Keeps.{here, here_number, held_rest, holding_rest, counted_rest, apart_key, listed_put, listed_new, all_put_apart, once_each, kept_new}

above : (m n : ℕ) → m < n → n ≢ m
above m n h = λ same. omega arith

module _ (b : Inside) (kept : IsKept b) (who k at : ℕ) (is : held_place (state_of b) who ≡ Some k) (number : held_number b.held.items who ≡ Some at) (param : ℕ) (cut : ℤ) (row : RowName) (can : CanCut (box_at (state_of b) k) (param - 1) cut) (low high : BoxNode) where
  abbrev xs : List Numbered
  xs = numbered b.links.items

  abbrev s : BoardState
  s = state_of b

  abbrev end : ℕ
  end = length b.links.items

  abbrev parent : Numbered
  parent = (at, record (link_at b.links.items at).node { kind = kind.Split param cut row })

  abbrev new : List Numbered
  new = parent ∷ (end, low) ∷ (suc end, high) ∷ []

  pub kept_cut : (low_box : low.region ≡ lower_half (box_at s k) (param - 1) cut) → (high_box : high.region ≡ upper_half (box_at s k) (param - 1) cut) → low.kind ≡ kind.Open → high.kind ≡ kind.Open
      → (gone first second : Key) (links : Vec Link Global) (held : Vec (Option ℕ) Global) (left : BTreeSet Key) (counted holding : ℕ) (room : List ℤ)
      → links.items ≡ slice_set (b.links.items ++ (record { node = low; next = Some (suc end) } ∷ record { node = high; next = (link_at b.links.items at).next } ∷ [])) at (record { node = record (link_at b.links.items at).node { kind = kind.Split param cut row }; next = Some end })
      → held.items ≡ slice_set b.held.items who None → holding ≡ b.holding - 1 → counted ≡ b.counted + 1 → length room ≡ length b.olds
      → IsKeyOf b.olds (at, (link_at b.links.items at).node) gone → IsKeyOf b.olds (end, low) first → IsKeyOf b.olds (suc end, high) second
      → left.keys ≡ remove_key (is_at (key_cmp gone)) (insert_key key_cmp (insert_key key_cmp b.left.keys first) second) → tree.contains_by (key_cmp gone) left ≡ false
      → IsKept (record b { links = links; held = held; left = left; counted = counted; holding = holding; room = room }) × (state_of (record b { links = links; held = held; left = left; counted = counted; holding = holding; room = room }) ≡ put_at s k (Split param cut row ∷ Open ∷ Open ∷ []))
  kept_cut low_box high_box low_open high_open gone first second links held left counted holding room put let_go less more long mine low_key high_key replaced absent =
      let spot = here b kept who k at is number in
      let at_is = here_number b kept who k at is number in
      let both = linked_split b.links.items links.items k at (kind.Split param cut row) low high put kept.linked spot.within spot.number in
      let places : map place_of new ≡ Split param cut row ∷ Open ∷ Open ∷ [] = rw (low_open, high_open) refl in
      let its = subst (λ (x : Numbered). IsKeyOf b.olds x gone) (sym spot.node) mine in
      let was = held_is_leaf s who k is in
      let pairs_new : map pair_of new ≡ cut_nodes (box_at s k) param cut row = rw (low_open, high_open, low_box, high_box, spot.region) refl in
      let split = put_at s k (Split param cut row ∷ Open ∷ Open ∷ []) in
      let state_is : put_at s k (map place_of new) ≡ split = ap (λ (ps : List Place). put_at s k ps) places in
      let pairs : boxes (put_at s k (map place_of new)) ≡ put_in (boxes s) k (map pair_of new) =
      ap boxes state_is ∙ (boxed_split s.places (b.root ∷ []) k Open param cut row was.0 was.1 kept.sound.stands ∙ ap (put_in (boxes s) k) (sym pairs_new)) in
      let P = λ (key : Key). is_at (key_cmp gone) key ≡ false → IsListed b.olds key (put_in xs k new) in
      let old_keys = all_map (λ (key : Key). IsListed b.olds key xs) P b.left.keys (λ key h other. listed_put b.olds key xs new k spot.inside (λ m. absurd (apart_key b kept who k at is number gone key its other m)) h) kept.listed in
      let with_first = all_inserted P b.left.keys first old_keys (λ _. listed_new b.olds first xs new k spot.inside (inr (inl low_key))) in
      let with_both = all_inserted P (insert_key key_cmp b.left.keys first) second with_first (λ _. listed_new b.olds second xs new k spot.inside (inr (inr (inl high_key)))) in
      let kept_keys = all_removed P (is_at (key_cmp gone)) (insert_key key_cmp (insert_key key_cmp b.left.keys first) second) with_both in
      let now_keys = subst (AllByRecursion P) (sym replaced) kept_keys in
      let has = λ (leaf : ℕ) (apart : leaf ≢ at) (h : has_key (insert_key key_cmp (insert_key key_cmp b.left.keys first) second) leaf ≡ true).
      ap (λ (ks : List Key). has_key ks leaf) replaced ∙ has_kept (insert_key key_cmp (insert_key key_cmp b.left.keys first) second) gone leaf (λ same. apart (same ∙ mine.leaf)) h in
      let done = kept_new b kept k new links held left counted holding b.best room both.0 both.1 (ap length let_go ∙ length-set b.held.items who None)
      (subst IsSound (sym state_is) (sound_cut s k who param cut row is can kept.sound)) pairs
      (held_rest b kept who k at is number held new let_go (λ w. (refl, (ap (λ n. is_held_by w (place_of_kind n)) low_open, (ap (λ n. is_held_by w (place_of_kind n)) high_open, tt)))) (ap (count_by (is_held_by who)) places))
      (all_map (λ (key : Key). (is_at (key_cmp gone) key ≡ false) × P key) (λ (key : Key). IsListed b.olds key (put_in xs k new)) left.keys (λ key h. h.1 h.0)
      (all_both (λ (key : Key). is_at (key_cmp gone) key ≡ false) P left.keys (none_at (is_at (key_cmp gone)) left.keys absent) now_keys))
      (all_put_apart (λ (x : Numbered). is_left (place_of x) ≡ true → has_key left.keys x.0 ≡ true) xs new k at spot.inside at_is (once_each b kept)
      (all_map (λ (x : Numbered). is_left (place_of x) ≡ true → has_key b.left.keys x.0 ≡ true) (λ (x : Numbered). x.0 ≢ at → is_left (place_of x) ≡ true → has_key left.keys x.0 ≡ true) xs
      (λ x h apart left_too. has x.0 apart (has_inserted (insert_key key_cmp b.left.keys first) second x.0 (has_inserted b.left.keys first x.0 (h left_too)))) kept.left) (
        (λ h. absurd (false≢true h)),
        (
          (λ _. has end (above at end spot.small) (has_inserted (insert_key key_cmp b.left.keys first) second end (ap (has_key (insert_key key_cmp b.left.keys first)) (sym low_key.leaf) ∙ has_new b.left.keys first))),
          ((λ _. has (suc end) (above at (suc end) (omega (arith, spot.small))) (ap (has_key (insert_key key_cmp (insert_key key_cmp b.left.keys first) second)) (sym high_key.leaf) ∙ has_new (insert_key key_cmp b.left.keys first) second)), tt),
        ),
      ))
      (more ∙ counted_rest b kept who k at is number new 1 (ap (count_by is_counted) places)) (less ∙ holding_rest b kept who k at is number new (ap (count_by is_held) places)) kept.best long in
      (done.0, done.1 ∙ state_is)

take_front : (links more : List Link) → take (length links) (links ++ more) ≡ links
take_front [] more = refl
take_front (l ∷ links) more = ap (λ (ls : List Link). l ∷ ls) (take_front links more)

-- what was added is taken away again
pub truncated : (links more last new : List Link) (n : ℕ) → n ≡ length links → more ≡ links ++ new → last ≡ take n more → last ≡ links
truncated links more last new n at_end added cut_off = cut_off ∙ (ap (λ (m : ℕ). take m more) at_end ∙ (ap (take (length links)) added ∙ take_front links new))

front : (links more : List Link) (j : ℕ) → j < length links → link_at (links ++ more) j ≡ link_at links j
front [] more j under = absurd (omega arith)
front (l ∷ links) more zero under = refl
front (l ∷ links) more (suc j) under = front links more j (omega arith)

-- the links as they stand after the cut
pub split_put : (links more last : List Link) (at first : ℕ) (n : Kind) (low high : BoxNode) (next : Option ℕ) → at < length links → first ≡ length links → more ≡ links ++ (record { node = low; next = Some (length links + 1) } ∷ record { node = high; next = next } ∷ []) → next ≡ (link_at links at).next → last ≡ slice_set more at (record (with_kind (link_at more at) n) { next = Some first })
    → last ≡ slice_set (links ++ (record { node = low; next = Some (suc (length links)) } ∷ record { node = high; next = (link_at links at).next } ∷ [])) at (record { node = record (link_at links at).node { kind = n }; next = Some (length links) })
split_put links more last at first n low high next small at_end added follows put =
    let new : Option ℕ → ℕ → List Link = λ o m. (record { node = low; next = Some m } ∷ record { node = high; next = o } ∷ []) in
    let same : link_at more at ≡ link_at links at = ap (λ (ls : List Link). link_at ls at) added ∙ front links (new next (length links + 1)) at small in
    let one : length links + 1 ≡ suc (length links) = omega arith in
    put
    ∙ (ap (λ (l : Link). slice_set more at (record (with_kind l n) { next = Some first })) same
    ∙ (ap (λ (m : ℕ). slice_set more at (record (with_kind (link_at links at) n) { next = Some m })) at_end
    ∙ (ap (λ (ls : List Link). slice_set ls at (record (with_kind (link_at links at) n) { next = Some (length links) })) added
    ∙ (ap (λ (o : Option ℕ). slice_set (links ++ new o (length links + 1)) at (record (with_kind (link_at links at) n) { next = Some (length links) })) follows
    ∙ ap (λ (m : ℕ). slice_set (links ++ new (link_at links at).next m) at (record (with_kind (link_at links at) n) { next = Some (length links) })) one))))

pub leaf_key : (prices : List Price) (region half : Box) (n number : ℕ) (key : Key) → IsKeyFor prices half n key → region ≡ half → n ≡ number → IsKeyOf prices (number, record { region = region; kind = kind.Open }) key
leaf_key prices region half n number key is same at = record {
  leaf = is.leaf ∙ at;
  left = refl;
  values = is.values ∙ ap (cheapest prices) (sym same);
  cost = is.cost ∙ ap (λ (r : Box). cost prices (cheapest prices r)) (sym same);
}

pub within_more : (links more new : List Link) (at : ℕ) → more ≡ links ++ new → at < length links → at < length more
within_more links more new at is small = subst (λ (ls : List Link). at < length ls) (sym is) (omega (arith, length-append links new, small))
