-- What one explorer does leaves what the others hold.
use Rattle.std.specs.Prelude.{◌≡◌, ◌≢◌, ℕ, ◌-◌, ◌<◌, ℤ, true, false, List, [], ◌∷◌, map, length, nat_eq}
use Rattle.std.specs.declared.option.Option.{Option}
use Rattle.std.specs.declared.option.Option.TheVariants.{Some, None}
use Rattle.std.specs.Option.{option_map}
use Rattle.std.specs.List.{AllByRecursion, find, position}
use Rattle.std.proofs.Common.{arith, refl, sym, ap, ◌∙◌, subst, get_or, ⊎_elim}
use Rattle.std.proofs.lemmas.Bool.{false≢true}
use Rattle.std.proofs.lemmas.Bool.Decides.{eqb_tells}
use Rattle.qf_base.specs.declared.names.RowName.{RowName}
use Rattle.qf_point.specs.Points.{cheapest, lower_half, upper_half}
use Rattle.qf_board.specs.Boards.{BoardState, Place, Split, Refuted, Open, Held, Box, boxed, boxes, box_at, is_leaf, is_open, is_held_by, held_place, held_box, best_place, put_at, put_if, better_of, Event, Take, Refute, Cut, Found, GiveBack, after, CanHappen}
use Rattle.qf_board.specs.Sound.{Stands, IsSound}
use Rattle.qf_board.specs.Allowed.{who_of}
use Rattle.qf_point.proofs.Positions.{at_position}
use Rattle.qf_board.proofs.Lists.{put_in, find-put}
use Rattle.qf_board.proofs.BoardLaws.{boxed_leaf, boxed_split, cut_nodes, boxed_place, length-boxed, held_place_held, held_is_leaf, best_place_open, best_is_leaf}

-- the nodes beside their boxes
pub places_boxed : (places : List Place) (pending : List Box) → Stands places pending → map (λ (x : Box × Place). x.1) (boxed places pending) ≡ places
places_boxed [] [] h = refl
places_boxed [] (b ∷ pending) h = absurd h
places_boxed (n ∷ places) [] h = absurd h
places_boxed (Split p c r ∷ places) (b ∷ pending) h = ap (λ (ps : List Place). Split p c r ∷ ps) (places_boxed places (lower_half b (p - 1) c ∷ upper_half b (p - 1) c ∷ pending) h.1)
places_boxed (Refuted r steps ∷ places) (b ∷ pending) h = ap (λ (ps : List Place). Refuted r steps ∷ ps) (places_boxed places pending h)
places_boxed (Open ∷ places) (b ∷ pending) h = ap (λ (ps : List Place). Open ∷ ps) (places_boxed places pending h)
places_boxed (Held who ∷ places) (b ∷ pending) h = ap (λ (ps : List Place). Held who ∷ ps) (places_boxed places pending h)

abbrev first_held : ℕ → List (Box × Place) → Option Box
first_held e bs = option_map (λ (x : Box × Place). x.0) (find (λ (x : Box × Place). is_held_by e x.1) bs)

held_is_first : (s : BoardState) (e : ℕ) → Stands s.places (s.root ∷ []) → held_box s e ≡ first_held e (boxes s)
held_is_first s e stands =
    ap (λ (ps : List Place). option_map (box_at s) (position (is_held_by e) ps)) (sym (places_boxed s.places (s.root ∷ []) stands))
    ∙ at_position (is_held_by e) (λ (x : Box × Place). x.0) (λ (x : Box × Place). x.1) (boxes s) ([], Open)

-- a node that the explorer does not hold gives way to nodes that it does not hold
others_put : (s t : BoardState) (other k : ℕ) (new : List (Box × Place)) → Stands s.places (s.root ∷ []) → Stands t.places (t.root ∷ []) → k < length s.places → is_held_by other (get_or s.places k Open) ≡ false → AllByRecursion (λ (x : Box × Place). is_held_by other x.1 ≡ false) new → boxes t ≡ put_in (boxes s) k new → held_box t other ≡ held_box s other
others_put s t other k new stands stands' within was fail is =
    let many = length-boxed s.places (s.root ∷ []) stands in
    let same = boxed_place s.places (s.root ∷ []) k [] Open (omega arith) in
    held_is_first t other stands' ∙ (ap (first_held other) is
    ∙ (ap (option_map (λ (x : Box × Place). x.0)) (find-put (λ (x : Box × Place). is_held_by other x.1) (boxes s) new k ([], Open) (omega arith) (ap (is_held_by other) same.1 ∙ was) fail)
    ∙ sym (held_is_first s other stands)))

pub apart_test : (a b : ℕ) → b ≢ a → nat_eq a b ≡ false
apart_test a b apart = ⊎_elim (λ same. absurd (apart (sym same.1))) (λ other. other.0) (eqb_tells a b)

pub held_apart : (e other : ℕ) (x : Place) → other ≢ e → is_held_by e x ≡ true → is_held_by other x ≡ false
held_apart e other (Split param cut row) apart h = refl
held_apart e other (Refuted row steps) apart h = refl
held_apart e other Open apart h = refl
held_apart e other (Held who) apart h =
    ⊎_elim (λ same. ap (λ (w : ℕ). nat_eq w other) same.1 ∙ apart_test e other apart) (λ unlike. absurd (false≢true (sym unlike.0 ∙ h))) (eqb_tells who e)

pub open_apart : (other : ℕ) (x : Place) → is_open x ≡ true → is_held_by other x ≡ false
open_apart other (Split param cut row) h = refl
open_apart other (Refuted row steps) h = refl
open_apart other Open h = refl
open_apart other (Held who) h = absurd (false≢true h)

others_take : (s : BoardState) (e other : ℕ) (at : Option ℕ) → best_place s ≡ at → other ≢ e → IsSound s → IsSound (put_if s at (Held e ∷ [])) → held_box (put_if s at (Held e ∷ [])) other ≡ held_box s other
others_take s e other None is apart sound after_it = refl
others_take s e other (Some k) is apart sound after_it =
    let here = best_place_open s k is in
    let leaf = best_is_leaf s k is in
    others_put s (put_at s k (Held e ∷ [])) other k ((box_at s k, Held e) ∷ []) sound.stands after_it.stands here.0 (open_apart other (get_or s.places k Open) here.1) (apart_test e other apart, tt)
    (boxed_leaf s.places (s.root ∷ []) k Open (Held e) refl leaf.0 leaf.1 sound.stands)

others_leaf : (s : BoardState) (e other k : ℕ) (n : Place) (found : Option (List ℤ)) → held_place s e ≡ Some k → other ≢ e → is_leaf n ≡ true → is_held_by other n ≡ false → IsSound s → IsSound (put_at (record s { best = found }) k (n ∷ [])) → held_box (put_at (record s { best = found }) k (n ∷ [])) other ≡ held_box s other
others_leaf s e other k n found at apart leaf unheld sound after_it =
    let here = held_place_held s e k at in
    let was = held_is_leaf s e k at in
    others_put s (put_at (record s { best = found }) k (n ∷ [])) other k ((box_at s k, n) ∷ []) sound.stands after_it.stands here.0 (held_apart e other (get_or s.places k Open) apart here.1) (unheld, tt)
    (boxed_leaf s.places (s.root ∷ []) k Open n leaf was.0 was.1 sound.stands)

others_cut : (s : BoardState) (e other k param : ℕ) (cut : ℤ) (row : RowName) → held_place s e ≡ Some k → other ≢ e → IsSound s → IsSound (put_at s k (Split param cut row ∷ Open ∷ Open ∷ [])) → held_box (put_at s k (Split param cut row ∷ Open ∷ Open ∷ [])) other ≡ held_box s other
others_cut s e other k param cut row at apart sound after_it =
    let here = held_place_held s e k at in
    let was = held_is_leaf s e k at in
    others_put s (put_at s k (Split param cut row ∷ Open ∷ Open ∷ [])) other k (cut_nodes (box_at s k) param cut row) sound.stands after_it.stands here.0 (held_apart e other (get_or s.places k Open) apart here.1) (refl, (refl, (refl, tt)))
    (boxed_split s.places (s.root ∷ []) k Open param cut row was.0 was.1 sound.stands)

pub others_after : (s : BoardState) (next : Event) (other : ℕ) → CanHappen s next → other ≢ who_of next → IsSound s → IsSound (after s next) → held_box (after s next) other ≡ held_box s other
others_after s (Take e) other can apart sound after_it = others_take s e other (best_place s) refl apart sound after_it
others_after s (Refute e row steps) other can apart sound after_it =
    let is = ap (λ (o : Option ℕ). put_if s o (Refuted row steps ∷ [])) can.1 in
    ap (λ (t : BoardState). held_box t other) is ∙ others_leaf s e other can.0 (Refuted row steps) s.best can.1 apart refl refl sound (subst IsSound is after_it)
others_after s (Cut e param cut row) other can apart sound after_it =
    let is = ap (λ (o : Option ℕ). put_if s o (Split param cut row ∷ Open ∷ Open ∷ [])) can.1 in
    ap (λ (t : BoardState). held_box t other) is ∙ others_cut s e other can.0 param cut row can.1 apart sound (subst IsSound is after_it)
others_after s (Found e) other can apart sound after_it =
    let found = better_of s.prices s.best (option_map (cheapest s.prices) (held_box s e)) in
    let is = ap (λ (o : Option ℕ). put_if (record s { best = found }) o (Open ∷ [])) can.1 in
    ap (λ (t : BoardState). held_box t other) is ∙ others_leaf s e other can.0 Open found can.1 apart refl refl sound (subst IsSound is after_it)
others_after s (GiveBack e) other can apart sound after_it =
    let is = ap (λ (o : Option ℕ). put_if s o (Open ∷ [])) can.1 in
    ap (λ (t : BoardState). held_box t other) is ∙ others_leaf s e other can.0 Open s.best can.1 apart refl refl sound (subst IsSound is after_it)
