-- A box that was taken, and what becomes of the board.
use Rattle.std.proofs.Common.{◌≡◌, ◌∙◌, ap, refl, arith, ℕ, zero, suc, ◌+◌, ◌<◌, ℤ, Bool, true, false, not, ◌&&◌, cond, List, [], ◌∷◌, length, get_or}
use Rattle.std.specs.declared.option.Option.{Option}
use Rattle.std.specs.declared.option.Option.TheVariants.{Some, None}
use Rattle.std.specs.Option.{option_map}
use Rattle.std.specs.List.{AllByRecursion, position, count_by}
use Rattle.std.proofs.lemmas.Bool.{false≢true}
use Rattle.std.proofs.lemmas.List.Sums.{AllPass-from_list_all}
use Rattle.std.proofs.lemmas.List.Quantifiers.{position-Some}
use Rattle.std.proofs.lemmas.List.Folds.{list_any_none}
use Rattle.qf_base.specs.declared.names.RowName.{RowName}
use Rattle.qf_lin.specs.declared.step.Step.{Step}
use Rattle.qf_point.specs.Points.{better, cheapest}
use Rattle.qf_point.proofs.Positions.{position-cons}
use Rattle.qf_point.proofs.PointLaws.{better_trans}
use Rattle.qf_board.specs.Boards.{BoardState, Place, Split, Refuted, Open, Held, Box, boxes, box_at, is_open, is_held_by, is_wanted, is_best_wanted, is_counted, beats, better_of, best_place, best_box, held_place, put_at, put_if, HoldsNone, Take, Refute, Cut, Found, GiveBack, after, node_count}
use Rattle.qf_board.specs.Sound.{IsSound}
use Rattle.qf_board.proofs.Lists.{put_in, all_put, put_same, fail-count}
use Rattle.qf_board.proofs.BoardLaws.{position-None, count_by-put, boxed_leaf, length-boxed, best_place_open, best_is_leaf}
use Rattle.qf_search.specs.Exploring.{has_wanted}

-- ---- lists in which an item is replaced

place_put : {X : Type 0} (p : X → Bool) (xs : List X) (k : ℕ) (x : X) → k < length xs → AllByRecursion (λ y. p y ≡ false) xs → p x ≡ true → position p (put_in xs k (x ∷ [])) ≡ Some k
place_put p [] k x within fail is = absurd (omega arith)
place_put {X} p (y ∷ xs) zero x within fail is = position-cons p x xs ∙ ap (λ (b : Bool). cond {A = Option ℕ} b (Some 0) (option_map suc (position p xs))) is
place_put {X} p (y ∷ xs) (suc k) x within fail is =
    position-cons p y (put_in xs k (x ∷ []))
    ∙ (ap (λ (b : Bool). cond {A = Option ℕ} b (Some 0) (option_map suc (position p (put_in xs k (x ∷ []))))) fail.0
    ∙ ap (option_map suc) (place_put p xs k x (omega arith) fail.1 is))

pub nowhere : {X : Type 0} (p : X → Bool) (xs : List X) → AllByRecursion (λ y. p y ≡ false) xs → position p xs ≡ None
nowhere p [] fail = refl
nowhere p (y ∷ xs) fail =
    position-cons p y xs
    ∙ (ap (λ (b : Bool). cond {A = Option ℕ} b (Some 0) (option_map suc (position p xs))) fail.0
    ∙ ap (option_map suc) (nowhere p xs fail.1))

item_put : {X : Type 0} (xs : List X) (k : ℕ) (x d : X) → k < length xs → get_or (put_in xs k (x ∷ [])) k d ≡ x
item_put [] k x d within = absurd (omega arith)
item_put (y ∷ xs) zero x d within = refl
item_put (y ∷ xs) (suc k) x d within = item_put xs k x d (omega arith)

put_again : {X : Type 0} (xs new : List X) (k : ℕ) (x : X) → k < length xs → put_in (put_in xs k (x ∷ [])) k new ≡ put_in xs k new
put_again [] new k x within = absurd (omega arith)
put_again (y ∷ xs) new zero x within = refl
put_again {X} (y ∷ xs) new (suc k) x within = ap (λ (ys : List X). y ∷ ys) (put_again xs new k x (omega arith))

is_true_of : (a b : Bool) → (a && b) ≡ true → (a ≡ true) × (b ≡ true)
is_true_of true true h = (refl, refl)
is_true_of true false h = absurd (false≢true h)
is_true_of false b h = absurd (false≢true h)

open_is : (x : Place) → is_open x ≡ true → x ≡ Open
open_is (Split param cut row) h = absurd (false≢true h)
open_is (Refuted row steps) h = absurd (false≢true h)
open_is Open h = refl
open_is (Held who) h = absurd (false≢true h)

-- ---- the open box with the best key

some_box : (s : BoardState) (b : Box) (at : Option ℕ) → best_place s ≡ at → option_map (box_at s) at ≡ Some b → (k : ℕ) × (best_place s ≡ Some k) × (box_at s k ≡ b)
some_box s b None is e = absurd (cc)
some_box s b (Some k) is e = (k, is, cc)

pub box_placed : (s : BoardState) (b : Box) → best_box s ≡ Some b → (k : ℕ) × (best_place s ≡ Some k) × (box_at s k ≡ b)
box_placed s b e = some_box s b (best_place s) refl e

no_box : (s : BoardState) (at : Option ℕ) → option_map (box_at s) at ≡ None → at ≡ None
no_box s None e = refl
no_box s (Some k) e = absurd (cc)

pub none_taken : (s : BoardState) (e : ℕ) → best_box s ≡ None → after s (Take e) ≡ s
none_taken s e none = ap (λ (o : Option ℕ). put_if s o (Held e ∷ [])) (no_box s (best_place s) none)

-- ---- a board from which the box is taken

module _ (s : BoardState) (e k : ℕ) (best : best_place s ≡ Some k) where
  abbrev pub taken : BoardState
  taken = put_at s k (Held e ∷ [])

  pub take_is : after s (Take e) ≡ taken
  take_is = ap (λ (o : Option ℕ). put_if s o (Held e ∷ [])) best

  pub within : k < length s.places
  within = (best_place_open s k best).0

  pub opened : get_or s.places k Open ≡ Open
  opened = open_is (get_or s.places k Open) (best_place_open s k best).1

  pub no_node : (new : List Place) (n : ℕ) → count_by is_counted new ≡ n → node_count (put_at s k new) ≡ node_count s + n
  no_node new n is =
      let change = count_by-put is_counted s.places new k Open within in
      let none : cond {A = ℕ} (is_counted (get_or s.places k Open)) 1 0 ≡ 0 = ap (λ (x : Place). cond {A = ℕ} (is_counted x) 1 0) opened in
      omega (arith, change, none, is)

  module _ (none : HoldsNone s e) where
    unheld : AllByRecursion (λ (x : Place). is_held_by e x ≡ false) s.places
    unheld = fail-count (is_held_by e) s.places (position-None (is_held_by e) s.places none)

    self_held : is_held_by e (Held e) ≡ true
    self_held = grind arith

    pub held : held_place taken e ≡ Some k
    held = place_put (is_held_by e) s.places k (Held e) within unheld self_held

    pub free_after : (new : List Place) → AllByRecursion (λ (x : Place). is_held_by e x ≡ false) new → HoldsNone (put_at s k new) e
    free_after new fail = nowhere (is_held_by e) (put_in s.places k new) (all_put (λ (x : Place). is_held_by e x ≡ false) s.places new k unheld fail)

    put_taken : (new : List Place) → put_at taken k new ≡ put_at s k new
    put_taken new = ap (λ (ps : List Place). record s { places = ps }) (put_again s.places new k (Held e) within)

    pub refuted_is : (row : RowName) (steps : List Step) → after taken (Refute e row steps) ≡ put_at s k (Refuted row steps ∷ [])
    refuted_is row steps = ap (λ (o : Option ℕ). put_if taken o (Refuted row steps ∷ [])) held ∙ put_taken (Refuted row steps ∷ [])

    pub cut_is : (param : ℕ) (cut : ℤ) (row : RowName) → after taken (Cut e param cut row) ≡ put_at s k (Split param cut row ∷ Open ∷ Open ∷ [])
    cut_is param cut row = ap (λ (o : Option ℕ). put_if taken o (Split param cut row ∷ Open ∷ Open ∷ [])) held ∙ put_taken (Split param cut row ∷ Open ∷ Open ∷ [])

    same_open : put_at s k (Open ∷ []) ≡ s
    same_open = ap (λ (ps : List Place). record s { places = ps }) (put_same s.places k Open Open within opened)

    pub given_back_is : after taken (GiveBack e) ≡ s
    given_back_is = ap (λ (o : Option ℕ). put_if taken o (Open ∷ [])) held ∙ (put_taken (Open ∷ []) ∙ same_open)

    module _ (sound : IsSound s) where
      pub box_kept : box_at taken k ≡ box_at s k
      box_kept =
          let leaf = best_is_leaf s k best in
          let many = length-boxed s.places (s.root ∷ []) sound.stands in
          let is = boxed_leaf s.places (s.root ∷ []) k Open (Held e) refl leaf.0 leaf.1 sound.stands in
          ap (λ (xs : List (Box × Place)). (get_or xs k ([], Open)).0) is
          ∙ ap (λ (x : Box × Place). x.0) (item_put (boxes s) k (box_at s k, Held e) ([], Open) (omega (arith, within, many)))

      best_wanted : is_best_wanted s.prices s.best (boxes s) (get_or (boxes s) k ([], Open)) ≡ true
      best_wanted = (position-Some (is_best_wanted s.prices s.best (boxes s)) (boxes s) k ([], Open) best).1

      abbrev key : List ℤ
      key = cheapest s.prices (box_at s k)

      key_beats : beats s.prices s.best key ≡ true
      key_beats =
          let wanted = (is_true_of (is_wanted s.prices s.best (get_or (boxes s) k ([], Open))) _ best_wanted).0 in
          (is_true_of (is_open (get_or (boxes s) k ([], Open)).1) (beats s.prices s.best key) wanted).1

      pub found_is : after taken (Found e) ≡ record s { best = Some key }
      found_is =
          ap (λ (o : Option ℕ). put_if (record taken { best = better_of s.prices s.best (option_map (cheapest s.prices) (option_map (box_at taken) o)) }) o (Open ∷ [])) held
          ∙ (ap (λ (b : Box). put_at (record taken { best = better_of s.prices s.best (Some (cheapest s.prices b)) }) k (Open ∷ [])) box_kept
          ∙ (ap (λ (f : Bool). put_at (record taken { best = cond f (Some key) s.best }) k (Open ∷ [])) key_beats
          ∙ ap (λ (ps : List Place). record s { places = ps; best = Some key }) (put_again s.places (Open ∷ []) k (Held e) within ∙ put_same s.places k Open Open within opened)))

      beats_too : (found : Option (List ℤ)) (q : List ℤ) → beats s.prices found key ≡ true → better s.prices q key ≡ true → beats s.prices found q ≡ true
      beats_too None q h better_key = refl
      beats_too (Some f) q h better_key = better_trans s.prices q key f better_key h

      unwanted : (x : Box × Place) (a b : Bool) → is_open x.1 ≡ a → better s.prices (cheapest s.prices x.0) key ≡ b → not (is_wanted s.prices s.best x && better s.prices (cheapest s.prices x.0) key) ≡ true → is_wanted s.prices (Some key) x ≡ false
      unwanted x false b flag better_key passed = rw flag refl
      unwanted x true false flag better_key passed = rw (flag, better_key) refl
      unwanted x true true flag better_key passed =
          let wins = beats_too s.best (cheapest s.prices x.0) key_beats better_key in
          absurd (false≢true (rw (flag, wins, better_key) at passed))

      pub none_wanted : has_wanted (record s { best = Some key }) ≡ false
      none_wanted =
          let passed = (is_true_of (is_wanted s.prices s.best (get_or (boxes s) k ([], Open))) _ best_wanted).1 in
          list_any_none (is_wanted s.prices (Some key)) (boxes s) (λ j d below.
          let x = get_or (boxes s) j d in
          unwanted x (is_open x.1) (better s.prices (cheapest s.prices x.0) key) refl refl (AllPass-from_list_all (λ (y : Box × Place). not (is_wanted s.prices s.best y && better s.prices (cheapest s.prices y.0) key)) (boxes s) passed j d below))
