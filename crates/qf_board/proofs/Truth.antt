-- What the events keep of the repairs, and what a board that has ended says of them.
use Rattle.std.specs.Prelude.{◌≡◌, ℕ, suc, ◌<◌, ℤ, Bool, true, false, cond, ◌&&◌, not, List, [], ◌∷◌, length, IfSome, MatchOption}
use Rattle.std.specs.declared.option.Option.{Option}
use Rattle.std.specs.declared.option.Option.TheVariants.{Some, None}
use Rattle.std.proofs.Common.{arith, refl, sym, ap, ◌∙◌, subst, get_or}
use Rattle.std.specs.Option.{option_map}
use Rattle.std.specs.List.{count_by}
use Rattle.std.proofs.lemmas.List.Sums.{AllPass-from_list_all}
use Rattle.std.proofs.lemmas.Bool.{false≢true}
use Rattle.qf_base.specs.declared.names.RowName.{RowName}
use Rattle.qf_lin.specs.declared.step.Step.{Step}
use Rattle.qf_point.specs.Points.{Price, better, cheapest, is_in, In, HasNoEmpty}
use Rattle.qf_point.specs.Least.{IsAnswer}
use Rattle.qf_point.proofs.PointLaws.{In-is_in, is_in-In, none_better, not_better_trans, cheapest_in, length-In}
use Rattle.qf_point.proofs.Leasts.{least_once}
use Rattle.qf_board.specs.Boards.{BoardState, Place, Split, Refuted, Open, Held, Box, boxes, is_leaf, is_held, is_wanted, beats, has_ended, box_at, held_place, held_box, put_at, put_if, best_place, Event, Take, Refute, Cut, Found, GiveBack, after, after_all, CanHappen, start, better_of}
use Rattle.qf_board.specs.Sound.{IsSound}
use Rattle.qf_board.specs.Allowed.{IsAllowed, AreAllowed, HoldsNoRepair, IsTruthful, is_left, IsLeftIn}
use Rattle.qf_board.specs.Laws.{StepsAreSound}
use Rattle.qf_board.proofs.Lists.{all_put, all_at}
use Rattle.qf_board.proofs.BoardLaws.{partition, count_by-cons, boxed_leaf, boxed_split, cut_nodes, held_fits, held_is_leaf, best_is_leaf, sound_after, sound_start, boxed_place}

some_counted : {X : Type 0} (p : X → Bool) (xs : List X) (n : ℕ) (d : X) → count_by p xs ≡ suc n → (k : ℕ) × (k < length xs) × (p (get_or xs k d) ≡ true)
some_counted p [] n d h = absurd (omega arith)
some_counted p (x ∷ xs) n d h =
    elim (p x) as (λ b. p x ≡ b → (k : ℕ) × (k < length (x ∷ xs)) × (p (get_or (x ∷ xs) k d) ≡ true)) [
      | true ↦ λ e. (0, omega arith, e)
      | false ↦ λ e.
          let is : cond {A = ℕ} (p x) 1 0 ≡ 0 = ap (λ (b : Bool). cond {A = ℕ} b 1 0) e in
          let all = count_by-cons p x xs in
          let rest = some_counted p xs n d (omega arith) in
          (suc rest.0, omega (arith, rest.1), rest.2)
    ] refl

and_both : (a b : Bool) → (a && b) ≡ true → (a ≡ true) × (b ≡ true)
and_both true true h = (refl, refl)
and_both true false h = absurd (false≢true h)
and_both false b h = absurd (false≢true h)

not_true : (a : Bool) → not a ≡ true → a ≡ false
not_true true h = absurd (false≢true h)
not_true false h = refl

-- ---- the root box and the prices stay

root_kept_put : (s : BoardState) (at : Option ℕ) (new : List Place) → ((put_if s at new).root ≡ s.root) × ((put_if s at new).prices ≡ s.prices)
root_kept_put s None new = (refl, refl)
root_kept_put s (Some k) new = (refl, refl)

pub root_kept : (s : BoardState) (e : Event) → ((after s e).root ≡ s.root) × ((after s e).prices ≡ s.prices)
root_kept s (Take e) = root_kept_put s (best_place s) (Held e ∷ [])
root_kept s (Refute e row steps) = root_kept_put s (held_place s e) (Refuted row steps ∷ [])
root_kept s (Cut e param cut row) = root_kept_put s (held_place s e) (Split param cut row ∷ Open ∷ Open ∷ [])
root_kept s (Found e) = root_kept_put (record s { best = better_of s.prices s.best (option_map (cheapest s.prices) (held_box s e)) }) (held_place s e) (Open ∷ [])
root_kept s (GiveBack e) = root_kept_put s (held_place s e) (Open ∷ [])

pub root_kept_all : (s : BoardState) (events : List Event) → ((after_all s events).root ≡ s.root) × ((after_all s events).prices ≡ s.prices)
root_kept_all s [] = (refl, refl)
root_kept_all s (e ∷ events) =
    let rest = root_kept_all (after s e) events in
    let first = root_kept s e in
    (rest.0 ∙ first.0, rest.1 ∙ first.1)

-- ---- what repairs

module _ (Repairs : List ℤ → Type 0) where
  pub answer_once : (region : Box) (prices : List Price) (a b : Option (List ℤ)) → IsAnswer Repairs region prices a → IsAnswer Repairs region prices b → a ≡ b
  answer_once region prices None None h k = refl
  answer_once region prices None (Some q) h k = absurd (h q k.inside k.repairs)
  answer_once region prices (Some p) None h k = absurd (k p h.inside h.repairs)
  answer_once region prices (Some p) (Some q) h k = ap (λ (v : List ℤ). Some v) (least_once Repairs region prices p q h k)

  leaf_cases : (s : BoardState) (b : Box) (n : Place) (q : List ℤ) → (is_leaf n && is_in b q) ≡ true → (not (is_held n) && not (is_wanted s.prices s.best (b, n))) ≡ true → HoldsNoRepair Repairs (b, n) → Repairs q → In b q × (beats s.prices s.best (cheapest s.prices b) ≡ false)
  leaf_cases s b (Split param cut row) q leaf ended holds repairs = absurd (false≢true leaf)
  leaf_cases s b (Refuted row steps) q leaf ended holds repairs = absurd (holds q (In-is_in b q leaf) repairs)
  leaf_cases s b Open q leaf ended holds repairs = (In-is_in b q leaf, not_true _ ended)
  leaf_cases s b (Held who) q leaf ended holds repairs = absurd (false≢true ended)

  -- each repair of the root box lies in an open box whose key is not better than the best found
  pub repair_unwanted : (s : BoardState) (q : List ℤ) → IsSound s → IsTruthful Repairs s → has_ended s ≡ true → In s.root q → Repairs q → (b : Box) × In b q × (length s.prices ≡ length b) × (beats s.prices s.best (cheapest s.prices b) ≡ false)
  repair_unwanted s q sound truthful ended inside repairs =
      let none : Box × Place = ([], Open) in
      let one : cond {A = ℕ} (is_in s.root q) 1 0 ≡ 1 = ap (λ (b : Bool). cond {A = ℕ} b 1 0) (is_in-In s.root q inside) in
      let at = some_counted (λ (x : Box × Place). is_leaf x.1 && is_in x.0 q) (boxes s) 0 none (partition s sound.stands q ∙ one) in
      let x = get_or (boxes s) at.0 none in
      let passed = AllPass-from_list_all (λ (x : Box × Place). not (is_held x.1) && not (is_wanted s.prices s.best x)) (boxes s) ended at.0 none at.1 in
      let case = leaf_cases s x.0 x.1 q at.2 passed (all_at (HoldsNoRepair Repairs) (boxes s) at.0 none truthful.refuted at.1) repairs in
      (x.0, case.0, sound.priced ∙ (length-In s.root q inside ∙ sym (length-In x.0 q case.0)), case.1)

  left_cases : (b : Box) (n : Place) (q : List ℤ) → (is_leaf n && is_in b q) ≡ true → HoldsNoRepair Repairs (b, n) → Repairs q → (is_left n ≡ true) × In b q
  left_cases b (Split param cut row) q leaf holds repairs = absurd (false≢true leaf)
  left_cases b (Refuted row steps) q leaf holds repairs = absurd (holds q (In-is_in b q leaf) repairs)
  left_cases b Open q leaf holds repairs = (refl, In-is_in b q leaf)
  left_cases b (Held who) q leaf holds repairs = (refl, In-is_in b q leaf)

  -- each repair of the root box lies in an open or held box
  pub repair_left : (s : BoardState) (q : List ℤ) → IsSound s → IsTruthful Repairs s → In s.root q → Repairs q → IsLeftIn s q
  repair_left s q sound truthful inside repairs =
      let none : Box × Place = ([], Open) in
      let one : cond {A = ℕ} (is_in s.root q) 1 0 ≡ 1 = ap (λ (b : Bool). cond {A = ℕ} b 1 0) (is_in-In s.root q inside) in
      let at = some_counted (λ (x : Box × Place). is_leaf x.1 && is_in x.0 q) (boxes s) 0 none (partition s sound.stands q ∙ one) in
      let x = get_or (boxes s) at.0 none in
      let same = boxed_place s.places (s.root ∷ []) at.0 [] Open at.1 in
      let case = left_cases x.0 x.1 q at.2 (all_at (HoldsNoRepair Repairs) (boxes s) at.0 none truthful.refuted at.1) repairs in
      record { place = at.0; within = same.0; left = sym (ap is_left same.1) ∙ case.0; inside = case.1 }

  unwanted_best : (s : BoardState) (found : Option (List ℤ)) (q : List ℤ) (b : Box) → In b q → length s.prices ≡ length b → beats s.prices found (cheapest s.prices b) ≡ false → MatchOption found ⊥ (λ p. better s.prices q p ≡ false)
  unwanted_best s None q b inside same h = absurd (false≢true (sym h))
  unwanted_best s (Some p) q b inside same h = not_better_trans s.prices p (cheapest s.prices b) q h (none_better s.prices b q same inside)

  -- a board that has ended has the answer as its best found
  pub ended_answer : (s : BoardState) → IsSound s → IsTruthful Repairs s → has_ended s ≡ true → IsAnswer Repairs s.root s.prices s.best
  ended_answer s sound truthful ended = by_found s.best refl
    where
      by_found : (found : Option (List ℤ)) → s.best ≡ found → IsAnswer Repairs s.root s.prices found
      by_found None e = λ q inside repairs.
          let r = repair_unwanted s q sound truthful ended inside repairs in
          unwanted_best s None q r.0 r.1 r.2 (subst (λ (f : Option (List ℤ)). beats s.prices f (cheapest s.prices r.0) ≡ false) e r.3)
      by_found (Some p) e =
          let kept = subst (λ (f : Option (List ℤ)). IfSome f (λ p. In s.root p × Repairs p)) e truthful.found in
          record {
            inside = kept.0;
            repairs = kept.1;
            best = λ q inside repairs.
                let r = repair_unwanted s q sound truthful ended inside repairs in
                unwanted_best s (Some p) q r.0 r.1 r.2 (subst (λ (f : Option (List ℤ)). beats s.prices f (cheapest s.prices r.0) ≡ false) e r.3);
          }

  -- ---- events that each have what they need for the problem

  truthful_leaf : (s : BoardState) (k : ℕ) (n : Place) (found : Option (List ℤ)) → is_leaf n ≡ true → (k < length s.places) × (is_leaf (get_or s.places k Open) ≡ true) → IsSound s → IsTruthful Repairs s → HoldsNoRepair Repairs (box_at s k, n) → IfSome found (λ p. In s.root p × Repairs p) → IsTruthful Repairs (put_at (record s { best = found }) k (n ∷ []))
  truthful_leaf s k n found leaf here sound truthful holds kept = record {
    refuted = rw (boxed_leaf s.places (s.root ∷ []) k Open n leaf here.0 here.1 sound.stands) (all_put (HoldsNoRepair Repairs) (boxes s) ((box_at s k, n) ∷ []) k truthful.refuted (holds, tt));
    found = kept;
  }

  truthful_cut : (s : BoardState) (k param : ℕ) (cut : ℤ) (row : RowName) → (k < length s.places) × (is_leaf (get_or s.places k Open) ≡ true) → IsSound s → IsTruthful Repairs s → IsTruthful Repairs (put_at s k (Split param cut row ∷ Open ∷ Open ∷ []))
  truthful_cut s k param cut row here sound truthful = record {
    refuted = rw (boxed_split s.places (s.root ∷ []) k Open param cut row here.0 here.1 sound.stands)
        (all_put (HoldsNoRepair Repairs) (boxes s) (cut_nodes (box_at s k) param cut row) k truthful.refuted (tt, (tt, (tt, tt))));
    found = truthful.found;
  }

  truthful_take : (s : BoardState) (e : ℕ) (at : Option ℕ) → best_place s ≡ at → IsSound s → IsTruthful Repairs s → IsTruthful Repairs (put_if s at (Held e ∷ []))
  truthful_take s e None is sound truthful = truthful
  truthful_take s e (Some k) is sound truthful = truthful_leaf s k (Held e) s.best refl (best_is_leaf s k is) sound truthful tt truthful.found

  better_kept : (s : BoardState) (found : Option (List ℤ)) (p : List ℤ) → IfSome found (λ p. In s.root p × Repairs p) → In s.root p → Repairs p → IfSome (better_of s.prices found (Some p)) (λ p. In s.root p × Repairs p)
  better_kept s found p kept inside repairs =
      elim (beats s.prices found p) as (λ b. IfSome (cond b (Some p) found) (λ p. In s.root p × Repairs p)) [
        | true ↦ (inside, repairs)
        | false ↦ kept
      ]

  module _ (Refutes : Box → RowName → List Step → Type 0) where
    pub can_happen : (s : BoardState) (e : Event) → IsAllowed Repairs Refutes s e → CanHappen s e
    can_happen s (Take e) h = h
    can_happen s (Refute e row steps) h = (h.0, h.1)
    can_happen s (Cut e param cut row) h = h
    can_happen s (Found e) h = (h.0, h.1)
    can_happen s (GiveBack e) h = h

    -- where steps that refute a box leave no repair in it that lies in the root box
    module _ (root : Box) (sound_steps : StepsAreSound Repairs Refutes root) where
      pub truthful_after : (s : BoardState) (e : Event) → s.root ≡ root → IsAllowed Repairs Refutes s e → IsSound s → IsTruthful Repairs s → IsTruthful Repairs (after s e)
      truthful_after s (Take e) at can sound truthful = truthful_take s e (best_place s) refl sound truthful
      truthful_after s (Refute e row steps) at can sound truthful =
          let within = (held_fits s e can.0 sound can.1).within in
          let holds = λ (q : List ℤ) (inside : In (box_at s can.0) q) (repairs : Repairs q). sound_steps (box_at s can.0) row steps can.2 q (subst (λ (r : Box). In r q) at (within q inside)) inside repairs in
          rw can.1 (truthful_leaf s can.0 (Refuted row steps) s.best refl (held_is_leaf s e can.0 can.1) sound truthful holds truthful.found)
      truthful_after s (Cut e param cut row) at can sound truthful = rw can.1 (truthful_cut s can.0 param cut row (held_is_leaf s e can.0 can.1) sound truthful)
      truthful_after s (Found e) at can sound truthful =
          let fits = held_fits s e can.0 sound can.1 in
          let key = cheapest s.prices (box_at s can.0) in
          let inside : In s.root key = fits.within key (cheapest_in s.prices (box_at s can.0) (sound.priced ∙ sym fits.same) fits.spans) in
          subst (λ (at : Option ℕ). IsTruthful Repairs (put_if (record s { best = better_of s.prices s.best (option_map (cheapest s.prices) (option_map (box_at s) at)) }) at (Open ∷ []))) (sym can.1)
          (truthful_leaf s can.0 Open (better_of s.prices s.best (Some key)) refl (held_is_leaf s e can.0 can.1) sound truthful tt (better_kept s s.best key truthful.found inside can.2))
      truthful_after s (GiveBack e) at can sound truthful = rw can.1 (truthful_leaf s can.0 Open s.best refl (held_is_leaf s e can.0 can.1) sound truthful tt truthful.found)

      pub kept_by_all : (s : BoardState) (events : List Event) → s.root ≡ root → AreAllowed Repairs Refutes s events → IsSound s → IsTruthful Repairs s → IsSound (after_all s events) × IsTruthful Repairs (after_all s events)
      kept_by_all s [] at can sound truthful = (sound, truthful)
      kept_by_all s (e ∷ events) at can sound truthful = kept_by_all (after s e) events ((root_kept s e).0 ∙ at) can.1 (sound_after s e (can_happen s e can.0) sound) (truthful_after s e at can.0 sound truthful)

      -- any list of events after which the board has ended leaves the answer as the best found
      pub answer_after : (prices : List Price) (explorers : ℕ) (events : List Event) → length prices ≡ length root → HasNoEmpty root → AreAllowed Repairs Refutes (start root prices explorers) events → has_ended (after_all (start root prices explorers) events) ≡ true → IsAnswer Repairs root prices (after_all (start root prices explorers) events).best
      answer_after prices explorers events same spans can ended =
          let s = start root prices explorers in
          let kept = kept_by_all s events refl can (sound_start root prices explorers same spans) (record { refuted = (tt, tt); found = tt }) in
          let stays = root_kept_all s events in
          subst (λ (r : Box). IsAnswer Repairs r prices (after_all s events).best) stays.0
          (subst (λ (ps : List Price). IsAnswer Repairs (after_all s events).root ps (after_all s events).best) stays.1 (ended_answer (after_all s events) kept.0 kept.1 ended))

      -- so any two of them leave the same
      pub same_answer : (prices : List Price) (m n : ℕ) (first second : List Event) → length prices ≡ length root → HasNoEmpty root → AreAllowed Repairs Refutes (start root prices m) first → AreAllowed Repairs Refutes (start root prices n) second → has_ended (after_all (start root prices m) first) ≡ true → has_ended (after_all (start root prices n) second) ≡ true → (after_all (start root prices m) first).best ≡ (after_all (start root prices n) second).best
      same_answer prices m n first second same spans can can' ended ended' =
          answer_once root prices _ _ (answer_after prices m first same spans can ended) (answer_after prices n second same spans can' ended')

      pub no_repair_lost : (prices : List Price) (explorers : ℕ) (events : List Event) → length prices ≡ length root → HasNoEmpty root → AreAllowed Repairs Refutes (start root prices explorers) events → IsTruthful Repairs (after_all (start root prices explorers) events) × ((q : List ℤ) → In root q → Repairs q → IsLeftIn (after_all (start root prices explorers) events) q)
      no_repair_lost prices explorers events same spans can =
          let s = start root prices explorers in
          let kept = kept_by_all s events refl can (sound_start root prices explorers same spans) (record { refuted = (tt, tt); found = tt }) in
          (kept.1, λ q inside repairs. repair_left (after_all s events) q kept.0 kept.1 (subst (λ (r : Box). In r q) (sym (root_kept_all s events).0) inside) repairs)
