-- Runs of one explorer, an event or two at a time and one after another.
use Rattle.std.proofs.Common.{◌≡◌, ◌≢◌, ◌∙◌, ap, sym, subst, refl, arith, inl, ℕ, ◌+◌, ◌-◌, ◌<◌, ◌≤◌, ℤ, true, cond, List, [], ◌∷◌, ◌++◌}
use Rattle.std.specs.declared.option.Option.{Option}
use Rattle.std.specs.declared.option.Option.TheVariants.{Some, None}
use Rattle.std.specs.List.{count_by}
use Rattle.std.specs.Option.{option_map}
use Rattle.std.proofs.lemmas.List.Sums.{sum_by-append}
use Rattle.qf_base.specs.declared.names.RowName.{RowName}
use Rattle.qf_lin.specs.declared.step.Step.{Step}
use Rattle.qf_point.specs.Points.{cheapest, CanCut}
use Rattle.qf_goal.specs.Case.{Case, Mends, misses, first_failing}
use Rattle.qf_slice.specs.RootBox.{IsNeeded}
use Rattle.qf_tree.specs.Lines.{StepsFit}
use Rattle.qf_encode.specs.Lives.{BoxIn}
use Rattle.qf_board.specs.Boards.{BoardState, Place, Split, Refuted, Open, Held, Box, box_at, best_place, held_box, held_place, put_at, put_if, HoldsNone, HoldsAt, Event, Take, Refute, Cut, Found, GiveBack, after, after_all, start, CanHappen, node_count, better_of}
use Rattle.qf_board.specs.Sound.{IsSound}
use Rattle.qf_board.specs.Allowed.{who_of, IsAllowed}
use Rattle.qf_board.proofs.BoardLaws.{sound_after}
use Rattle.qf_board.proofs.Others.{others_after}
use Rattle.qf_search.specs.Standing.{RefutesFor, AreAllowedFor, StandsFor}
use Rattle.qf_search.specs.Exploring.{AreBy, adds_node, IsNotClosable, IsLean, AreLean, Explores}
use Rattle.qf_search.proofs.BoardSteps.{taken, take_is, held, free_after, no_node, box_kept, refuted_is, cut_is, given_back_is, found_is}

-- ---- lists of events

after_append : (s : BoardState) (a b : List Event) → after_all s (a ++ b) ≡ after_all (after_all s a) b
after_append s [] b = refl
after_append s (e ∷ a) b = after_append (after s e) a b

by_append : (who : ℕ) (a b : List Event) → AreBy who a → AreBy who b → AreBy who (a ++ b)
by_append who [] b h k = k
by_append who (e ∷ a) b h k = (h.0, by_append who a b h.1 k)

module _ (case : Case) where
  allowed_append : (s : BoardState) (a b : List Event) → AreAllowedFor case s a → AreAllowedFor case (after_all s a) b → AreAllowedFor case s (a ++ b)
  allowed_append s [] b h k = k
  allowed_append s (e ∷ a) b h k = (h.0, allowed_append (after s e) a b h.1 k)

  lean_append : (s : BoardState) (a b : List Event) → AreLean case s a → AreLean case (after_all s a) b → AreLean case s (a ++ b)
  lean_append s [] b h k = k
  lean_append s (e ∷ a) b h k = (h.0, lean_append (after s e) a b h.1 k)

  added_append : (a b : List Event) → count_by adds_node (a ++ b) ≡ count_by adds_node a + count_by adds_node b
  added_append a b = sum_by-append (λ e. cond (adds_node e) 1 0) a b

  -- ---- runs

  pub explores_none : (who most : ℕ) (s : BoardState) → HoldsNone s who → Explores case who most s s
  explores_none who most s none = record {
    events = [];
    own = tt;
    allowed = tt;
    lean = tt;
    few = omega arith;
    leads = refl;
    added = omega arith;
    free = none;
    others = λ other apart. refl;
  }

  pub explores_more : (who m n most : ℕ) (s t u : BoardState) → m + n ≤ most → Explores case who m s t → Explores case who n t u → Explores case who most s u
  explores_more who m n most s t u few h k =
      let both = added_append h.events k.events in
      record {
        events = h.events ++ k.events;
        own = by_append who h.events k.events h.own k.own;
        allowed = allowed_append s h.events k.events h.allowed (subst (λ (r : BoardState). AreAllowedFor case r k.events) (sym h.leads) k.allowed);
        lean = lean_append s h.events k.events h.lean (subst (λ (r : BoardState). AreLean case r k.events) (sym h.leads) k.lean);
        few = omega (arith, both, few, h.few, k.few);
        leads = after_append s h.events k.events ∙ (ap (λ (r : BoardState). after_all r k.events) h.leads ∙ k.leads);
        added = omega (arith, both, h.added, k.added);
        free = k.free;
        others = λ other apart. k.others other apart ∙ h.others other apart;
      }

  pub explores_weaker : (who m n : ℕ) (s t : BoardState) → m ≤ n → Explores case who m s t → Explores case who n s t
  explores_weaker who m n s t few h = explores_more who m 0 n s t t (omega (arith, few)) h (explores_none who 0 t h.free)

  -- ---- a board that stands for a problem goes on to stand for it

  frame_put : (s : BoardState) (at : Option ℕ) (new : List Place) → ((put_if s at new).root ≡ s.root) × ((put_if s at new).prices ≡ s.prices) × ((put_if s at new).explorers ≡ s.explorers)
  frame_put s None new = (refl, refl, refl)
  frame_put s (Some k) new = (refl, refl, refl)

  frame_one : (s : BoardState) (e : Event) → ((after s e).root ≡ s.root) × ((after s e).prices ≡ s.prices) × ((after s e).explorers ≡ s.explorers)
  frame_one s (Take e) = frame_put s (best_place s) (Held e ∷ [])
  frame_one s (Refute e row steps) = frame_put s (held_place s e) (Refuted row steps ∷ [])
  frame_one s (Cut e param cut row) = frame_put s (held_place s e) (Split param cut row ∷ Open ∷ Open ∷ [])
  frame_one s (Found e) = frame_put (record s { best = better_of s.prices s.best (option_map (cheapest s.prices) (held_box s e)) }) (held_place s e) (Open ∷ [])
  frame_one s (GiveBack e) = frame_put s (held_place s e) (Open ∷ [])

  pub frame_all : (s : BoardState) (events : List Event) → ((after_all s events).root ≡ s.root) × ((after_all s events).prices ≡ s.prices) × ((after_all s events).explorers ≡ s.explorers)
  frame_all s [] = (refl, refl, refl)
  frame_all s (e ∷ events) =
      let rest = frame_all (after s e) events in
      let first = frame_one s e in
      (rest.0 ∙ first.0, rest.1 ∙ first.1, rest.2 ∙ first.2)

  pub frame_of : (who most : ℕ) (s t : BoardState) → Explores case who most s t → (t.root ≡ s.root) × (t.prices ≡ s.prices) × (t.explorers ≡ s.explorers)
  frame_of who most s t h = subst (λ (r : BoardState). (r.root ≡ s.root) × (r.prices ≡ s.prices) × (r.explorers ≡ s.explorers)) h.leads (frame_all s h.events)

  pub goes_on : (who most : ℕ) (s t : BoardState) → StandsFor case s → Explores case who most s t → StandsFor case t
  goes_on who most s t stands h =
      let frame = frame_of who most s t h in
      let begin = start s.root s.prices s.explorers in
      let same : start t.root t.prices t.explorers ≡ begin = cc in
      let events = stands.events ++ h.events in
      record {
        olds = frame.1 ∙ stands.olds;
        root = stands.root;
        is_root = stands.is_root;
        inside = subst (λ (b : Box). BoxIn b stands.root) (sym frame.0) stands.inside;
        events = events;
        allowed = subst (λ (r : BoardState). AreAllowedFor case r events) (sym same) (allowed_append begin stands.events h.events stands.allowed (subst (λ (r : BoardState). AreAllowedFor case r h.events) (sym stands.leads) h.allowed));
        leads = ap (λ (r : BoardState). after_all r events) same ∙ (after_append begin stands.events h.events ∙ (ap (λ (r : BoardState). after_all r h.events) stands.leads ∙ h.leads));
      }

  -- ---- a box is taken, and one event follows

  can : (s : BoardState) (e : Event) → IsAllowed (Mends case) (RefutesFor case) s e → CanHappen s e
  can s (Take e) h = h
  can s (Refute e row steps) h = (h.0, h.1)
  can s (Cut e param cut row) h = h
  can s (Found e) h = (h.0, h.1)
  can s (GiveBack e) h = h

  module _ (s : BoardState) (who k : ℕ) (best : best_place s ≡ Some k) (sound : IsSound s) (one : who < s.explorers) (none : HoldsNone s who) where
    abbrev t : BoardState
    t = taken s who k best

    take_can : CanHappen s (Take who)
    take_can = (one, none)

    sound_t : IsSound t
    sound_t = subst IsSound (take_is s who k best) (sound_after s (Take who) take_can sound)

    others_t : (other : ℕ) → other ≢ who → held_box t other ≡ held_box s other
    others_t other apart =
        let moved = sound_after s (Take who) take_can sound in
        ap (λ (r : BoardState). held_box r other) (sym (take_is s who k best)) ∙ others_after s (Take who) other take_can apart sound moved

    two : (x : Event) (u : BoardState) (most : ℕ) → who_of x ≡ who → IsAllowed (Mends case) (RefutesFor case) t x → IsLean case t x → after t x ≡ u → node_count u ≡ node_count s + count_by adds_node (Take who ∷ x ∷ []) → HoldsNone u who → count_by adds_node (Take who ∷ x ∷ []) ≤ most → Explores case who most s u
    two x u most own allowed lean is added free few =
        let back = sym (take_is s who k best) in
        record {
          events = Take who ∷ x ∷ [];
          own = (refl, (own, tt));
          allowed = (take_can, (subst (λ (r : BoardState). IsAllowed (Mends case) (RefutesFor case) r x) back allowed, tt));
          lean = (tt, (subst (λ (r : BoardState). IsLean case r x) back lean, tt));
          few = few;
          leads = ap (λ (r : BoardState). after r x) (take_is s who k best) ∙ is;
          added = added;
          free = free;
          others = λ other apart.
              let apart_x : other ≢ who_of x = subst (λ (w : ℕ). other ≢ w) (sym own) apart in
              ap (λ (r : BoardState). held_box r other) (sym is) ∙ (others_after t x other (can t x allowed) apart_x sound_t (sound_after t x (can t x allowed) sound_t) ∙ others_t other apart);
        }

    at_k : HoldsAt t who k
    at_k = held s who k best none

    box_k : box_at t k ≡ box_at s k
    box_k = box_kept s who k best none sound

    pub given_back : (most : ℕ) → Explores case who most s s
    given_back most = two (GiveBack who) s most refl (k, at_k) tt (given_back_is s who k best none) (omega arith) none (omega arith)

    pub found : (most : ℕ) → Mends case (cheapest s.prices (box_at s k)) → Explores case who most s (record s { best = Some (cheapest s.prices (box_at s k)) })
    found most mends = two (Found who) (record s { best = Some (cheapest s.prices (box_at s k)) }) most refl (k, at_k, subst (λ (b : Box). Mends case (cheapest s.prices b)) (sym box_k) mends) tt (found_is s who k best none sound) (omega arith) none (omega arith)

    pub refuted : (row : RowName) (steps : List Step) → RefutesFor case (box_at s k) row steps → StepsFit steps → misses case (cheapest s.prices (box_at s k)) row ≡ true → Explores case who 1 s (put_at s k (Refuted row steps ∷ []))
    refuted row steps refutes fit fails =
        two (Refute who row steps) (put_at s k (Refuted row steps ∷ [])) 1 refl
        (k, at_k, subst (λ (b : Box). RefutesFor case b row steps) (sym box_k) refutes)
        (k, at_k, inl (subst (λ (b : Box). misses case (cheapest s.prices b) row ≡ true) (sym box_k) fails), fit)
        (refuted_is s who k best none row steps)
        (no_node s who k best (Refuted row steps ∷ []) 1 refl)
        (free_after s who k best none (Refuted row steps ∷ []) (refl, tt))
        (omega arith)

    pub was_cut : (param : ℕ) (cut : ℤ) (row : RowName) → 0 < param → CanCut (box_at s k) (param - 1) cut → IsNeeded case param → first_failing case (cheapest s.prices (box_at s k)) ≡ Some row → IsNotClosable case (box_at s k) → Explores case who 1 s (put_at s k (Split param cut row ∷ Open ∷ Open ∷ []))
    was_cut param cut row first cuts needed failing left =
        two (Cut who param cut row) (put_at s k (Split param cut row ∷ Open ∷ Open ∷ [])) 1 refl
        (k, at_k, first, subst (λ (b : Box). CanCut b (param - 1) cut) (sym box_k) cuts)
        (k, at_k, needed, subst (λ (b : Box). first_failing case (cheapest s.prices b) ≡ Some row) (sym box_k) failing, subst (IsNotClosable case) (sym box_k) left)
        (cut_is s who k best none param cut row)
        (no_node s who k best (Split param cut row ∷ Open ∷ Open ∷ []) 1 refl)
        (free_after s who k best none (Split param cut row ∷ Open ∷ Open ∷ []) (refl, (refl, (refl, tt))))
        (omega arith)
