-- The run of one explorer alone: what stands after each of its events.
use Rattle.std.proofs.Common.{◌≡◌, ◌⊎◌, inl, inr, refl, sym, ap, ◌∙◌, subst, arith, ℕ, zero, suc, ◌-◌, ℤ, Bool, true, false, ◌&&◌, List, [], ◌∷◌, get_or}
use Rattle.std.specs.declared.option.Option.{Option}
use Rattle.std.specs.declared.option.Option.TheVariants.{Some, None}
use Rattle.std.proofs.lemmas.Bool.{false≢true}
use Rattle.std.proofs.lemmas.List.Folds.{list_any_at}
use Rattle.std.proofs.lemmas.List.Quantifiers.{position-Some}
use Rattle.qf_base.specs.declared.names.RowName.{RowName}
use Rattle.qf_base.specs.Values.{Bounds}
use Rattle.qf_lin.specs.declared.step.Step.{Step}
use Rattle.qf_point.specs.Points.{CanCut}
use Rattle.qf_goal.specs.Case.{Case, Mends, first_failing}
use Rattle.qf_board.specs.Boards.{BoardState, Place, Split, Refuted, Open, Held, Box, box_at, is_leaf, is_wanted, is_best_wanted, boxes, best_place, held_place, put_at, put_if, HoldsNone, Event, Take, Refute, Cut, Found, GiveBack, start, after, after_all}
use Rattle.qf_board.specs.Sound.{IsSound}
use Rattle.qf_board.specs.Allowed.{who_of, IsAllowed}
use Rattle.qf_board.specs.Laws.{StepsAreSound}
use Rattle.qf_board.proofs.Lists.{put_in}
use Rattle.qf_board.proofs.BoardLaws.{sound_after}
use Rattle.qf_search.specs.Standing.{RefutesFor, AreAllowedFor}
use Rattle.qf_search.specs.Exploring.{IsNamed, IsDue, IsLean, AreLean, AreBy, Explores, has_wanted, IsNotClosable}
use Rattle.qf_search.proofs.BoardSteps.{take_is, held, refuted_is, cut_is, given_back_is, found_is, box_kept, none_wanted}
use Rattle.qf_search.proofs.OneExplorer.{board, key_of, IsGood, IsGoodCut, IsGoodRefutation, good_start, good_refuted, good_cut, holds_none, fits, key_in, leaf}

pub not_here : (o : Option ℕ) (k : ℕ) → o ≡ None → o ≡ Some k → ⊥
not_here o k none here = absurd (cc)

one_place : (o : Option ℕ) (j k : ℕ) → o ≡ Some j → o ≡ Some k → j ≡ k
one_place o j k first second = cc

one_of_both : (a b : Bool) → (a && b) ≡ true → a ≡ true
one_of_both true b h = refl
one_of_both false b h = absurd (false≢true h)

-- a held leaf names no row
named_back : (row : RowName) (xs : List Place) (k who : ℕ) → is_leaf (get_or xs k Open) ≡ true → IsNamed row (put_in xs k (Held who ∷ [])) → IsNamed row xs
named_back row [] zero who was h = h
named_back row [] (suc k) who was h = h
named_back row (Split param cut named ∷ xs) zero who was h = absurd (false≢true was)
named_back row (Refuted other steps ∷ xs) zero who was h = h
named_back row (Open ∷ xs) zero who was h = h
named_back row (Held other ∷ xs) zero who was h = h
named_back row (Split param cut named ∷ xs) (suc k) who was (inl h) = inl h
named_back row (Split param cut named ∷ xs) (suc k) who was (inr h) = inr (named_back row xs k who was h)
named_back row (Refuted other steps ∷ xs) (suc k) who was h = named_back row xs k who was h
named_back row (Open ∷ xs) (suc k) who was h = named_back row xs k who was h
named_back row (Held other ∷ xs) (suc k) who was h = named_back row xs k who was h

-- where nothing is wanted nothing is handed out
pub nothing_best : (t : BoardState) → has_wanted t ≡ false → best_place t ≡ None
nothing_best t none = by (best_place t) refl
  where
    by : (o : Option ℕ) → best_place t ≡ o → o ≡ None
    by None is = refl
    by (Some k) is =
        let at = position-Some (is_best_wanted t.prices t.best (boxes t)) (boxes t) k ([], Open) is in
        let wanted = one_of_both (is_wanted t.prices t.best (get_or (boxes t) k ([], Open))) _ at.1 in
        absurd (false≢true (sym none ∙ list_any_at (is_wanted t.prices t.best) (boxes t) k ([], Open) at.0 wanted))

module _ (case : Case) (region : Bounds) where
  -- nobody holds a box and nothing is found
  pub record IsResting (t : BoardState) : Type 0 where
    pub places : List Place
    pub good : IsGood case region places
    pub is : t ≡ board case region places None

  -- the open box with the best key is held
  pub record IsHolding (t : BoardState) : Type 0 where
    pub places : List Place
    pub good : IsGood case region places
    pub place : ℕ
    pub best : best_place (board case region places None) ≡ Some place
    pub is : t ≡ put_at (board case region places None) place (Held 0 ∷ [])

  -- its cheapest point was found
  pub record HasFound (t : BoardState) : Type 0 where
    pub places : List Place
    pub good : IsGood case region places
    pub place : ℕ
    pub best : best_place (board case region places None) ≡ Some place
    pub mends : Mends case (key_of case region (box_at (board case region places None) place))
    pub is : t ≡ board case region places (Some (key_of case region (box_at (board case region places None) place)))

  abbrev pub Phase : BoardState → Type 0
  Phase t = IsResting t ⊎ (IsHolding t ⊎ HasFound t)

  abbrev Allowed : BoardState → Event → Type 0
  Allowed t e = IsAllowed (Mends case) (RefutesFor case) t e

  module _ (steps_sound : StepsAreSound (Mends case) (RefutesFor case) region) where
    -- ---- an event of a board at rest

    module _ (ps : List Place) (g : IsGood case region ps) where
      abbrev s : BoardState
      s = board case region ps None

      none : (e : ℕ) → HoldsNone s e
      none e = holds_none case region ps None e g.unheld

      from_rest : (e : Event) → who_of e ≡ 0 → Allowed s e → Phase (after s e)
      from_rest (Take who) own h = by (best_place s) refl
        where
          by : (o : Option ℕ) → best_place s ≡ o → Phase (put_if s o (Held who ∷ []))
          by None is = inl (record { places = ps; good = g; is = refl })
          by (Some k) is = inr (inl (record { places = ps; good = g; place = k; best = is; is = ap (λ (w : ℕ). put_at s k (Held w ∷ [])) own }))
      from_rest (Refute who row steps) own h = absurd (not_here (held_place s who) h.0 (none who) h.1)
      from_rest (Cut who param cut row) own h = absurd (not_here (held_place s who) h.0 (none who) h.1)
      from_rest (Found who) own h = absurd (not_here (held_place s who) h.0 (none who) h.1)
      from_rest (GiveBack who) own h = absurd (not_here (held_place s who) h.0 (none who) h.1)

      -- ---- an event of a board on which the box is held

      module _ (k : ℕ) (best : best_place s ≡ Some k) where
        abbrev t : BoardState
        t = put_at s k (Held 0 ∷ [])

        at_k : held_place t 0 ≡ Some k
        at_k = held s 0 k best (none 0)

        sound_t : IsSound t
        sound_t = subst IsSound (take_is s 0 k best) (sound_after s (Take 0) (omega arith, none 0) g.sound)

        box_k : (j : ℕ) → held_place t 0 ≡ Some j → box_at t j ≡ box_at s k
        box_k j at = ap (box_at t) (one_place (held_place t 0) j k at at_k) ∙ box_kept s 0 k best (none 0) g.sound

        due_k : (point : List ℤ) (row : RowName) → IsDue case t point row → IsDue case s point row
        due_k point row (inl misses) = inl misses
        due_k point row (inr (inl complained)) = inr (inl complained)
        due_k point row (inr (inr named)) = inr (inr (named_back row ps k 0 (leaf case region ps k g best).1 named))

        refuted : (row : RowName) (steps : List Step) → Allowed t (Refute 0 row steps) → IsLean case t (Refute 0 row steps) → Phase (after t (Refute 0 row steps))
        refuted row steps h l =
            let b = box_at s k in
            let is = refuted_is s 0 k best (none 0) row steps in
            let sound = subst IsSound is (sound_after t (Refute 0 row steps) (k, at_k) sound_t) in
            let refutes = subst (λ (c : Box). RefutesFor case c row steps) (box_k h.0 h.1) h.2 in
            let f = fits case region ps k g best in
            let inside = key_in case region ps k g best in
            let good : IsGoodRefutation case region ps b row steps = record {
              refutes = refutes;
              fit = l.3;
              due = due_k (key_of case region b) row (subst (λ (c : Box). IsDue case t (key_of case region c) row) (box_k l.0 l.1) l.2);
              fails = λ mends. steps_sound b row steps refutes (key_of case region b) (f.within (key_of case region b) inside) inside mends;
            } in
            inl (record { places = put_in ps k (Refuted row steps ∷ []); good = good_refuted case region ps k g best row steps sound good; is = is })

        was_cut : (param : ℕ) (cut : ℤ) (row : RowName) → Allowed t (Cut 0 param cut row) → IsLean case t (Cut 0 param cut row) → Phase (after t (Cut 0 param cut row))
        was_cut param cut row h l =
            let b = box_at s k in
            let is = cut_is s 0 k best (none 0) param cut row in
            let cuts = subst (λ (j : ℕ). CanCut (box_at t j) (param - 1) cut) (one_place (held_place t 0) h.0 k h.1 at_k) h.3 in
            let sound = subst IsSound is (sound_after t (Cut 0 param cut row) h sound_t) in
            let same = box_k l.0 l.1 in
            let good : IsGoodCut case region b param cut row = record {
              first = h.2;
              cuts = subst (λ (c : Box). CanCut c (param - 1) cut) (box_k h.0 h.1) h.3;
              needed = l.2;
              failing = subst (λ (c : Box). first_failing case (key_of case region c) ≡ Some row) same l.3;
              unclosed = subst (λ (c : Box). IsNotClosable case c) same l.4;
            } in
            inl (record { places = put_in ps k (Split param cut row ∷ Open ∷ Open ∷ []); good = good_cut case region ps k g best param cut row sound good; is = is })

        from_holding : (e : Event) → who_of e ≡ 0 → Allowed t e → IsLean case t e → Phase (after t e)
        from_holding (Take who) own h l = absurd (not_here (held_place t 0) k (subst (λ (w : ℕ). HoldsNone t w) own h.1) at_k)
        from_holding (Refute who row steps) own h l =
            subst (λ (w : ℕ). Phase (after t (Refute w row steps))) (sym own) (refuted row steps (subst (λ (w : ℕ). Allowed t (Refute w row steps)) own h) (subst (λ (w : ℕ). IsLean case t (Refute w row steps)) own l))
        from_holding (Cut who param cut row) own h l =
            subst (λ (w : ℕ). Phase (after t (Cut w param cut row))) (sym own) (was_cut param cut row (subst (λ (w : ℕ). Allowed t (Cut w param cut row)) own h) (subst (λ (w : ℕ). IsLean case t (Cut w param cut row)) own l))
        from_holding (Found who) own h l =
            let same = box_k h.0 (subst (λ (w : ℕ). held_place t w ≡ Some h.0) own h.1) in
            inr (inr (record {
              places = ps;
              good = g;
              place = k;
              best = best;
              mends = subst (λ (c : Box). Mends case (key_of case region c)) same h.2;
              is = ap (λ (w : ℕ). after t (Found w)) own ∙ found_is s 0 k best (none 0) g.sound;
            }))
        from_holding (GiveBack who) own h l = inl (record { places = ps; good = g; is = ap (λ (w : ℕ). after t (GiveBack w)) own ∙ given_back_is s 0 k best (none 0) })

        -- ---- an event after the point was found

        abbrev u : BoardState
        u = board case region ps (Some (key_of case region (box_at s k)))

        pub unwanted : has_wanted u ≡ false
        unwanted = none_wanted s 0 k best (none 0) g.sound

        from_found : (e : Event) → who_of e ≡ 0 → Allowed u e → Mends case (key_of case region (box_at s k)) → Phase (after u e)
        from_found (Take who) own h mends = inr (inr (record { places = ps; good = g; place = k; best = best; mends = mends; is = ap (λ (o : Option ℕ). put_if u o (Held who ∷ [])) (nothing_best u unwanted) }))
        from_found (Refute who row steps) own h mends = absurd (not_here (held_place u who) h.0 (holds_none case region ps (Some (key_of case region (box_at s k))) who g.unheld) h.1)
        from_found (Cut who param cut row) own h mends = absurd (not_here (held_place u who) h.0 (holds_none case region ps (Some (key_of case region (box_at s k))) who g.unheld) h.1)
        from_found (Found who) own h mends = absurd (not_here (held_place u who) h.0 (holds_none case region ps (Some (key_of case region (box_at s k))) who g.unheld) h.1)
        from_found (GiveBack who) own h mends = absurd (not_here (held_place u who) h.0 (holds_none case region ps (Some (key_of case region (box_at s k))) who g.unheld) h.1)

    -- ---- any event, and all of them

    phase_after : (t : BoardState) (e : Event) → who_of e ≡ 0 → Allowed t e → IsLean case t e → Phase t → Phase (after t e)
    phase_after t e own h l (inl p) = subst (λ (r : BoardState). Phase (after r e)) (sym p.is) (from_rest p.places p.good e own (subst (λ (r : BoardState). Allowed r e) p.is h))
    phase_after t e own h l (inr (inl p)) =
        subst (λ (r : BoardState). Phase (after r e)) (sym p.is) (from_holding p.places p.good p.place p.best e own (subst (λ (r : BoardState). Allowed r e) p.is h) (subst (λ (r : BoardState). IsLean case r e) p.is l))
    phase_after t e own h l (inr (inr p)) = subst (λ (r : BoardState). Phase (after r e)) (sym p.is) (from_found p.places p.good p.place p.best e own (subst (λ (r : BoardState). Allowed r e) p.is h) p.mends)

    phase_all : (t : BoardState) (events : List Event) → AreBy 0 events → AreAllowedFor case t events → AreLean case t events → Phase t → Phase (after_all t events)
    phase_all t [] own h l p = p
    phase_all t (e ∷ events) own h l p = phase_all (after t e) events own.1 h.1 l.1 (phase_after t e own.0 h.0 l.0 p)

    still_holding : (t : BoardState) → HoldsNone t 0 → IsHolding t → ⊥
    still_holding t free p = not_here (held_place t 0) p.place free (ap (λ (r : BoardState). held_place r 0) p.is ∙ at_k p.places p.good p.place p.best)

    at_rest : (t : BoardState) → HoldsNone t 0 → Phase t → IsResting t ⊎ HasFound t
    at_rest t free (inl p) = inl p
    at_rest t free (inr (inl p)) = absurd (still_holding t free p)
    at_rest t free (inr (inr p)) = inr p

    -- after a run nobody holds a box, and either nothing is found or nothing is wanted
    pub after_run : (most : ℕ) (t : BoardState) → IsSound (start region case.plan.olds 1) → Explores case 0 most (start region case.plan.olds 1) t → IsResting t ⊎ HasFound t
    after_run most t sound h =
        let begin = start region case.plan.olds 1 in
        let first : Phase begin = inl (record { places = Open ∷ []; good = good_start case region sound; is = refl }) in
        at_rest t h.free (subst Phase h.leads (phase_all begin h.events h.own h.allowed h.lean first))
