-- A turn of an explorer: a box is taken, and one event ends the holding.
use Rattle.std.proofs.Common.{◌≡◌, ◌∙◌, ap, sym, subst, refl, arith, ℕ, ◌+◌, ◌-◌, ◌<◌, ◌≤◌, ℤ, false, true, is_none, List, [], ◌∷◌, Result, Ok, Err, OnErr}
use Rattle.std.specs.declared.option.Option.TheVariants.{Some, None}
use Rattle.std.specs.Option.{option_map}
use Rattle.std.proofs.lemmas.Bool.{false≢true}
use Rattle.qf_base.specs.declared.names.RowName.{RowName}
use Rattle.qf_base.specs.Values.{Bounds}
use Rattle.qf_point.specs.Points.{cheapest, CanCut}
use Rattle.qf_goal.specs.Case.{Case, Mends, misses, first_failing}
use Rattle.qf_goal.specs.SoundCase.{IsSoundCase}
use Rattle.qf_goal.proofs.KeptLemmas.{none-failing}
use Rattle.qf_slice.specs.RootBox.{IsRootBox}
use Rattle.qf_slice.proofs.Slices.{root-boxes-equal}
use Rattle.qf_encode.specs.Lives.{BoxIn}
use Rattle.qf_board.specs.Boards.{BoardState, Split, Refuted, Open, Box, box_at, best_box, best_place, HoldsNone, Holds, Take, Refute, Cut, Found, GiveBack, after, put_at, CanHappen, node_count}
use Rattle.qf_board.specs.Sound.{IsSound}
use Rattle.qf_search.specs.declared.deciding.Decision.{Decision}
use Rattle.qf_search.specs.declared.deciding.Decision.TheVariants as decision
use Rattle.qf_search.specs.Standing.{RefutesFor, StandsFor}
use Rattle.qf_search.specs.Exploring.{IsNotClosable, Explores, has_wanted, IsLeft, IsSpent}
use Rattle.qf_search.specs.Deciding.{IsDecided, event_of, HoldsBox, IsTaken, IsTreated, IsOver, IsWorked}
use Rattle.qf_search.proofs.Repairs.{stands_sound}
use Rattle.qf_search.proofs.BoardSteps.{taken, take_is, held, no_node, box_kept, refuted_is, cut_is, given_back_is, found_is, none_wanted, box_placed, none_taken}
use Rattle.qf_search.proofs.Explorations.{explores_none, explores_more, given_back, found, refuted, was_cut, goes_on, frame_of}
use Rattle.qf_search.proofs.BoxesIn.{best_in}

-- no box is handed out
pub over_none : (case : Case) (who : ℕ) (s t : BoardState) → HoldsNone s who → best_box s ≡ None → has_wanted s ≡ false → t ≡ after s (Take who) → IsOver case who s t
over_none case who s t free none wanted is =
    let same : s ≡ t = sym (is ∙ none_taken s who none) in
    subst (IsOver case who s) same (record { run = explores_none case who 0 s free; wanted = wanted })

pub handed_by : (case : Case) (who : ℕ) (s t : BoardState) (region : Box) (row : RowName) → IsTaken case who s t region row → best_box s ≡ Some region
handed_by case who s t region row h = ap (option_map (box_at s)) h.best ∙ ap (λ (b : Box). Some b) h.box

pub can_carry : (case : Case) (s : BoardState) (who : ℕ) (region : Box) (point : List ℤ) (row : RowName) (d : Decision) → HoldsBox s who region → IsDecided case region point d → CanHappen s (event_of who row d)
can_carry case s who region point row (decision.Refute refuted steps) h decided = (h.place, h.holds)
can_carry case s who region point row (decision.Cut param cut) h decided =
    (h.place, h.holds, decided.0, subst (λ (b : Box). CanCut b (param - 1) cut) (sym h.box) decided.1.0)

pub holds : (s : BoardState) (who : ℕ) (region : Box) → HoldsBox s who region → Holds s who
holds s who region h = (h.place, h.holds)

module _ (case : Case) (sound_case : IsSoundCase case) (s : BoardState) (stands : StandsFor case s) (who : ℕ) (one : who < s.explorers) (free : HoldsNone s who) (region : Box) (handed : best_box s ≡ Some region) (t : BoardState) (is : t ≡ after s (Take who)) where
  abbrev sound : IsSound s
  sound = stands_sound case s sound_case stands

  abbrev k : ℕ
  k = (box_placed s region handed).0

  abbrev best : best_place s ≡ Some k
  best = (box_placed s region handed).1

  box : box_at s k ≡ region
  box = (box_placed s region handed).2

  t_is : t ≡ taken s who k best
  t_is = is ∙ take_is s who k best

  key_is : cheapest s.prices (box_at s k) ≡ cheapest case.plan.olds region
  key_is = ap (λ (b : Box). cheapest s.prices b) box ∙ ap (λ (olds : List ℤ). cheapest olds region) stands.olds

  pub holds_box : HoldsBox t who region
  holds_box = subst (λ (r : BoardState). HoldsBox r who region) (sym t_is) (record { place = k; holds = held s who k best free; box = box_kept s who k best free sound ∙ box })

  pub inside : (root : Bounds) → IsRootBox case root → BoxIn region root
  inside root is_root =
      let at_root = subst (λ (r : Bounds). BoxIn s.root r) (root-boxes-equal case stands.root root stands.is_root is_root) stands.inside in
      subst (λ (b : Box). BoxIn b root) box (best_in root s k sound at_root best)

  pub is_taken : (row : RowName) → Some row ≡ first_failing case (cheapest case.plan.olds region) → IsTaken case who s t region row
  is_taken row failing = record { place = k; best = best; box = box; taken = is; failing = sym failing }

  pub over_found : Mends case (cheapest case.plan.olds region) → (u : BoardState) → u ≡ after t (Found who) → IsOver case who s u
  over_found mends u u_is =
      let mended = subst (Mends case) (sym key_is) mends in
      let same : record s { best = Some (cheapest s.prices (box_at s k)) } ≡ u = sym (u_is ∙ (ap (λ (r : BoardState). after r (Found who)) t_is ∙ found_is s who k best free sound)) in
      subst (IsOver case who s) same (record { run = found case s who k best sound one free 0 mended; wanted = none_wanted s who k best free sound })

  pub given_is : (r u : BoardState) → r ≡ t → u ≡ after r (GiveBack who) → u ≡ s
  given_is r u r_is u_is = u_is ∙ (ap (λ (x : BoardState). after x (GiveBack who)) (r_is ∙ t_is) ∙ given_back_is s who k best free)

  pub gave : (r u : BoardState) → r ≡ t → u ≡ after r (GiveBack who) → Explores case who 0 s u
  gave r u r_is u_is = subst (λ (x : BoardState). Explores case who 0 s x) (sym (given_is r u r_is u_is)) (given_back case s who k best sound one free 0)

  -- the box is given back, and its cheapest point does not repair
  pub left : (row : RowName) → first_failing case (cheapest case.plan.olds region) ≡ Some row → (u : BoardState) → u ≡ after t (GiveBack who) → IsLeft case u
  left row failing u u_is =
      let fails : Mends case (cheapest s.prices region) → ⊥ =
      λ mends.
      let here = subst (λ (olds : List ℤ). Mends case (cheapest olds region)) stands.olds mends in
      false≢true (sym (ap is_none failing) ∙ (sym (none-failing case (cheapest case.plan.olds region)) ∙ here))
      in
      subst (IsLeft case) (sym (given_is t u refl u_is)) (record { box = region; best = handed; fails = fails })

  pub worked : (row : RowName) → first_failing case (cheapest case.plan.olds region) ≡ Some row → (u : BoardState) → IsTreated case who region row t u → IsWorked case who s u
  worked row failing u h = by h.decision h.decided h.happened
    where
      by : (d : Decision) → IsDecided case region (cheapest case.plan.olds region) d → u ≡ after t (event_of who row d) → IsWorked case who s u
      by (decision.Refute r steps) decided happened =
          let run = refuted case s who k best sound one free r steps (subst (λ (b : Box). RefutesFor case b r steps) (sym box) decided.0.0) decided.0.1 (subst (λ (p : List ℤ). misses case p r ≡ true) (sym key_is) decided.1) in
          let same : put_at s k (Refuted r steps ∷ []) ≡ u = sym (happened ∙ (ap (λ (x : BoardState). after x (Refute who r steps)) t_is ∙ refuted_is s who k best free r steps)) in
          subst (IsWorked case who s) same (record { run = run; added = no_node s who k best (Refuted r steps ∷ []) 1 refl ∙ omega arith })
      by (decision.Cut param cut) decided happened =
          let run = was_cut case s who k best sound one free param cut row decided.0 (subst (λ (b : Box). CanCut b (param - 1) cut) (sym box) decided.1.0) decided.1.1.0 (ap (first_failing case) key_is ∙ failing) (subst (IsNotClosable case) (sym box) decided.1.1.1) in
          let same : put_at s k (Split param cut row ∷ Open ∷ Open ∷ []) ≡ u = sym (happened ∙ (ap (λ (x : BoardState). after x (Cut who param cut row)) t_is ∙ cut_is s who k best free param cut row)) in
          subst (IsWorked case who s) same (record { run = run; added = no_node s who k best (Split param cut row ∷ Open ∷ Open ∷ []) 1 refl ∙ omega arith })

-- ---- turn after turn

-- so many nodes were added so far
pub record IsRun (case : Case) (who count : ℕ) (s t : BoardState) : Type 0 where
  pub run : Explores case who count s t
  pub added : node_count t ≡ node_count s + count

pub run_none : (case : Case) (who : ℕ) (s : BoardState) → HoldsNone s who → IsRun case who 0 s s
run_none case who s free = record { run = explores_none case who 0 s free; added = omega arith }

pub run_more : (case : Case) (who count : ℕ) (s t u : BoardState) → IsRun case who count s t → IsWorked case who t u → IsRun case who (count + 1) s u
run_more case who count s t u h k = record {
  run = explores_more case who count 1 (count + 1) s t u (omega arith) h.run k.run;
  added = omega (arith, h.added, k.added);
}

-- what the next turn needs
pub run_stands : (case : Case) (who count : ℕ) (s t : BoardState) → StandsFor case s → IsRun case who count s t → StandsFor case t
run_stands case who count s t stands h = goes_on case who count s t stands h.run

pub run_one : (case : Case) (who count : ℕ) (s t : BoardState) → who < s.explorers → IsRun case who count s t → who < t.explorers
run_one case who count s t one h = omega (arith, one, (frame_of case who count s t h.run).2)

pub run_ends : (case : Case) (who count most : ℕ) (s t u : BoardState) → count ≤ most → IsRun case who count s t → Explores case who 0 t u → Explores case who most s u
run_ends case who count most s t u few h k = explores_more case who count 0 most s t u (omega (arith, few)) h.run k

pub run_spent : (case : Case) (who most : ℕ) (s t u : BoardState) → IsRun case who most s t → Explores case who 0 t u → IsLeft case u → IsSpent case most s u
run_spent case who most s t u h k left =
    record { added = omega (arith, h.added, k.added, k.few); left = left }

-- what stands whatever the error is
pub on_any_err : {T E : Type 0} (r : Result T E) (P : Type 0) → P → OnErr r P
on_any_err (Ok x) P h = tt
on_any_err (Err e) P h = h
