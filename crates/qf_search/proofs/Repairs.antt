-- What stands of the repairs on a board that stands for a problem.
use Rattle.std.proofs.Common.{refl, ◌≡◌, ◌≤ℤ◌, ◌∙◌, ap, sym, subst, ℤ, pos, true, List, length, MatchOption, arith}
use Rattle.std.proofs.lemmas.List.Elements.{All-from_get_or}
use Rattle.std.specs.declared.option.Option.{Option}
use Rattle.std.specs.declared.option.Option.TheVariants.{Some, None}
use Rattle.qf_base.specs.Values.{Bounds, In, IsWithin}
use Rattle.qf_base.proofs.BoxLaws.{length-In, IsWithin-In}
use Rattle.qf_point.specs.Points.{HasNoEmpty}
use Rattle.qf_point.specs.Least.{IsAnswer}
use Rattle.qf_goal.specs.Case.{Case, Mends, IsLeastRepair, HasNoRepair}
use Rattle.qf_goal.specs.SoundCase.{IsSoundCase}
use Rattle.qf_slice.specs.RootBox.{IsRootBox}
use Rattle.qf_slice.proofs.Slices.{root-boxes-equal}
use Rattle.qf_slice.proofs.Slicing.{has-the-least, misses-none}
use Rattle.qf_tree.specs.Certificates.{Instance}
use Rattle.qf_tree.proofs.Soundness.{refutes_sound}
use Rattle.qf_encode.specs.Lives.{BoxIn}
use Rattle.qf_instance.proofs.Boxes.{boxes_hold}
use Rattle.qf_instance.proofs.Encoded.{faithful}
use Rattle.qf_board.specs.Boards.{BoardState, start, has_ended}
use Rattle.qf_board.specs.Sound.{IsSound}
use Rattle.qf_board.specs.Allowed.{IsTruthful, IsLeftIn}
use Rattle.qf_board.proofs.BoardLaws.{sound_start}
use Rattle.qf_board.specs.Laws.{StepsAreSound}
use Rattle.qf_board.proofs.Truth.{kept_by_all, no_repair_lost, answer_after, answer_once}
use Rattle.qf_search.specs.Standing.{RefutesFor, StandsFor}
use Rattle.qf_search.specs.Laws.{BoardsKeepRepairs, EndedBoardsAnswer, EndedBoardsHaveTheLeastRepair, EndedBoardsAreAlike}

-- ---- steps that refute a box leave no repair in it that lies in the root box

pub steps_sound : (case : Case) (root region : Bounds) → IsSoundCase case → IsRootBox case root → BoxIn region root → StepsAreSound (Mends case) (RefutesFor case) region
steps_sound case root region sound is box b row steps h q in_region inside mends =
    let inst = h.0 in
    let same : root ≡ inst.root = root-boxes-equal case root inst.root is h.1.root in
    let mended : inst.repairs q ≡ true = ap (λ (i : Instance). i.repairs q) h.1.is ∙ mends in
    let in_root = boxes_hold region root box q (IsWithin-In region q in_region) in
    let values = (faithful case inst sound h.1).encoded row b q h.2.0 (subst (IsWithin q) same in_root) (IsWithin-In b q inside) mended in
    refutes_sound h.2.1 values.0 values.1 values.2

-- ---- a box in the root box

pub box_spans : (region root : Bounds) → BoxIn region root → HasNoEmpty region
box_spans region root box = All-from_get_or (λ (r : ℤ × ℤ). r.0 ≤ℤ r.1) region (pos 0, pos 0) (λ place inside. (box.each place (omega (arith, inside, box.same_length))).1.0)

pub box_long : (case : Case) (root region : Bounds) → IsSoundCase case → IsRootBox case root → BoxIn region root → length case.plan.olds ≡ length region
box_long case root region sound is box = omega (arith, length-In case.domains.region case.plan.olds sound.inside, is.len, box.same_length)

-- ---- boards that stand for a problem

module _ (case : Case) (s : BoardState) (sound : IsSoundCase case) (stands : StandsFor case s) where
  abbrev begin : BoardState
  begin = start s.root s.prices s.explorers

  priced : length s.prices ≡ length s.root
  priced = ap length stands.olds ∙ box_long case stands.root s.root sound stands.is_root stands.inside

  spans : HasNoEmpty s.root
  spans = box_spans s.root stands.root stands.inside

  steps : StepsAreSound (Mends case) (RefutesFor case) s.root
  steps = steps_sound case stands.root s.root sound stands.is_root stands.inside

  pub stands_sound : IsSound s
  stands_sound = subst IsSound stands.leads (kept_by_all (Mends case) (RefutesFor case) s.root steps begin stands.events refl stands.allowed (sound_start s.root s.prices s.explorers priced spans) (record { refuted = (tt, tt); found = tt })).0

  pub keeps_repairs : IsTruthful (Mends case) s × ((q : List ℤ) → In s.root q → Mends case q → IsLeftIn s q)
  keeps_repairs =
      let kept = no_repair_lost (Mends case) (RefutesFor case) s.root steps s.prices s.explorers stands.events priced spans stands.allowed in
      (subst (IsTruthful (Mends case)) stands.leads kept.0, λ q inside mends. subst (λ t. IsLeftIn t q) stands.leads (kept.1 q inside mends))

  pub ended_answers : has_ended s ≡ true → IsAnswer (Mends case) s.root case.plan.olds s.best
  ended_answers ended =
      let said = answer_after (Mends case) (RefutesFor case) s.root steps s.prices s.explorers stands.events priced spans stands.allowed (ap has_ended stands.leads ∙ ended) in
      subst (λ (olds : List ℤ). IsAnswer (Mends case) s.root olds s.best) stands.olds (subst (λ (t : BoardState). IsAnswer (Mends case) s.root s.prices t.best) stands.leads said)

pub keep_repairs : BoardsKeepRepairs
keep_repairs case s sound stands = keeps_repairs case s sound stands

pub answer : EndedBoardsAnswer
answer case s sound stands ended = ended_answers case s sound stands ended

least_by : (case : Case) (root : Bounds) (best : Option (List ℤ)) → IsSoundCase case → IsRootBox case root → IsAnswer (Mends case) root case.plan.olds best → MatchOption best (HasNoRepair case) (λ p. IsLeastRepair case p)
least_by case root None sound is h = (misses-none case root sound is).0 h
least_by case root (Some p) sound is h = (has-the-least case root sound is p).0 h

pub have_the_least : EndedBoardsHaveTheLeastRepair
have_the_least case s sound stands ended is = least_by case s.root s.best sound is (answer case s sound stands ended)

pub are_alike : EndedBoardsAreAlike
are_alike case s t sound stands stands' same ended ended' =
    answer_once (Mends case) s.root case.plan.olds s.best t.best (answer case s sound stands ended)
    (subst (λ (r : Bounds). IsAnswer (Mends case) r case.plan.olds t.best) (sym same) (answer case t sound stands' ended'))
