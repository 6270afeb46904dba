-- The inequalities of a goal are the last ones of a row's system, and each has one variable.
use Rattle.std.proofs.Common.{◌≡◌, ◌∙◌, ap, sym, subst, refl, arith, ℕ, suc, ◌+◌, ◌-◌, ◌*◌, ◌^◌, ◌<◌, ◌≤◌, false, List, [], ◌∷◌, ◌++◌, length, get_or, is_some}
use Rattle.std.specs.declared.option.Option.{Option}
use Rattle.std.specs.declared.option.Option.TheVariants.{Some, None}
use Rattle.std.specs.List.{AllByRecursion, count_by}
use Rattle.std.proofs.lemmas.List.{get_or-append_right, length-append}
use Rattle.qf_base.specs.declared.names.RowName.{RowName}
use Rattle.qf_base.specs.Values.{Bounds}
use Rattle.qf_lin.specs.declared.inequality.Inequality.{Inequality}
use Rattle.qf_lin.specs.declared.inequality.System.{System}
use Rattle.qf_circuit.specs.Circuits.{hull_of}
use Rattle.qf_rows.specs.Encoding.{rows_of}
use Rattle.qf_ir.specs.declared.cell.Cell.{Cell}
use Rattle.qf_ir.specs.declared.cell.Goal.{Goal}
use Rattle.qf_ir.specs.declared.cell.Goal.TheVariants as goal
use Rattle.qf_ir.specs.Plan.{RowExists}
use Rattle.qf_goal.specs.Case.{Case, goal_at}
use Rattle.qf_goal.specs.SoundCase.{IsSoundCase}
use Rattle.qf_board.proofs.Lists.{all_append, all_at}
use Rattle.qf_board.proofs.BoardLaws.{count_by-cons}
use Rattle.qf_encode.specs.declared.coded.Coded.{Coded}
use Rattle.qf_encode.specs.Systems.{cell_rows, cells_rows, goal_rows}
use Rattle.qf_system.specs.SystemsMade.{SuitsColumns}
use Rattle.qf_instance.specs.declared.row.RowSystem.{RowSystem}
use Rattle.qf_instance.specs.RowSystems.{IsRowSystem}
use Rattle.qf_instance.proofs.Goals.{goal_suits}
use Rattle.qf_search.specs.Closing.{is_violated, no_row, row_at, AreSingle, NoneViolated, goal_size}
use Rattle.qf_search.specs.Deciding.{IsOpenFor}

-- ---- how many there are

cells_size : (vs : List ℕ) (wanted : List (Option Cell)) → length vs ≡ length wanted → length (cells_rows vs wanted) ≡ 2 * count_by is_some wanted
cells_size [] [] e = refl
cells_size [] (w ∷ wanted) e = absurd (omega (arith, e))
cells_size (v ∷ vs) [] e = absurd (omega (arith, e))
cells_size (v ∷ vs) (None ∷ wanted) e = omega (arith, cells_size vs wanted (omega (arith, e)), count_by-cons is_some None wanted)
cells_size (v ∷ vs) (Some c ∷ wanted) e = omega (arith, cells_size vs wanted (omega (arith, e)), count_by-cons is_some (Some c) wanted)

pub goal_long : (c : Coded) (g : Goal) → SuitsColumns c.columns g → length (goal_rows c g) ≡ goal_size g
goal_long c goal.Gone suits = refl
goal_long c (goal.There wanted) suits = omega (arith, cells_size c.columns wanted (omega (arith, suits.0)))

-- ---- one variable each

abbrev IsSingle : Inequality → Type 0
IsSingle row = length row.terms ≡ 1

cell_single : (v : ℕ) (w : Option Cell) → AllByRecursion IsSingle (cell_rows v w)
cell_single v None = tt
cell_single v (Some c) = (refl, (refl, tt))

cells_single : (vs : List ℕ) (wanted : List (Option Cell)) → AllByRecursion IsSingle (cells_rows vs wanted)
cells_single [] wanted = tt
cells_single (v ∷ vs) [] = tt
cells_single (v ∷ vs) (w ∷ wanted) = all_append IsSingle (cell_rows v w) (cells_rows vs wanted) (cell_single v w) (cells_single vs wanted)

goal_single : (c : Coded) (g : Goal) → AllByRecursion IsSingle (goal_rows c g)
goal_single c goal.Gone = (refl, tt)
goal_single c (goal.There wanted) = (refl, cells_single c.columns wanted)

-- ---- they are the last ones

pub all_from : {X : Type 0} (P : X → Type 0) (xs : List X) (d : X) → ((k : ℕ) → k < length xs → P (get_or xs k d)) → AllByRecursion P xs
all_from P [] d h = tt
all_from P (x ∷ xs) d h = (h 0 (omega arith), all_from P xs d (λ k inside. h (suc k) (omega (arith, inside))))

module _ (case : Case) (root : Bounds) (row : RowName) (made : RowSystem) (sound : IsSoundCase case) (exists : RowExists case.plan row) (is : IsRowSystem case root row made) where
  abbrev before : List Inequality
  before = rows_of (hull_of root made.coded.circuit) made.coded.circuit

  abbrev last : List Inequality
  last = goal_rows made.coded (goal_at case row)

  abbrev all : List Inequality
  all = made.system.inequalities

  parts : all ≡ before ++ last
  parts = ap (λ (s : System). s.inequalities) is.system

  size : length last ≡ goal_size (goal_at case row)
  size = goal_long made.coded (goal_at case row) (goal_suits case row made.coded sound exists is.coded)

  many : length all ≡ length before + goal_size (goal_at case row)
  many = omega (arith, ap (λ (rows : List Inequality). length rows) parts, length-append before last, size)

  pub goal_within : goal_size (goal_at case row) ≤ length all
  goal_within = omega (arith, many)

  pub goal_few : goal_size (goal_at case row) < 2 ^ 32
  goal_few = omega (arith, goal_within, is.well_formed.few)

  abbrev first : ℕ
  first = length all - goal_size (goal_at case row)

  first_is : first ≡ length before
  first_is = omega (arith, many)

  at_place : (place : ℕ) → first ≤ place → row_at all place ≡ row_at last (place - length before)
  at_place place after = ap (λ (rows : List Inequality). row_at rows place) parts ∙ get_or-append_right before last (length before) place no_row refl (omega (arith, after, first_is))

  pub goal_singles : AreSingle first all
  goal_singles place after inside =
      subst IsSingle (sym (at_place place after))
      (all_at IsSingle last (place - length before) no_row (goal_single made.coded (goal_at case row)) (omega (arith, inside, after, many, first_is, size)))

  pub open_for : (region : Bounds) → NoneViolated first all (hull_of region made.coded.circuit) → IsOpenFor case region row
  open_for region none = record {
    coded = made.coded;
    is = is.coded;
    holds = all_from (λ (r : Inequality). is_violated (hull_of region made.coded.circuit) r ≡ false) last no_row (λ k inside.
        let there : k + length before < length all = omega (arith, inside, many, size) in
        let same = at_place (k + length before) (omega (arith, first_is)) in
        let back : k + length before - length before ≡ k = omega arith in
        ap (λ (n : ℕ). is_violated (hull_of region made.coded.circuit) (row_at last n)) (sym back)
        ∙ (ap (is_violated (hull_of region made.coded.circuit)) (sym same) ∙ none (k + length before) (omega (arith, first_is)) there));
  }
