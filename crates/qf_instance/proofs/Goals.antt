-- The goal of a row has one entry for each column, free or within 2^50 in size.
use Rattle.std.proofs.Common.{◌≡◌, ◌∙◌, ap, sym, subst, refl, ℕ, zero, suc, ◌+◌, ◌<◌, ◌≤◌, ◌^◌, ◌==◌, Bool, true, false, unsigned_abs, ℤ, List, [], ◌∷◌, length, map, if◌then◌else◌, arith}
use Rattle.std.specs.declared.option.Option.{Option}
use Rattle.std.specs.declared.option.Option.TheVariants.{Some, None}
use Rattle.std.specs.List.{AllByRecursion}
use Rattle.std.proofs.lemmas.Int.{ints}
use Rattle.std.proofs.lemmas.List.{length-map}
use Rattle.std.proofs.lemmas.List.Elements.{All-from_recursion}
use Rattle.qf_base.specs.declared.names.RowName.{RowName}
use Rattle.qf_ir.specs.declared.cell.Ask.{Ask}
use Rattle.qf_ir.specs.declared.cell.Ask.TheVariants.{Absent, Present}
use Rattle.qf_ir.specs.declared.cell.Cell.{Cell}
use Rattle.qf_ir.specs.declared.cell.Cell.TheVariants.{Int, Text}
use Rattle.qf_ir.specs.declared.cell.Outcome.{Outcome}
use Rattle.qf_ir.specs.declared.cell.Outcome.TheVariants as outcome
use Rattle.qf_ir.specs.declared.table.ColumnKind.{ColumnKind}
use Rattle.qf_ir.specs.declared.table.ColumnKind.TheVariants as kind
use Rattle.qf_ir.specs.Value.{Cells, number_of}
use Rattle.qf_ir.specs.Life.{Birth, last_moment, ending_of, birth}
use Rattle.qf_ir.specs.Plan.{Plan, RowExists, final_outcome}
use Rattle.qf_ir.specs.Goals.{old_cell, listed_or, asked_cells, goal_of, ask_for}
use Rattle.qf_ir.specs.Replay.{same_row}
use Rattle.qf_ir.specs.Tables.{CellIs}
use Rattle.qf_ir.proofs.WidthLaws.{point_held}
use Rattle.qf_goal.specs.Case.{Case, goal_at}
use Rattle.qf_goal.specs.SoundCase.{IsListed, IsAskOf, IsSoundCase}
use Rattle.qf_encode.specs.declared.coded.Coded.{Coded}
use Rattle.qf_encode.specs.Lives.{CodesOutcome}
use Rattle.qf_encode.proofs.Outcomes.{plan_names, plan_outcomes}
use Rattle.qf_system.specs.SystemsMade.{IsPlainCell, SuitsColumns}
use Rattle.qf_system.proofs.SoundLogs.{sound_plain}
use Rattle.qf_instance.specs.Instances.{case_circuit}
use Rattle.qf_instance.proofs.Cells.{ArePlain, EndsPlain, ends_plain}
use Rattle.qf_instance.proofs.Encoded.{outcome_is}

abbrev pub IsPlainOutcome : Outcome → Type 0
IsPlainOutcome outcome.Gone = Unit {0}
IsPlainOutcome (outcome.There cells) = ArePlain cells

ending_plain : (live : Bool) (cells : Cells) → ArePlain cells → IsPlainOutcome (if live then outcome.There cells else outcome.Gone)
ending_plain true cells h = h
ending_plain false cells h = tt

birth_plain : (point : List ℤ) (b : Option Birth) → EndsPlain point b → IsPlainOutcome (ending_of b point)
birth_plain point None h = tt
birth_plain point (Some b) h = let m = last_moment point b.rest b.first in ending_plain m.live m.cells h

old_plain : (case : Case) (row : RowName) → IsSoundCase case → RowExists case.plan row → IsPlainOutcome (final_outcome case.plan case.table row case.plan.olds)
old_plain case row sound exists =
    let plan = case.plan in
    let table = case.table in
    let log = sound_plain plan table sound.plan sound.table sound.belongs in
    let born = birth (length plan.columns) table.rows plan.statements row plan.olds in
    let plain = ends_plain (length plan.columns) table.rows plan.statements case.domains.region sound.fits.0 sound.belongs.rows log.cells sound.fits.1 plan.olds (point_held case.domains.region plan.olds sound.inside) row in
    subst IsPlainOutcome (sym (outcome_is plan table row plan.olds exists)) (birth_plain plan.olds born plain)

-- ---- what is asked

cell_plain : (k : ColumnKind) (texts : ℕ) (cell : Cell) → texts < 2 ^ 32 → CellIs k texts cell → unsigned_abs (number_of cell) ≤ 2 ^ 50
cell_plain kind.Int texts (Int z) few h = omega (arith, ints, h.low, h.high)
cell_plain kind.Int texts (Text code) few h = absurd h
cell_plain kind.Text texts (Int z) few h = absurd h
cell_plain kind.Text texts (Text code) few h = omega (arith, ints, h, few)

ask_sound : (plan : Plan) (asks : List (RowName × Ask)) (row : RowName) (ask : Ask) → AllByRecursion (λ (a : RowName × Ask). IsAskOf plan a.1) asks → ask_for asks row ≡ Some ask → IsAskOf plan ask
ask_sound plan [] row ask h e = absurd (cc)
ask_sound plan (a ∷ asks) row ask h e = by (same_row a.0 row) e (λ later. ask_sound plan asks row ask h.1 later)
  where
    by : (b : Bool) → (if b then Some a.1 else ask_for asks row) ≡ Some ask → (ask_for asks row ≡ Some ask → IsAskOf plan ask) → IsAskOf plan ask
    by true e later = let same : a.1 ≡ ask = cc in subst (IsAskOf plan) same h.0
    by false e later = later e

module _ (plan : Plan) (few : length plan.texts < 2 ^ 32) where
  listed_plain : (listed : List (ℕ × Cell)) (column : ℕ) (other : Option Cell) → AllByRecursion (IsListed plan) listed → IsPlainCell other → IsPlainCell (listed_or listed column other)
  listed_plain [] column other h plain = plain
  listed_plain (l ∷ listed) column other h plain = by (l.0 == column) (listed_plain listed column other h.1 plain)
    where
      by : (b : Bool) → IsPlainCell (listed_or listed column other) → IsPlainCell (if b then Some l.1 else listed_or listed column other)
      by true later = cell_plain h.0.column.kind (length plan.texts) l.1 few h.0.cell
      by false later = later

  old_cell_plain : (old : Outcome) (column : ℕ) → IsPlainOutcome old → IsPlainCell (old_cell old column)
  old_cell_plain outcome.Gone column h = tt
  old_cell_plain (outcome.There cells) column h = h column

  asked_plain : (first n : ℕ) (listed : List (ℕ × Cell)) (old : Outcome) → AllByRecursion (IsListed plan) listed → IsPlainOutcome old → AllByRecursion IsPlainCell (asked_cells first n listed old)
  asked_plain first zero listed old h plain = tt
  asked_plain first (suc n) listed old h plain =
      (listed_plain listed first (old_cell old first) h (old_cell_plain old first plain), asked_plain (first + 1) n listed old h plain)

asked_long : (first n : ℕ) (listed : List (ℕ × Cell)) (old : Outcome) → length (asked_cells first n listed old) ≡ n
asked_long first zero listed old = refl
asked_long first (suc n) listed old = ap suc (asked_long (first + 1) n listed old)

-- ---- what is kept

kept_plain : (cells : Cells) → ArePlain cells → AllByRecursion IsPlainCell (map (λ c. Some c) cells)
kept_plain [] h = tt
kept_plain (c ∷ cells) h = (h 0, kept_plain cells (λ column. h (suc column)))

-- ---- a row's goal

goal_suits_by : (plan : Plan) (width : ℕ) (columns : List ℕ) (ask : Option Ask) (old : Outcome) → length plan.texts < 2 ^ 32 → length columns ≡ width → IsPlainOutcome old
    → ((cells : Cells) → old ≡ outcome.There cells → length columns ≡ length cells) → ((a : Ask) → ask ≡ Some a → IsAskOf plan a) → SuitsColumns columns (goal_of width ask old)
goal_suits_by plan width columns None outcome.Gone few wide plain long asked = tt
goal_suits_by plan width columns None (outcome.There cells) few wide plain long asked = (
  length-map cells (λ (c : Cell). Some c) ∙ sym (long cells refl),
  All-from_recursion IsPlainCell (map (λ c. Some c) cells) (kept_plain cells plain),
)
goal_suits_by plan width columns (Some Absent) old few wide plain long asked = tt
goal_suits_by plan width columns (Some (Present listed)) old few wide plain long asked = (
  asked_long 0 width listed old ∙ sym wide,
  All-from_recursion IsPlainCell (asked_cells 0 width listed old) (asked_plain plan few 0 width listed old (asked (Present listed) refl) plain),
)

there_long : (point : List ℤ) (c : Coded) (old : Outcome) (cells : Cells) → CodesOutcome point c old → old ≡ outcome.There cells → length c.columns ≡ length cells
there_long point c outcome.Gone cells h e = absurd (cc)
there_long point c (outcome.There others) cells h e = let same : others ≡ cells = cc in h.1.0 ∙ ap length same

pub goal_suits : (case : Case) (row : RowName) (c : Coded) → IsSoundCase case → RowExists case.plan row → case_circuit case row ≡ Some c → SuitsColumns c.columns (goal_at case row)
goal_suits case row c sound exists e =
    let plan = case.plan in
    let old = final_outcome plan case.table row plan.olds in
    let names = plan_names plan case.table row c sound.plan sound.belongs e in
    let codes = plan_outcomes plan case.table row c plan.olds sound.plan sound.belongs exists e in
    goal_suits_by plan (length plan.columns) c.columns (ask_for case.asks row) old sound.plan.few_texts names.columns (old_plain case row sound exists)
    (λ cells there. there_long plan.olds c old cells codes there)
    (λ a asked. ask_sound plan case.asks row a sound.asks.cells asked)
