-- A row's end and its premise, as the code finds them.
use Rattle.std.specs.Prelude.{◌≡◌, ℕ, ◌-◌, ◌≤◌, true, List, length, slice_get}
use Rattle.std.specs.declared.option.Option.{Option}
use Rattle.std.specs.declared.option.Option.TheVariants.{Some, None}
use Rattle.std.proofs.Common.{ap, sym, ◌∙◌, subst}
use Rattle.qf_base.specs.declared.names.RowName.TheVariants.{Start, Inserted}
use Rattle.qf_ir.specs.declared.ast.Statement.{Statement}
use Rattle.qf_ir.specs.declared.table.Table.{Table}
use Rattle.qf_ir.specs.Value.{Cells, Values}
use Rattle.qf_ir.specs.Life.{Birth, last_moment, ending, born_or, inserted_birth, ending_of}
use Rattle.qf_ir.specs.Fits.{LifeFits, BirthFits, InsertsFit}
use Rattle.qf_ir.specs.Plan.{Plan, Belongs, FitsAt, final_outcome}
use Rattle.qf_ir.proofs.WidthLaws.{fits-birth, fits-inserts, fits-starts, fits-inserted}
use Rattle.qf_ir.proofs.History.{outcome-start, outcome-inserted, replayed-survivors}
use Rattle.qf_ir.specs.Replay.{Row, named_rows}
use Rattle.qf_ir.specs.Life.{survivors, inserted_survivors}
use Rattle.qf_ir.specs.Fits.{LivesFit, InsertedFit}
use Rattle.qf_ir.specs.Plan.{final_rows}
use Rattle.qf_replay.specs.BirthPlaces.{births_of, birth_at}
use Rattle.qf_replay.proofs.BirthSteps.{birth-is}
use Rattle.std.specs.Prelude.{[], ◌++◌}

module _ (plan : Plan) (table : Table) (point : Values) (k : ℕ) (statements : List Statement) (same : statements ≡ plan.statements) where
  pub start_fits : Belongs plan table → FitsAt plan table point → (first cells : Cells) → slice_get table.rows (k - 1) ≡ Some first → cells ≡ first
      → LifeFits statements (record { cells = cells; live = true }) point
  start_fits belongs fits first cells got is =
      let P : Option Cells → Type 0 = λ found. BirthFits (born_or found plan.statements None) point in
      let whole = subst P got (fits-birth plan table point belongs fits (Start k)) in
      let Q : Cells → Type 0 = λ xs. LifeFits plan.statements (record { cells = xs; live = true }) point in
      let R : List Statement → Type 0 = λ ss. LifeFits ss (record { cells = cells; live = true }) point in
      subst R (sym same) (subst Q (sym is) whole)

  pub start_ends : 1 ≤ k → (first cells : Cells) → slice_get table.rows (k - 1) ≡ Some first → cells ≡ first
      → ending (last_moment point statements (record { cells = cells; live = true })) ≡ final_outcome plan table (Start k) point
  start_ends exists first cells got is =
      ap (λ ss. ending (last_moment point ss (record { cells = cells; live = true }))) same
      ∙ ap (λ xs. ending (last_moment point plan.statements (record { cells = xs; live = true }))) is
      ∙ sym (outcome-start (length plan.columns) table.rows plan.statements k point exists ∙ ap (λ found. ending_of (born_or found plan.statements None) point) got)

  pub items_fit : FitsAt plan table point → InsertsFit statements point
  items_fit fits = let R : List Statement → Type 0 = λ ss. InsertsFit ss point in subst R (sym same) (fits-inserts plan table point fits)

  module _ (width : ℕ) (is_width : width ≡ length plan.columns) (birth : ℕ × ℕ) (found : slice_get (births_of plan.statements) (k - 1) ≡ Some birth) where
    pub born_fits : Belongs plan table → FitsAt plan table point → BirthFits (birth_at width point statements birth.0 birth.1) point
    born_fits belongs fits =
        let R : List Statement → Type 0 = λ ss. BirthFits (birth_at width point ss birth.0 birth.1) point in
        let B : Option Birth → Type 0 = λ b. BirthFits b point in
        let W : ℕ → Type 0 = λ w. BirthFits (inserted_birth w point plan.statements (k - 1)) point in
        subst R (sym same) (subst B (sym (birth-is width point plan.statements (k - 1) birth found)) (subst W (sym is_width) (fits-birth plan table point belongs fits (Inserted k))))

    pub born_ends : 1 ≤ k → ending_of (birth_at width point statements birth.0 birth.1) point ≡ final_outcome plan table (Inserted k) point
    born_ends exists =
        ap (λ ss. ending_of (birth_at width point ss birth.0 birth.1) point) same
        ∙ ap (λ b. ending_of b point) (birth-is width point plan.statements (k - 1) birth found)
        ∙ ap (λ w. ending_of (inserted_birth w point plan.statements (k - 1)) point) is_width
        ∙ sym (outcome-inserted (length plan.columns) table.rows plan.statements k point exists)

-- all rows at the end, as the code finds them
pub replay_ends : (plan : Plan) (table : Table) (point : Values) (statements : List Statement) (cells : List Cells) (width : ℕ) (none starts all : List Row)
    → statements ≡ plan.statements → cells ≡ table.rows → width ≡ length plan.columns → none ≡ []
    → starts ≡ none ++ survivors point statements (named_rows (λ k. Start k) 0 cells) → all ≡ starts ++ inserted_survivors width point statements 0
    → all ≡ final_rows plan table point
replay_ends plan table point statements cells width none starts all same is_table is_width is_none is_starts is_all =
    is_all
    ∙ ap (λ r. r ++ inserted_survivors width point statements 0) (is_starts ∙ ap (λ r. r ++ survivors point statements (named_rows (λ k. Start k) 0 cells)) is_none)
    ∙ ap (λ ss. survivors point ss (named_rows (λ k. Start k) 0 cells) ++ inserted_survivors width point ss 0) same
    ∙ ap (λ t. survivors point plan.statements (named_rows (λ k. Start k) 0 t) ++ inserted_survivors width point plan.statements 0) is_table
    ∙ ap (λ w. survivors point plan.statements (named_rows (λ k. Start k) 0 table.rows) ++ inserted_survivors w point plan.statements 0) is_width
    ∙ sym (replayed-survivors (length plan.columns) table.rows plan.statements point)

pub starts_fit : (plan : Plan) (table : Table) (point : Values) (statements : List Statement) (cells : List Cells)
    → statements ≡ plan.statements → cells ≡ table.rows → Belongs plan table → FitsAt plan table point → LivesFit statements cells point
starts_fit plan table point statements cells same is_table belongs fits =
    let P : List Statement → Type 0 = λ ss. LivesFit ss cells point in
    let Q : List Cells → Type 0 = λ t. LivesFit plan.statements t point in
    subst P (sym same) (subst Q (sym is_table) (fits-starts plan table point belongs fits))

pub all_inserted_fit : (plan : Plan) (table : Table) (point : Values) (statements : List Statement) (width : ℕ)
    → statements ≡ plan.statements → width ≡ length plan.columns → Belongs plan table → FitsAt plan table point → InsertedFit width statements point
all_inserted_fit plan table point statements width same is_width belongs fits =
    let P : List Statement → Type 0 = λ ss. InsertedFit width ss point in
    let Q : ℕ → Type 0 = λ w. InsertedFit w plan.statements point in
    subst P (sym same) (subst Q (sym is_width) (fits-inserted plan table point belongs fits))
