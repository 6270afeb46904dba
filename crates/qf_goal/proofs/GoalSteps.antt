-- Goals, cell by cell.
use Rattle.std.specs.Prelude.{◌≡◌, ℕ, zero, suc, ◌+◌, ◌-◌, ◌<◌, List, [], ◌∷◌, ◌++◌}
use Rattle.std.specs.declared.option.Option.{Option}
use Rattle.std.proofs.Common.{ap, sym, ◌∙◌, arith}
use Rattle.std.proofs.lemmas.List.{append_assoc}
use Rattle.qf_ir.specs.declared.cell.Cell.{Cell}
use Rattle.qf_ir.specs.declared.cell.Outcome.{Outcome}
use Rattle.qf_ir.specs.Goals.{old_cell, listed_or, asked_cells}

-- one more item of a list that grows
pub pushed : {X : Type 0} (made rest next whole : List X) (item : X) → next ≡ made ++ item ∷ [] → made ++ item ∷ rest ≡ whole → next ++ rest ≡ whole
pushed made rest next whole item is left = ap (λ list. list ++ rest) is ∙ (append_assoc made (item ∷ []) rest ∙ left)

asked_cells-more : (first n : ℕ) (listed : List (ℕ × Cell)) (old : Outcome) → 0 < n
    → asked_cells first n listed old ≡ listed_or listed first (old_cell old first) ∷ asked_cells (first + 1) (n - 1) listed old
asked_cells-more first zero listed old some = absurd (omega arith)
asked_cells-more first (suc n) listed old some =
    ap (λ count. listed_or listed first (old_cell old first) ∷ asked_cells (first + 1) count listed old) (let same : n ≡ suc n - 1 = omega arith in same)

-- one more cell of a goal
pub asked_step : (listed : List (ℕ × Cell)) (old : Outcome) (made next whole : List (Option Cell)) (cell : Option Cell) (column width : ℕ) → column < width
    → cell ≡ listed_or listed column (old_cell old column) → next ≡ made ++ cell ∷ []
    → made ++ asked_cells column (width - column) listed old ≡ whole
    → next ++ asked_cells (column + 1) (width - (column + 1)) listed old ≡ whole
asked_step listed old made next whole cell column width within is_cell is left =
    let fewer : width - column - 1 ≡ width - (column + 1) = omega arith in
    pushed made (asked_cells (column + 1) (width - (column + 1)) listed old) next whole cell is
    (ap (λ first. made ++ first ∷ asked_cells (column + 1) (width - (column + 1)) listed old) is_cell
    ∙ (ap (λ count. made ++ listed_or listed column (old_cell old column) ∷ asked_cells (column + 1) count listed old) (sym fewer)
    ∙ (ap (λ rest. made ++ rest) (sym (asked_cells-more column (width - column) listed old (omega arith))) ∙ left)))
