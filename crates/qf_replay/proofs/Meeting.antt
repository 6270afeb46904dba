-- Cells against wanted cells, column by column.
use Rattle.std.specs.Prelude.{◌≡◌, ℕ, suc, ◌+◌, ◌<◌, Bool, true, false, ◌&&◌, List, [], ◌∷◌, length}
use Rattle.std.specs.declared.option.Option.{Option}
use Rattle.std.proofs.Common.{refl, ap, sym, ◌∙◌, drop, get_or, ◌≢◌}
use Rattle.std.proofs.lemmas.List.{drop_more}
use Rattle.qf_ir.specs.declared.cell.Cell.{Cell}
use Rattle.qf_ir.specs.Value.{Cells}
use Rattle.qf_ir.specs.Repairs.{meets_cell, meet_cells}

pub uneven : (cells : Cells) (wanted : List (Option Cell)) → length wanted ≢ length cells → meet_cells cells wanted ≡ false
uneven [] [] other = absurd (other refl)
uneven [] (w ∷ wanted) other = refl
uneven (c ∷ cells) [] other = refl
uneven (c ∷ cells) (w ∷ wanted) other = ap (λ rest. meets_cell c w && rest) (uneven cells wanted (λ e. other (ap suc e))) ∙ never (meets_cell c w)
  where
    never : (b : Bool) → (b && false) ≡ false
    never true = refl
    never false = refl

module _ (cells : Cells) (wanted : List (Option Cell)) (i : ℕ) (c : Cell) (w : Option Cell) (whole : Bool) (within : i < length cells) (wide : i < length wanted)
    (left : meet_cells (drop i cells) (drop i wanted) ≡ whole) where
  opened : (meets_cell (get_or cells i c) (get_or wanted i w) && meet_cells (drop (i + 1) cells) (drop (i + 1) wanted)) ≡ whole
  opened = ap (λ cs. meet_cells cs (get_or wanted i w ∷ drop (i + 1) wanted)) (sym (drop_more cells i c within))
      ∙ ap (λ ws. meet_cells (drop i cells) ws) (sym (drop_more wanted i w wide)) ∙ left

  pub meets-next : true ≡ meets_cell (get_or cells i c) (get_or wanted i w) → meet_cells (drop (i + 1) cells) (drop (i + 1) wanted) ≡ whole
  meets-next met = ap (λ b. b && meet_cells (drop (i + 1) cells) (drop (i + 1) wanted)) met ∙ opened

  pub misses-here : false ≡ meets_cell (get_or cells i c) (get_or wanted i w) → false ≡ whole
  misses-here missed = ap (λ b. b && meet_cells (drop (i + 1) cells) (drop (i + 1) wanted)) missed ∙ opened
