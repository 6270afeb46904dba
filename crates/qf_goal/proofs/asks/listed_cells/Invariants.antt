use Rattle.std.proofs.Common.{◌≡◌, ℕ, List, take, map}
use Rattle.std.specs.List.{flat_map}
use Rattle.qf_ir.specs.Texts.{with_texts}
use Rattle.qf_goal.specs.Asked.{text_in, listed_cell, with_joined}
use Rattle.qf_goal.proofs.asks.listed_cells.Given as goal

abbrev pub invariant-loop-value : goal.invariant-loop-value
invariant-loop-value l =
    (l.program ≡ with_joined l.initial.program (flat_map text_in (take l.value-index l.stated)))
    × ((more : List (List ℕ)) → l.cells ≡ map (listed_cell l.initial.program.columns (with_texts l.program.texts more)) (take l.value-index l.stated))
