use Rattle.std.proofs.Common.{◌≡◌, ℕ, List, take}
use Rattle.qf_ir.specs.Texts.{with_texts}
use Rattle.qf_goal.specs.Asked.{stated_texts, asks_of, with_joined}
use Rattle.qf_goal.proofs.asks.asks_of.Given as goal

abbrev pub invariant-loop-complaint : goal.invariant-loop-complaint
invariant-loop-complaint l =
    (l.program ≡ with_joined l.initial.program (stated_texts (take l.complaint-index l.complaints)))
    × ((more : List (List ℕ)) → l.asks ≡ asks_of l.initial.program.columns (with_texts l.program.texts more) (take l.complaint-index l.complaints))
