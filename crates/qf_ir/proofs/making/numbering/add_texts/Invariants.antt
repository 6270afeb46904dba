use Rattle.std.proofs.Common.{◌≡◌, ◌++◌, drop}
use Rattle.qf_ir.proofs.Joining.{Joins, codes_from}
use Rattle.qf_ir.proofs.making.numbering.add_texts.Given as goal

-- the texts and codes so far, and what is left
abbrev pub invariant-loop-code : goal.invariant-loop-code
invariant-loop-code l =
    Joins l.joint l.initial.joint (drop l.code l.texts) l.texts l.code
    × (l.codes ++ codes_from l.joint (drop l.code l.texts) ≡ codes_from l.initial.joint l.texts)
