use Rattle.std.proofs.Common.{[], drop}
use Rattle.qf_ir.proofs.Joining.{Joins}
use Rattle.qf_ir.proofs.texts.Texts.copy.Given as goal

-- the texts so far, and what is left
abbrev pub invariant-loop-code : goal.invariant-loop-code
invariant-loop-code l = Joins l.copied [] (drop l.code l.self) l.self l.code
