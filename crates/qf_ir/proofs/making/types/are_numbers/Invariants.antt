use Rattle.std.proofs.Common.{◌≡◌, drop}
use Rattle.std.specs.List.{list_all}
use Rattle.qf_ir.specs.declared.ast.Term.{Term}
use Rattle.qf_ir.specs.Checked.{is_number}
use Rattle.qf_ir.proofs.making.types.are_numbers.Given as goal

-- the answer for what is left is that for the whole
abbrev pub invariant-loop-term : goal.invariant-loop-term
invariant-loop-term l = list_all (λ (t : Term). is_number l.kinds t.atom) (drop l.term-index l.terms) ≡ list_all (λ (t : Term). is_number l.kinds t.atom) l.terms
