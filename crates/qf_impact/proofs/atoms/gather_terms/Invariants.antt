use Rattle.std.proofs.Common.{◌≡◌, ◌++◌, map, drop}
use Rattle.qf_ir.specs.declared.ast.Term.{Term}
use Rattle.qf_impact.proofs.atoms.gather_terms.Given as goal

abbrev pub invariant-loop-term : goal.invariant-loop-term
invariant-loop-term l = l.atoms.items ++ map (λ (t : Term). t.atom) (drop l.term-index l.terms) ≡ l.fn.atoms.items ++ map (λ (t : Term). t.atom) l.terms
