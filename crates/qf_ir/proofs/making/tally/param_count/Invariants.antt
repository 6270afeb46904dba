use Rattle.std.proofs.Common.{◌≡◌, ◌+◌, ◌≤◌, drop, length}
use Rattle.std.specs.List.{flat_map}
use Rattle.qf_ir.specs.declared.ast.Term.{Term}
use Rattle.qf_ir.specs.Parts.{param_of}
use Rattle.qf_ir.proofs.making.tally.param_count.Given as goal

-- the count so far and that of what is left make the whole
abbrev pub invariant-loop-term : goal.invariant-loop-term
invariant-loop-term l = (l.count + length (flat_map (λ (t : Term). param_of t.atom) (drop l.term-index l.terms)) ≡ length (flat_map (λ (t : Term). param_of t.atom) l.terms)) × (l.count ≤ l.term-index)
