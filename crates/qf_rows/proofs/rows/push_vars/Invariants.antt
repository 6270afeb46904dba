use Rattle.std.proofs.Common.{◌≡◌, ◌++◌, drop, map}
use Rattle.qf_rows.proofs.rows.push_vars.Given as goal

abbrev pub invariant-loop-var : goal.invariant-loop-var
invariant-loop-var l =
    l.terms ++ map (λ x. (l.factor, x)) (drop l.var-index l.vars) ≡ l.initial.terms ++ map (λ x. (l.factor, x)) l.vars
