use Rattle.std.proofs.Common.{◌≡◌, drop}
use Rattle.std.specs.List.{list_all}
use Rattle.qf_ir.specs.Checked.{is_text}
use Rattle.qf_ir.proofs.making.types.are_texts.Given as goal

-- the answer for what is left is that for the whole
abbrev pub invariant-loop-expr : goal.invariant-loop-expr
invariant-loop-expr l = list_all (is_text l.kinds) (drop l.expr-index l.exprs) ≡ list_all (is_text l.kinds) l.exprs
