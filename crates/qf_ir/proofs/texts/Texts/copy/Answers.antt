use Rattle.std.proofs.Common.{◌∙◌, ◌≤◌, ◌+◌, ap, sym, subst, [], List, ℕ, length, drop, arith}
use Rattle.std.proofs.lemmas.List.{drop_all}
use Rattle.qf_ir.specs.Texts.{with_texts}
use Rattle.qf_ir.proofs.Joining.{Joins, joins-more, drop-got, with-distinct}
use Rattle.qf_ir.proofs.texts.Texts.copy.Goals as goal

pub loop-code-preserved : goal.loop-code-preserved
loop-code-preserved c =
    let all = c.args.self.now in
    let rest = drop (c.loop-code.code + 1) all in
    let next = drop-got all c.loop-code.code c.text.result.now c.text.ensures in
    joins-more c.loop-code.copied c.code.new.self [] rest all c.text.result.now c.loop-code.code
    (subst (λ (xs : List (List ℕ)). Joins c.loop-code.copied [] xs all c.loop-code.code) next c.loop-code.invariant) c.in_ok-code.ensures.texts

pub returns : goal.returns
returns c =
    let all = c.args.self.now in
    let past : length all ≤ c.loop-code.code = omega (arith, c.loop-code-test.false, c.len-code-end.ensures.len) in
    sym (ap (with_texts c.loop-code.copied) (drop_all c.loop-code.code all past)) ∙ c.loop-code.invariant.left
    ∙ with-distinct [] all c.len-code-end.ensures.distinct
