use Rattle.std.proofs.Common.{◌≡◌, ◌∙◌, ◌≤◌, ◌+◌, ◌++◌, ◌∷◌, ap, sym, subst, [], List, ℕ, length, drop, arith}
use Rattle.std.proofs.lemmas.List.{drop_all, append-nil}
use Rattle.qf_ir.specs.Texts.{code_in}
use Rattle.qf_ir.proofs.Joining.{Joins, codes_from, joins-more, codes-more, codes-are, drop-got}
use Rattle.qf_ir.proofs.making.numbering.add_texts.Goals as goal

pub loop-code-preserved : goal.loop-code-preserved
loop-code-preserved c =
    let first = c.args.joint.now in
    let all = c.args.texts.now in
    let rest = drop (c.loop-code.code + 1) all in
    let next = drop-got all c.loop-code.code c.text.result.now c.text.ensures in
    let pushed : c.push.new.self ≡ c.loop-code.codes ++ code_in c.loop-code.joint c.text.result.now ∷ [] =
    c.in_ok-push.ensures.ok ∙ ap (λ k. c.loop-code.codes ++ k ∷ []) c.in_ok-code.ensures.code in (
      joins-more c.loop-code.joint c.code.new.self first rest all c.text.result.now c.loop-code.code
          (subst (λ (xs : List (List ℕ)). Joins c.loop-code.joint first xs all c.loop-code.code) next c.loop-code.invariant.0) c.in_ok-code.ensures.texts,
      ap (λ ks. ks ++ codes_from c.code.new.self rest) pushed
          ∙ codes-more c.loop-code.joint c.code.new.self first rest all c.text.result.now c.loop-code.codes
          (subst (λ (xs : List (List ℕ)). c.loop-code.codes ++ codes_from c.loop-code.joint xs ≡ codes_from first all) next c.loop-code.invariant.1) c.in_ok-code.ensures.texts,
    )

pub returns-clause-codes : goal.returns-clause-codes
returns-clause-codes c =
    let all = c.args.texts.now in
    let past : length all ≤ c.loop-code.code = omega (arith, c.loop-code-test.false, c.len-code-end.ensures.len) in
    sym (append-nil c.loop-code.codes)
    ∙ sym (ap (λ xs. c.loop-code.codes ++ codes_from c.loop-code.joint xs) (drop_all c.loop-code.code all past))
    ∙ c.loop-code.invariant.1 ∙ codes-are c.args.joint.now all
