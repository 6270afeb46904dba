use Rattle.std.proofs.Common.{◌++◌, sym, ap, ◌∙◌}
use Rattle.std.proofs.lemmas.List.{append-nil}
use Rattle.std.specs.Prelude.{option_to_list}
use Rattle.qf_grammar.specs.Usage.{uses_in}
use Rattle.qf_grammar.proofs.UsageLaws.{next_step, one_more, all_found}
use Rattle.qf_grammar.proofs.uses.read_uses.Goals as goal

pub loop-used-preserved-in_ok-push : goal.loop-used-preserved-in_ok-push
loop-used-preserved-in_ok-push c =
    let e = one_more c.loop-used.found c.loop-used.rest.now c.in-Some.used c.in-Some.after.now (uses_in c.args.lexemes.now) c.in-Some.ensures c.loop-used.invariant in
    ap (λ found. found ++ uses_in c.in-Some.after.now) (c.in_ok-push.ensures.ok ∙ ap (λ u. c.loop-used.found ++ option_to_list u) (sym c.in-Some-used.is)) ∙ e

pub loop-used-smaller-in_ok-push : goal.loop-used-smaller-in_ok-push
loop-used-smaller-in_ok-push c = (next_step c.loop-used.rest.now c.in-Some.used c.in-Some.after.now c.in-Some.ensures).1

pub loop-used-preserved : goal.loop-used-preserved
loop-used-preserved c =
    let e = one_more c.loop-used.found c.loop-used.rest.now c.in-Some.used c.in-Some.after.now (uses_in c.args.lexemes.now) c.in-Some.ensures c.loop-used.invariant in
    ap (λ found. found ++ uses_in c.in-Some.after.now) (sym (append-nil c.loop-used.found) ∙ ap (λ u. c.loop-used.found ++ option_to_list u) (sym c.in_default-used.is)) ∙ e

pub loop-used-smaller : goal.loop-used-smaller
loop-used-smaller c = (next_step c.loop-used.rest.now c.in-Some.used c.in-Some.after.now c.in-Some.ensures).1

pub returns : goal.returns
returns c = all_found c.loop-used.found c.loop-used.rest.now (uses_in c.args.lexemes.now) c.in_default.ensures c.loop-used.invariant
