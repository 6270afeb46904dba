use Rattle.std.proofs.Common.{◌∙◌, ap, refl, rules, tests}
use Rattle.std.specs.List.{list_any}
use Rattle.std.proofs.lemmas.Iterator.{YieldsList-from_slice}
use Rattle.std.proofs.lemmas.Iterator.Search.{any_from_yields_List}
use Rattle.std.specs.Str.{str_eq_ignore_ascii_case}
use Rattle.qf_lex.proofs.words.is_reserved.Goals as goal

pub returns : goal.returns
returns c =
    any_from_yields_List (λ w. str_eq_ignore_ascii_case w.now c.args.word.now) _ _ c.any.result c.any.ensures.ran (YieldsList-from_slice c.iter.result.rest.now refl) (λ x b q k. search (rules, tests))
    ∙ ap (list_any (λ w. str_eq_ignore_ascii_case w.now c.args.word.now)) c.iter.ensures.rest
