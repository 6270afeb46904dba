use Rattle.std.proofs.Common.{◌++◌, ◌∷◌, [], ◌∙◌, sym, ap}
use Rattle.std.specs.Str.{str_to_ascii_lowercase}
use Rattle.qf_log.proofs.Found.{name_new, name_held, on_ok_then}
use Rattle.qf_log.proofs.lexing.keep_name.Goals as goal

pub returns-then-from-len : goal.returns-then-from-len
returns-then-from-len c =
    on_ok_then c.push.result _ _ c.push.ensures.ok
    (λ e. e ∙ ap (λ n. c.args.names.now ++ n ∷ []) c.in_ok-new.ensures ∙ name_new c.args.names.now (str_to_ascii_lowercase c.args.word.now) c.args.number c.requires.number (sym c.from.ensures ∙ c.if-from-len.true ∙ c.len.ensures))

pub returns : goal.returns
returns c = name_held c.args.names.now (str_to_ascii_lowercase c.args.word.now) c.args.number c.requires.number (λ e. c.if-from-len.false (c.from.ensures ∙ e ∙ sym c.len.ensures))
