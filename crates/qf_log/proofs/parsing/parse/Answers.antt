use Rattle.std.proofs.Common.{◌∙◌, sym, ap, subst, arith, length, map}
use Rattle.std.specs.List.{All}
use Rattle.qf_lex.specs.Tokens.{StandsIn}
use Rattle.qf_lex.proofs.Standing.{tokens_stand}
use Rattle.qf_log.specs.declared.lexing.Lexed.{Lexed}
use Rattle.qf_log.specs.Said.{said_by}
use Rattle.qf_log.specs.Lexed.{lexed_of}
use Rattle.qf_log.specs.Lowered.{AreSmall}
use Rattle.qf_log.proofs.BodyLaws.{with_names, log-found}
use Rattle.qf_log.proofs.ParseFacts.{few_tokens, few_lexemes, are_small}
use Rattle.qf_log.proofs.ReadyLaws.{logs_are_ready}
use Rattle.qf_log.proofs.parsing.parse.Goals as goal

pub lex-requires-clause-stand : goal.lex-requires-clause-stand
lex-requires-clause-stand c = subst (λ ts. All (StandsIn c.args.bytes.now) ts) (sym c.as_slice.ensures) (tokens_stand c.args.bytes.now c.args.tokens.now c.requires.tokens)

pub lex-requires-clause-few : goal.lex-requires-clause-few
lex-requires-clause-few c = omega (arith, ap length c.as_slice.ensures, few_tokens c.args.bytes.now c.args.tokens.now c.requires.tokens, c.requires.few)

pub read-requires-clause-few : goal.read-requires-clause-few
read-requires-clause-few c =
    let whole = c.in_ok-lexed.ensures ∙ ap (λ ts. lexed_of (map (said_by c.args.bytes.now) ts)) c.as_slice.ensures in
    omega (arith, ap length c.as_slice-4.ensures, ap (λ (l : Lexed). length l.lexemes) whole, few_lexemes c.args.bytes.now c.args.tokens.now c.requires.tokens, c.requires.few)

pub read-requires-clause-small : goal.read-requires-clause-small
read-requires-clause-small c =
    let whole = c.in_ok-lexed.ensures ∙ ap (λ ts. lexed_of (map (said_by c.args.bytes.now) ts)) c.as_slice.ensures in
    subst AreSmall (sym (c.as_slice-3.ensures ∙ ap (λ (l : Lexed). l.numbers) whole)) (are_small c.args.bytes.now c.args.tokens.now c.requires.tokens)

pub returns-in-Ok : goal.returns-in-Ok
returns-in-Ok c =
    let whole = c.in_ok-lexed.ensures ∙ ap (λ ts. lexed_of (map (said_by c.args.bytes.now) ts)) c.as_slice.ensures in
    log-found c.args.bytes.now c.args.tokens.now c.as_slice-2.result.now c.in_ok-lexed.lexed c.as_slice-3.result.now c.as_slice-4.result.now whole c.as_slice-2.ensures c.as_slice-3.ensures c.as_slice-4.ensures c.in-Ok.body c.in-Ok.ensures

pub invariant_of-result : goal.invariant_of-result
invariant_of-result c =
    let whole = c.in_ok-lexed.ensures ∙ ap (λ ts. lexed_of (map (said_by c.args.bytes.now) ts)) c.as_slice.ensures in
    let log = with_names c.in_ok-lexed.lexed c.in-Ok.body in
    (logs_are_ready c.args.bytes.now log c.requires.few (record {
      tokens = c.args.tokens.now;
      are_tokens = c.requires.tokens;
      read = log-found c.args.bytes.now c.args.tokens.now c.as_slice-2.result.now c.in_ok-lexed.lexed c.as_slice-3.result.now c.as_slice-4.result.now whole c.as_slice-2.ensures c.as_slice-3.ensures c.as_slice-4.ensures c.in-Ok.body c.in-Ok.ensures;
    })).0
