use Rattle.std.proofs.Common.{◌∙◌, ◌+◌, sym, ap, subst, fold, get_or}
use Rattle.std.proofs.lemmas.List.{take_all}
use Rattle.std.proofs.lemmas.List.Sums.{fold_more}
use Rattle.qf_lex.specs.declared.token.Token.{Token}
use Rattle.qf_lex.specs.declared.token.TokenKind.TheVariants as kind
use Rattle.qf_log.specs.Said.{said_by}
use Rattle.qf_log.specs.Lexed.{with_said, nothing_said, HasFew}
use Rattle.qf_log.proofs.LexedLaws.{fold_is, few_more}
use Rattle.qf_log.proofs.lexing.Lexer.add_all.Goals as goal

-- what stands past the end
abbrev no_token : Token
no_token = record { start = 0; end = 0; kind = kind.Word }

pub loop-token-preserved : goal.loop-token-preserved
loop-token-preserved c =
    let said = said_by c.args.bytes.now (get_or c.args.tokens.now c.loop-token.token-index no_token) in
    record {
      lexed = c.in_ok-add.ensures.lexed ∙ ap (λ l. with_said l said) c.loop-token.invariant.lexed
          ∙ sym (fold_more (λ l t. with_said l (said_by c.args.bytes.now t)) nothing_said c.args.tokens.now c.loop-token.token-index no_token c.loop-token-test.true);
      index = c.in_ok-add.ensures.index;
      few = subst (HasFew (c.loop-token.token-index + 1 + 1)) (sym c.in_ok-add.ensures.lexed) (few_more (c.loop-token.token-index + 1) c.loop-token.self.lexed said c.loop-token.invariant.few);
    }

pub returns : goal.returns
returns c =
    c.loop-token.invariant.lexed
    ∙ ap (fold (λ l t. with_said l (said_by c.args.bytes.now t)) nothing_said) (take_all c.loop-token.token-index c.args.tokens.now c.loop-token-test.false)
    ∙ fold_is c.args.bytes.now c.args.tokens.now
