use Rattle.std.proofs.Common.{◌≡◌, ◌+◌, fold, take}
use Rattle.qf_log.specs.Said.{said_by}
use Rattle.qf_log.specs.Lexed.{with_said, nothing_said, HasFew}
use Rattle.qf_log.proofs.lexing.Lexer.add_all.Given as goal

abbrev pub invariant-loop-token : goal.invariant-loop-token
invariant-loop-token l = record {
  lexed : l.self.lexed ≡ fold (λ lexed token. with_said lexed (said_by l.bytes token)) nothing_said (take l.token-index l.tokens);
  index : l.self.index ≡ l.self.lexed.names;
  few : HasFew (l.token-index + 1) l.self.lexed;
}
