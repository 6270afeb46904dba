use Rattle.qf_log.proofs.Bytes.{word_is_ascii, string_is_utf8}
use Rattle.qf_log.proofs.lexing.Lexer.add.Goals as goal

pub add_word-requires-clause-ascii : goal.add_word-requires-clause-ascii
add_word-requires-clause-ascii c = word_is_ascii c.args.bytes.now c.args.token c.requires.stands c.in-Word.is

pub add_text-requires-clause-utf8 : goal.add_text-requires-clause-utf8
add_text-requires-clause-utf8 c = string_is_utf8 c.args.bytes.now c.args.token c.requires.stands c.in-Str.is
