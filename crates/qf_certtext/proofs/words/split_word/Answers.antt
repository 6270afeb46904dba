use Rattle.qf_certtext.proofs.Cuts.{words_of_split, word_where_none}
use Rattle.qf_certtext.proofs.words.split_word.Goals as goal

pub returns-clause-some : goal.returns-clause-some
returns-clause-some c = words_of_split c.args.bytes.now c.split_at.result c.split_at.ensures.some c.split_at.ensures.first

pub returns-clause-none : goal.returns-clause-none
returns-clause-none c = word_where_none c.args.bytes.now c.split_at.result c.split_at.ensures.none
