use Rattle.qf_lex.proofs.Only.{only_tokens, only_fault}
use Rattle.qf_lex.proofs.Standing.{in_order_where_ok, stand_where_ok}
use Rattle.qf_lex.proofs.scan.tokens.Goals as goal

pub returns-clause-only_tokens : goal.returns-clause-only_tokens
returns-clause-only_tokens c = only_tokens c.args.bytes.now c.read_tokens.result c.read_tokens.ensures.reads c.read_tokens.ensures.faults

pub returns-clause-only_fault : goal.returns-clause-only_fault
returns-clause-only_fault c = only_fault c.args.bytes.now c.read_tokens.result c.read_tokens.ensures.reads c.read_tokens.ensures.faults

pub returns-clause-in_order : goal.returns-clause-in_order
returns-clause-in_order c = in_order_where_ok c.args.bytes.now c.read_tokens.result c.read_tokens.ensures.reads

pub returns-clause-slices : goal.returns-clause-slices
returns-clause-slices c = stand_where_ok c.args.bytes.now c.read_tokens.result c.read_tokens.ensures.reads
