use Rattle.std.proofs.Common.{◌∙◌, ap, ◌++◌}
use Rattle.qf_log.specs.Said.{single_quoted}
use Rattle.qf_log.proofs.Lists.{next_byte, byte_more, bytes_end}
use Rattle.qf_log.proofs.words.unquote.Goals as goal

pub loop-byte-preserved : goal.loop-byte-preserved
loop-byte-preserved c =
    ap (λ t. t ++ single_quoted c.in-Some.after.now) c.in_ok-push.ensures.items
    ∙ byte_more c.loop-byte.into.items c.loop-byte.rest.now c.in-Some.byte c.in-Some.after.now (single_quoted c.args.body.now) c.in-Some.ensures c.loop-byte.invariant

pub loop-byte-smaller : goal.loop-byte-smaller
loop-byte-smaller c = (next_byte c.loop-byte.rest.now c.in-Some.byte c.in-Some.after.now c.in-Some.ensures).1

pub returns : goal.returns
returns c = bytes_end c.loop-byte.into.items c.loop-byte.rest.now (single_quoted c.args.body.now) c.in_default.ensures c.loop-byte.invariant
