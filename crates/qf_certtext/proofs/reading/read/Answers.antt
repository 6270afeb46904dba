use Rattle.std.proofs.Common.{◌≡◌, ◌+◌, length, arith, sym, ◌∙◌}
use Rattle.qf_certtext.proofs.InText.{one_more, bad_line, cut_short, ended_right, room_in_text, empty_cut_short, not_whole}
use Rattle.qf_certtext.proofs.reading.read.Goals as goal

pub returns-in_default-clause-err : goal.returns-in_default-clause-err
returns-in_default-clause-err c =
    cut_short c.args.bytes.now c.loop-lines.rest.now c.loop-lines.draft (c.loop-lines.lines + 1) c.loop-lines.invariant.0 c.loop-lines.invariant.1 c.in_default.ensures.none

pub after_bytes-requires : goal.after_bytes-requires
after_bytes-requires c =
    room_in_text c.args.bytes.now c.loop-lines.rest.now c.loop-lines.draft (c.loop-lines.lines + 1) c.loop-lines.invariant.0 (omega arith)

pub loop-lines-preserved : goal.loop-lines-preserved
loop-lines-preserved c = (
  one_more c.args.bytes.now c.loop-lines.rest.now c.in-Some.line.now c.in-Some.behind.now c.loop-lines.draft c.in-Some-2.next (c.loop-lines.lines + 1) c.loop-lines.invariant.0 c.in-Some.ensures.some (sym c.in-Some-2.is ∙ c.in_ok-next.ensures),
  not_whole c.in-Some-2.next c.in_default-next.not-Whole,
)

pub returns-clause-err : goal.returns-clause-err
returns-clause-err c =
    let all : c.loop-lines.lines ≡ length c.args.bytes.now = omega arith in
    empty_cut_short c.args.bytes.now c.loop-lines.rest.now c.loop-lines.draft (rw all at c.loop-lines.invariant.0) c.loop-lines.invariant.1

pub returns-in_default-2-clause-err : goal.returns-in_default-2-clause-err
returns-in_default-2-clause-err c =
    bad_line c.args.bytes.now c.loop-lines.rest.now c.in-Some.line.now c.in-Some.behind.now c.loop-lines.draft (c.loop-lines.lines + 1) c.loop-lines.invariant.0 c.loop-lines.invariant.1 c.in-Some.ensures.some c.in-Some.ensures.first (sym c.in_default-2.is ∙ c.in_ok-next.ensures)

pub returns-in-Whole-clause-ok : goal.returns-in-Whole-clause-ok
returns-in-Whole-clause-ok c =
    let at = one_more c.args.bytes.now c.loop-lines.rest.now c.in-Some.line.now c.in-Some.behind.now c.loop-lines.draft c.in-Some-2.next (c.loop-lines.lines + 1) c.loop-lines.invariant.0 c.in-Some.ensures.some (sym c.in-Some-2.is ∙ c.in_ok-next.ensures) in
    (ended_right c.args.bytes.now c.in-Some.behind.now c.in-Whole.cert (c.loop-lines.lines + 1 + 1) c.ended.result (rw c.in-Whole.is at at) c.ended.ensures).0

pub returns-in-Whole-clause-err : goal.returns-in-Whole-clause-err
returns-in-Whole-clause-err c =
    let at = one_more c.args.bytes.now c.loop-lines.rest.now c.in-Some.line.now c.in-Some.behind.now c.loop-lines.draft c.in-Some-2.next (c.loop-lines.lines + 1) c.loop-lines.invariant.0 c.in-Some.ensures.some (sym c.in-Some-2.is ∙ c.in_ok-next.ensures) in
    (ended_right c.args.bytes.now c.in-Some.behind.now c.in-Whole.cert (c.loop-lines.lines + 1 + 1) c.ended.result (rw c.in-Whole.is at at) c.ended.ensures).1
