use Rattle.std.proofs.Common.{◌≡◌, ◌+◌, ap, sym, ◌∙◌, arith, replicate, None}
use Rattle.qf_goal.proofs.MarkLemmas.{no_marks}
use Rattle.qf_goal.proofs.marks.no_marks.Goals as goal

pub returns : goal.returns
returns c =
    let all : c.loop-place._place ≡ c.args.program.now.starts + c.args.program.now.inserted = omega arith in
    c.loop-place.invariant ∙ ap (λ n. replicate n None) all ∙ sym (no_marks c.args.program.now)
