use Rattle.qf_certtext.proofs.Cuts.{cut_whole, cut_first, cut_none}
use Rattle.qf_certtext.proofs.words.split_at.Goals as goal

pub returns-in_err-place-clause-none : goal.returns-in_err-place-clause-none
returns-in_err-place-clause-none c = rw c.from_residual.ensures (cut_none c.args.byte c.args.bytes.now c.in_err-place.ensures)

pub returns-clause-some : goal.returns-clause-some
returns-clause-some c = cut_whole c.args.byte c.args.bytes.now c.in_ok-place.place c.in_ok-place.ensures

pub returns-clause-first : goal.returns-clause-first
returns-clause-first c = cut_first c.args.byte c.args.bytes.now c.in_ok-place.place c.in_ok-place.ensures
