use Rattle.qf_search.proofs.Widths.{IsWidest}
use Rattle.qf_search.proofs.cutting.widest.Given as goal

abbrev pub invariant-loop-place : goal.invariant-loop-place
invariant-loop-place l = IsWidest l.region l.place l.most l.most_whole l.widest
