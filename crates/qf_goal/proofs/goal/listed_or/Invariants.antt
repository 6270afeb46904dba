use Rattle.std.proofs.Common.{◌≡◌, drop}
use Rattle.qf_ir.specs.Goals.{listed_or}
use Rattle.qf_goal.proofs.goal.listed_or.Given as goal

abbrev pub invariant-loop-place : goal.invariant-loop-place
invariant-loop-place l = listed_or (drop l.place-index l.listed) l.column l.other ≡ listed_or l.listed l.column l.other
