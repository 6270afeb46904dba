use Rattle.std.proofs.Common.{◌≡◌, ◌+◌, drop}
use Rattle.qf_goal.specs.Asked.{place_of}
use Rattle.qf_goal.proofs.asks.place_of.Given as goal

abbrev pub invariant-loop-place : goal.invariant-loop-place
invariant-loop-place l = l.place + place_of (drop l.place l.columns) l.name ≡ place_of l.columns l.name
