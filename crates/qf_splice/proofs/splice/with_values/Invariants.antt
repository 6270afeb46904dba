use Rattle.std.proofs.Common.{◌≡◌, ◌++◌, drop, length}
use Rattle.qf_log.specs.Ready.{AreApart}
use Rattle.qf_splice.specs.RepairedText.{repaired_from, repaired_text}
use Rattle.qf_splice.proofs.splice.with_values.Given as goal

abbrev pub invariant-loop-number : goal.invariant-loop-number
invariant-loop-number l = record {
  text : l.text ++ repaired_from l.at l.bytes (drop l.number l.places) (drop l.number l.point) ≡ repaired_text l.bytes l.places l.point;
  order : AreApart l.at (drop l.number l.places) (length l.bytes);
}
