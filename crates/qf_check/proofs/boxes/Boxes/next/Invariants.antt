use Rattle.std.proofs.Common.{◌≡◌, false, length}
use Rattle.qf_base.specs.Values.{Bounds}
use Rattle.qf_check.specs.Splits.{LieIn, boxes_to_come}
use Rattle.qf_check.proofs.boxes.Boxes.next.Given as goal

abbrev pub invariant-loop-frame : goal.invariant-loop-frame
invariant-loop-frame l = record {
  there : l.self.is_done ≡ false;
  inside : (root : Bounds) → LieIn root l.initial.self → LieIn root l.self;
  left : boxes_to_come l.self.region l.self.frames ≡ boxes_to_come l.initial.self.region l.initial.self.frames;
}

abbrev pub decreases-loop-frame : goal.decreases-loop-frame
decreases-loop-frame l = length l.self.frames
