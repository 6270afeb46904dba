use Rattle.std.proofs.Common.{subst}
use Rattle.qf_base.specs.Values.{Bounds}
use Rattle.qf_slice.proofs.Slices.{root-boxes-equal}
use Rattle.qf_encode.specs.Lives.{BoxIn}
use Rattle.qf_instance.proofs.Boxes.{roots_span}
use Rattle.qf_search.specs.Solving.{IsSolved}
use Rattle.qf_search.proofs.solving.diagnose.Goals as goal

pub solve-requires : goal.solve-requires
solve-requires c =
    let case = c.args.problem.now in
    let box = c.in_ok-root.root in
    let is = c.in_ok-root.ensures.root in
    record {
      inside = λ root is_root. subst (λ (b : Bounds). BoxIn box b) (root-boxes-equal case box root is is_root) (roots_span case box c.note_ends.ensures.sound is).1;
    }

pub returns : goal.returns
returns c = λ root is_root. subst (λ (b : Bounds). IsSolved c.args.problem.now b c.args.budget c.in_ok-found.found) (root-boxes-equal c.args.problem.now c.in_ok-root.root root c.in_ok-root.ensures.root is_root) c.in_ok-found.ensures
