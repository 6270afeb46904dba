use Rattle.std.proofs.Common.{subst}
use Rattle.qf_base.specs.Values.{Bounds}
use Rattle.qf_slice.proofs.Slices.{root-boxes-equal}
use Rattle.qf_encode.specs.Lives.{BoxIn}
use Rattle.qf_tests.proofs.search.found.Goals as goal

pub solve-requires : goal.solve-requires
solve-requires c =
    let opened = c.args.opened.now in
    record {
      inside = λ root is_root. subst (λ (b : Bounds). BoxIn c.in_ok-region.region b) (root-boxes-equal opened.problem opened.root root c.requires.root is_root) c.in_ok-region.ensures;
    }
