use Rattle.std.proofs.Common.{sym, subst, ℕ}
use Rattle.qf_point.specs.Domains.{HasSmallEnds}
use Rattle.qf_goal.specs.Case.{Case}
use Rattle.qf_instance.specs.Instances.{is_marked}
use Rattle.qf_search.specs.Solving.{IsInRootBox}
use Rattle.qf_search.proofs.solving.solve.Goals as goal

pub solve_on-requires-clause-ground : goal.solve_on-requires-clause-ground
solve_on-requires-clause-ground c =
    let g = c.in_ok-grounds.grounds in
    let are = c.in_ok-grounds.ensures.grounds in
    let same = sym c.in_ok-grounds.ensures.problem in
    record {
      root = g.root;
      params = λ (k : ℕ). is_marked g.marks k;
      is = record {
        sound = are.sound;
        is_root = are.is.root;
        inside = subst (λ (case : Case). IsInRootBox case c.args.region.now) same c.requires.inside g.root are.is.root;
        small = subst (λ (case : Case). HasSmallEnds case.domains.region) same c.note_ends.ensures.ends;
        needed = are.is.needed;
      };
    }
