use Rattle.std.proofs.Common.{◌≡◌, ◌-◌, slice_set, count_by, length-set, refl, arith}
use Rattle.std.proofs.lemmas.List.Sums.{count_by-le-length}
use Rattle.qf_check.specs.Undoing.{is_crossed}
use Rattle.qf_check.proofs.UndoLemmas.{crossed-set, crossed-there}
use Rattle.qf_check.proofs.refuting.Refuting.set.Goals as goal

pub recount-self-requires-clause-there : goal.recount-self-requires-clause-there
recount-self-requires-clause-there c =
    let bounds = c.args.self.now.bounds in
    let place = c.args.var - 1 in
    omega (arith, crossed-there bounds place c.get.result c.get.ensures, c.requires.crossed)

pub recount-self-requires-clause-fits : goal.recount-self-requires-clause-fits
recount-self-requires-clause-fits c =
    let bounds = c.args.self.now.bounds in
    let place = c.args.var - 1 in
    let few = count_by-le-length is_crossed (slice_set bounds place c.args.interval) in
    omega (arith, crossed-set bounds place c.get.result c.args.interval c.get.ensures, few, length-set bounds place c.args.interval, c.len-few.ensures.small, c.requires.crossed)

pub returns : goal.returns
returns c =
    let bounds = c.args.self.now.bounds in
    let place = c.args.var - 1 in
    let crossed : c.recount-self.result ≡ count_by is_crossed (slice_set bounds place c.args.interval) = omega (arith, crossed-set bounds place c.get.result c.args.interval c.get.ensures, c.recount-self.ensures, c.requires.crossed) in
    rw (crossed, c.put.ensures) refl
