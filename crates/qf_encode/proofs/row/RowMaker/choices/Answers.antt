use Rattle.std.proofs.Common.{◌+◌, arith, drop, get_or}
use Rattle.std.proofs.lemmas.List.{drop_more}
use Rattle.qf_encode.specs.Coding.{made_choices}
use Rattle.qf_encode.proofs.Loops.{opened, choices_few}
use Rattle.qf_encode.proofs.row.RowMaker.choices.Goals as goal

pub push-requires-clause-few : goal.push-requires-clause-few
push-requires-clause-few c =
    let sets = c.args.sets.now in
    let news = c.loop-place.self.news.items in
    let i = c.loop-place.place in
    let e = opened sets i c.index-sets-place.result c.loop-place-test.true c.index-sets-place.is in
    let f = drop_more news i 0 (omega (arith, c.loop-place.invariant.same, c.loop-place-test.true)) in
    choices_few c.args.self.now.columns c.args.test c.loop-place.self.maker (made_choices c.args.self.now.columns c.args.test c.args.self.now.maker sets c.args.self.now.news.items).0 c.index-sets-place.result (drop (i + 1) sets) (get_or news i 0) (drop (i + 1) news) _ (rw (e, f) at c.loop-place.invariant.made) c.requires.few
