use Rattle.std.proofs.Common.{arith}
use Rattle.std.proofs.lemmas.Int.{ints}
use Rattle.qf_search.proofs.cutting.halfway.Goals as goal

pub steps_below-requires : goal.steps_below-requires
steps_below-requires c = omega (arith, ints, c.nearest-near.ensures.low, c.width-below.ensures, c.if-below-above.true)

pub steps_above-requires : goal.steps_above-requires
steps_above-requires c = omega (arith, ints, c.nearest-near.ensures.high, c.width-above.ensures)

pub returns-then-below-above-clause-low : goal.returns-then-below-above-clause-low
returns-then-below-above-clause-low c = omega (arith, ints, c.nearest-near.ensures.low, c.width-below.ensures, c.if-below-above.true, c.steps_below.ensures)

pub returns-then-below-above-clause-high : goal.returns-then-below-above-clause-high
returns-then-below-above-clause-high c = omega (arith, ints, c.nearest-near.ensures.high, c.steps_below.ensures)

pub returns-else-below-above-clause-low : goal.returns-else-below-above-clause-low
returns-else-below-above-clause-low c = omega (arith, ints, c.nearest-near.ensures.low, c.steps_above.ensures)

pub returns-else-below-above-clause-high : goal.returns-else-below-above-clause-high
returns-else-below-above-clause-high c = omega (arith, ints, c.requires, c.nearest-near.ensures.low, c.nearest-near.ensures.high, c.width-below.ensures, c.width-above.ensures, c.if-below-above.false, c.steps_above.ensures)
