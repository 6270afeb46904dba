use Rattle.std.proofs.Common.{◌≡◌, ◌++◌, ◌+◌, length, drop, ◌∷◌, ap, sym, ◌∙◌, arith}
use Rattle.std.proofs.lemmas.List.{length-append}
use Rattle.qf_log.specs.Parameters.{ids_from, ids_of}
use Rattle.qf_log.proofs.Found.{drop_one}
use Rattle.qf_log.proofs.Lists.{all_uses, ids_more, few_parameters}
use Rattle.qf_log.proofs.places.ids_of.Goals as goal

pub loop-one-preserved : goal.loop-one-preserved
loop-one-preserved c =
    let here : drop c.loop-one.one-index c.args.stated.now ≡ c.one-item.result ∷ drop (c.loop-one.one-index + 1) c.args.stated.now = drop_one c.args.stated.now c.loop-one.one-index c.one-item.result c.loop-one-test.true ∙ ap (λ s. s ∷ drop (c.loop-one.one-index + 1) c.args.stated.now) (sym c.one-item.is) in
    let us = c.as_slice.result.now in
    let rest = all_uses (drop (c.loop-one.one-index + 1) c.args.stated.now) in
    let front : all_uses (drop c.loop-one.one-index c.args.stated.now) ≡ us ++ rest = ap all_uses here ∙ ap (λ t. t ++ rest) (sym c.as_slice.ensures) in
    record {
      ids = ids_more c.loop-one.ids c.add_ids.new.ids c.loop-one.count c.in_ok-count.count us rest (ids_of c.args.stated.now) c.in_ok-count.ensures.ids c.in_ok-count.ensures.count
          (ap (λ t. c.loop-one.ids ++ ids_from c.loop-one.count t) (sym front) ∙ c.loop-one.invariant.ids);
      few = omega (arith, c.in_ok-count.ensures.count, few_parameters us, ap length front, length-append us rest, c.loop-one.invariant.few);
    }
