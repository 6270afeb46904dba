use Rattle.std.proofs.Common.{◌≡◌, ◌+◌, ◌^◌, ◌<◌, [], ◌∷◌, ◌++◌, length, slice_index_or, arith, ap, sym, ◌∙◌, length-append}
use Rattle.qf_circuit.specs.declared.circuit.Def.TheVariants as def
use Rattle.qf_encode.specs.Coding.{with_param}
use Rattle.qf_encode.specs.Making.{known_number}
use Rattle.qf_encode.proofs.Params.{knows_same, knows_param, param_made}
use Rattle.qf_encode.proofs.maker.Maker.param.Goals as goal

pub invariant_of-self-2 : goal.invariant_of-self-2
invariant_of-self-2 c =
    let defs = c.self.inside.defs in
    let k = c.args.param in
    let more = defs ++ def.Param k ∷ [] in
    let knows = knows_same c.self.inside.params c.reach.new.numbers defs c.in_ok-reach.ensures.same c.self.invariant in
    let none : slice_index_or c.reach.new.numbers k 0 ≡ 0 = rw c.as_slice.ensures at (sym c.number_at-known.ensures ∙ c.if-known-ne0.false) in
    let gone : known_number defs k ≡ 0 = sym (knows.each k) ∙ none in
    let pushed : c.push.new.self ≡ more = c.in_ok-push.ensures.ok in
    let number : c.len-number.result ≡ length defs + 1 = omega (arith, c.len-number.ensures, ap length pushed, length-append defs (def.Param k ∷ [])) in
    let room : length (with_param defs k) < 2 ^ 32 = rw (← c.self.view_is) at c.requires.few in
    let few : length more < 2 ^ 32 = omega (arith, room, ap length (param_made defs k gone).0) in
    rw (c.set.ensures, pushed, c.from.ensures) (knows_param c.reach.new.numbers defs k c.len-number.result knows gone number (c.in_ok-reach.ensures.room) few)

pub returns-clause-number : goal.returns-clause-number
returns-clause-number c =
    let defs = c.self.inside.defs in
    let k = c.args.param in
    let more = defs ++ def.Param k ∷ [] in
    let knows = knows_same c.self.inside.params c.reach.new.numbers defs c.in_ok-reach.ensures.same c.self.invariant in
    let none : slice_index_or c.reach.new.numbers k 0 ≡ 0 = rw c.as_slice.ensures at (sym c.number_at-known.ensures ∙ c.if-known-ne0.false) in
    let gone : known_number defs k ≡ 0 = sym (knows.each k) ∙ none in
    let pushed : c.push.new.self ≡ more = c.in_ok-push.ensures.ok in
    let number : c.len-number.result ≡ length defs + 1 = omega (arith, c.len-number.ensures, ap length pushed, length-append defs (def.Param k ∷ [])) in
    rw pushed (number ∙ sym (param_made defs k gone).1)
