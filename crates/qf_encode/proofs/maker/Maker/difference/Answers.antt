use Rattle.std.proofs.Common.{◌≡◌, ◌++◌, [], ◌∷◌, map, refl, ◌+ℤ◌, ◌-ℤ◌, w64, SFits, to_z, of_z, rules}
use Rattle.std.proofs.lemmas.Int.{to_z-of_z}
use Rattle.qf_circuit.specs.declared.circuit.Def.TheVariants as def
use Rattle.qf_encode.specs.Coding.{with_terms, addend, opposite, terms_in, constant_in}
use Rattle.qf_encode.proofs.Loops.{sides_few, both_sides}
use Rattle.qf_encode.proofs.maker.Maker.difference.Goals as goal

pub add_terms-requires : goal.add_terms-requires
add_terms-requires c =
    let xs = terms_in c.args.left.now in
    let ys = map opposite (terms_in c.args.right.now) in
    let few = sides_few c.args.self.now xs ys _ _ c.requires.few in
    record { few = rw c.terms_in.ensures few.0 }

pub subtract_terms-requires-clause-few : goal.subtract_terms-requires-clause-few
subtract_terms-requires-clause-few c =
    let xs = terms_in c.args.left.now in
    let ys = map opposite (terms_in c.args.right.now) in
    let few = sides_few c.args.self.now xs ys _ _ c.requires.few in
    rw (c.in_ok-add_terms.ensures.made, c.terms_in.ensures, c.terms_in-2.ensures) few.1

pub push-requires-clause-few : goal.push-requires-clause-few
push-requires-clause-few c =
    let xs = terms_in c.args.left.now in
    let ys = map opposite (terms_in c.args.right.now) in
    let few = sides_few c.args.self.now xs ys _ _ c.requires.few in
    let one = rw c.terms_in.ensures at c.in_ok-add_terms.ensures.made in
    let two = rw c.terms_in-2.ensures at c.in_ok-subtract_terms.ensures.made in
    let first = rw (c.new-sum.ensures, c.terms_in.ensures) at c.in_ok-add_terms.ensures.sum in
    let second = rw c.terms_in-2.ensures at c.in_ok-subtract_terms.ensures.sum in
    let both = both_sides c.args.columns.now c.args.self.now c.add_terms.new.self c.subtract_terms.new.self xs ys c.add_terms.new.sum c.subtract_terms.new.sum one first two second in
    rw both.0 few.2

pub returns-clause-made : goal.returns-clause-made
returns-clause-made c =
    let xs = terms_in c.args.left.now in
    let ys = map opposite (terms_in c.args.right.now) in
    let one = rw c.terms_in.ensures at c.in_ok-add_terms.ensures.made in
    let two = rw c.terms_in-2.ensures at c.in_ok-subtract_terms.ensures.made in
    let first = rw (c.new-sum.ensures, c.terms_in.ensures) at c.in_ok-add_terms.ensures.sum in
    let second = rw c.terms_in-2.ensures at c.in_ok-subtract_terms.ensures.sum in
    let both = both_sides c.args.columns.now c.args.self.now c.add_terms.new.self c.subtract_terms.new.self xs ys c.add_terms.new.sum c.subtract_terms.new.sum one first two second in
    let whole = with_terms c.args.self.now (xs ++ ys) in
    let fits : SFits w64 c.constant_of.result = search rules in
    let same : c.subtract_terms.new.self ++ def.Linear c.subtract_terms.new.sum (to_z w64 (of_z w64 c.constant_of.result)) ∷ [] ≡ whole ++ def.Linear (map (addend whole c.args.columns.now) (xs ++ ys)) ((constant_in c.args.left.now -ℤ constant_in c.args.right.now) +ℤ c.args.more) ∷ [] =
    rw (to_z-of_z w64 c.constant_of.result fits, both.1, both.0, c.constant_of.ensures, to_z-of_z w64 c.args.more c.ranges.more) refl in
    rw (← same) c.push.ensures.made

pub returns-clause-number : goal.returns-clause-number
returns-clause-number c =
    let xs = terms_in c.args.left.now in
    let ys = map opposite (terms_in c.args.right.now) in
    let one = rw c.terms_in.ensures at c.in_ok-add_terms.ensures.made in
    let two = rw c.terms_in-2.ensures at c.in_ok-subtract_terms.ensures.made in
    let first = rw (c.new-sum.ensures, c.terms_in.ensures) at c.in_ok-add_terms.ensures.sum in
    let second = rw c.terms_in-2.ensures at c.in_ok-subtract_terms.ensures.sum in
    let both = both_sides c.args.columns.now c.args.self.now c.add_terms.new.self c.subtract_terms.new.self xs ys c.add_terms.new.sum c.subtract_terms.new.sum one first two second in
    rw (← both.0) c.push.ensures.number
