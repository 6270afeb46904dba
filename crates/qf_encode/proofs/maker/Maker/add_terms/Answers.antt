use Rattle.std.proofs.Common.{◌+◌, ◌∙◌, ◌++◌, [], ◌∷◌, ap, drop, get_or, pos}
use Rattle.std.proofs.lemmas.List.{drop_more}
use Rattle.qf_ir.specs.declared.ast.Atom.TheVariants.{Column}
use Rattle.qf_ir.specs.declared.ast.Term.{Term}
use Rattle.qf_encode.specs.Coding.{with_terms}
use Rattle.qf_encode.proofs.Loops.{atom_few, sum_next}
use Rattle.qf_encode.proofs.maker.Maker.add_terms.Goals as goal

abbrev none : Term
none = record { factor = pos 0; atom = Column 0 }

pub atom-requires : goal.atom-requires
atom-requires c =
    let terms = c.args.terms.now in
    let i = c.loop-term.term-index in
    let e = drop_more terms i none c.loop-term-test.true in
    let whole = with_terms c.args.self.now terms in
    record { few = atom_few c.loop-term.self whole (get_or terms i none) (drop (i + 1) terms) _ (rw e at c.loop-term.invariant.made) c.requires.few }

pub loop-term-preserved : goal.loop-term-preserved
loop-term-preserved c =
    let terms = c.args.terms.now in
    let i = c.loop-term.term-index in
    let e = drop_more terms i none c.loop-term-test.true in
    let whole = with_terms c.args.self.now terms in
    let next = sum_next c.args.columns.now c.loop-term.self c.atom.new.self whole (get_or terms i none) (drop (i + 1) terms) c.loop-term.sum c.push.new.self _ c.in_ok-number.number (rw e at c.loop-term.invariant.made) (rw e at c.loop-term.invariant.sum) c.in_ok-number.ensures.made c.in_ok-number.ensures.number (c.in_ok-push.ensures.ok ∙ ap (λ a. c.loop-term.sum ++ a ∷ []) c.addend.ensures) in
    record { made = next.0; sum = next.1 }
