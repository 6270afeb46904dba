use Rattle.std.proofs.Common.{◌≡◌, ◌++◌, map, drop}
use Rattle.qf_encode.specs.Coding.{with_terms, addend, opposite}
use Rattle.qf_encode.specs.Making.{TermsTurn}
use Rattle.qf_encode.proofs.maker.Maker.subtract_terms.Given as goal

abbrev pub invariant-loop-term : goal.invariant-loop-term
invariant-loop-term l =
    let whole = with_terms l.fn.self (map opposite l.terms) in
    record {
      made : with_terms l.self (map opposite (drop l.term-index l.terms)) ≡ whole;
      sum : l.sum ++ map (addend whole l.columns) (map opposite (drop l.term-index l.terms)) ≡ l.fn.sum ++ map (addend whole l.columns) (map opposite l.terms);
      turn : TermsTurn (drop l.term-index l.terms);
    }
