use Rattle.std.proofs.Common.{◌≡◌, ◌++◌, map, drop}
use Rattle.qf_encode.specs.Coding.{with_terms, addend}
use Rattle.qf_encode.proofs.maker.Maker.add_terms.Given as goal

abbrev pub invariant-loop-term : goal.invariant-loop-term
invariant-loop-term l =
    let whole = with_terms l.fn.self l.terms in
    record {
      made : with_terms l.self (drop l.term-index l.terms) ≡ whole;
      sum : l.sum ++ map (addend whole l.columns) (drop l.term-index l.terms) ≡ l.fn.sum ++ map (addend whole l.columns) l.terms;
    }
