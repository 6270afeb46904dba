use Rattle.std.proofs.Common.{length, sym}
use Rattle.qf_check.proofs.UndoLemmas.{selector_there, zero_goes_on}
use Rattle.qf_check.proofs.refuting.Refuting.begin_cases.Goals as goal

pub begin-requires-clause-first : goal.begin-requires-clause-first
begin-requires-clause-first c =
    (selector_there (length c.args.self.now.bounds) c.args.system.now.selectors c.args.var c.requires.tracked.selectors (sym c.if-not-is_selector.ensures)).0

pub begin-requires-clause-last : goal.begin-requires-clause-last
begin-requires-clause-last c =
    (selector_there (length c.args.self.now.bounds) c.args.system.now.selectors c.args.var c.requires.tracked.selectors (sym c.if-not-is_selector.ensures)).1

pub returns-clause-goes_on : goal.returns-clause-goes_on
returns-clause-goes_on c = λ right.
    zero_goes_on c.args.system.now c.args.self.now c.begin.new.self c.args.var c.requires.there c.requires.tracked c.in_ok-begin.ensures
