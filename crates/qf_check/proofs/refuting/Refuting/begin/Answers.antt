use Rattle.std.proofs.lemmas.Result.{on_ok_weaker}
use Rattle.qf_check.proofs.UndoLemmas.{took_by}
use Rattle.qf_check.proofs.refuting.Refuting.begin.Goals as goal

pub returns : goal.returns
returns c =
    on_ok_weaker c.push.result
    (λ pushed. took_by c.args.self.now c.set.new.self c.push.new.self c.args.cause c.args.var c.args.bound c.get-former.result c.taken.result c.requires.first c.requires.last c.get-former.ensures c.taken.ensures c.set.ensures pushed c.requires.case c.requires.shallow c.requires.there)
    c.push.ensures
