use Rattle.std.proofs.Common.{◌≡◌, ◌&&◌, ◌-◌, ◌<◌, ℕ, Bool, true, false, cond, length, arith}
use Rattle.std.proofs.lemmas.Bool.Decides.{nat_tests}
use Rattle.qf_lin.specs.Inequalities.{is_empty}
use Rattle.qf_lin.specs.Steps.{is_number_of}
use Rattle.qf_check.proofs.UndoLemmas.{empty-count, crossed-there, fits_here, tight_wrong, tight_took, tight_goes_on}
use Rattle.qf_check.proofs.refuting.Refuting.tighten.Goals as goal
use Rattle.qf_check.proofs.refuting.Refuting.tighten.Goals.{then-self-gt0-via-then-self-gt0, then-self-gt0-via-else-self-gt0+then-var-eq0, then-self-gt0-via-else-self-gt0+else-var-eq0+then-var-len}

by_empty : (flag other : Bool) → flag ≡ true → ((cond flag false true) && other) ≡ false
by_empty true other e = cc
by_empty false other e = cc

by_other : (flag other : Bool) → other ≡ false → ((cond flag false true) && other) ≡ false
by_other true other e = cc
by_other false other e = e

no_number : (var count : ℕ) → var ≡ 0 → is_number_of var count ≡ false
no_number var count e = grind (arith, nat_tests)

past_number : (var count : ℕ) → count < var → is_number_of var count ≡ false
past_number var count e = grind (arith, nat_tests)

pub returns-then-self-gt0-clause-right : goal.returns-then-self-gt0-clause-right
returns-then-self-gt0-clause-right c =
    let old = c.args.self.now in
    let bounds = old.bounds in
    let var = c.args.var in
    let wrong = tight_wrong c.args.system.now old c.args.inequality var c.args.bound c.requires.there in
    elim c.then-self-gt0.branch [
      | then-self-gt0-via-then-self-gt0 w ↦ wrong (by_empty (is_empty bounds) (is_number_of var (length bounds)) ((empty-count bounds).1 (omega (arith, w.if-self-gt0.true, c.requires.tracked.crossed))))
      | then-self-gt0-via-else-self-gt0+then-var-eq0 w ↦ wrong (by_other (is_empty bounds) (is_number_of var (length bounds)) (no_number var (length bounds) w.if-var-eq0.true))
      | then-self-gt0-via-else-self-gt0+else-var-eq0+then-var-len w ↦ wrong (by_other (is_empty bounds) (is_number_of var (length bounds)) (past_number var (length bounds) (omega (arith, w.if-var-len.true, w.len.ensures.len))))
    ]

pub apply_step-requires : goal.apply_step-requires
apply_step-requires c =
    let old = c.args.self.now in
    record { fit = fits_here c.args.system.now old.bounds old.changes c.requires.tracked.fits ((empty-count old.bounds).0 (omega (arith, c.if-self-gt0.false, c.requires.tracked.crossed))) }

pub recount-self-requires-clause-there : goal.recount-self-requires-clause-there
recount-self-requires-clause-there c =
    omega (arith, crossed-there c.args.self.now.bounds (c.args.var - 1) c.get-former.result c.get-former.ensures, c.requires.tracked.crossed)

pub returns-clause-goes_on : goal.returns-clause-goes_on
returns-clause-goes_on c = λ right.
    let old = c.args.self.now in
    let took = tight_took old c.apply_step.new.bounds c.recount-self.result c.push.new.self c.args.var c.args.bound c.get-former.result c.get.result (omega (arith, c.if-var-eq0.false)) (omega (arith, c.if-var-len.false, c.len.ensures.len)) c.requires.tracked.crossed c.requires.tracked.shallow c.requires.there c.get-former.ensures c.if-not-apply_step.ensures.bounds c.get.ensures c.recount-self.ensures c.in_ok-push.ensures in
    tight_goes_on c.args.system.now old _ c.args.var c.args.bound c.args.inequality c.requires.there c.requires.tracked took
