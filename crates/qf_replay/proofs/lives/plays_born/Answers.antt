use Rattle.std.proofs.Common.{◌∙◌, ap, sym, subst, arith}
use Rattle.std.specs.declared.option.Option.{Option}
use Rattle.qf_ir.specs.declared.ast.Statement.TheVariants.{Update, Delete}
use Rattle.qf_ir.specs.Life.{Birth, ending_of}
use Rattle.qf_ir.specs.Fits.{BirthFits}
use Rattle.qf_replay.proofs.Items.{inserts-at}
use Rattle.qf_replay.proofs.BirthSteps.{birth_at-past, birth_at-is, birth_at-insert}
use Rattle.qf_replay.proofs.lives.plays_born.Goals as goal

pub returns-then-place-statements : goal.returns-then-place-statements
returns-then-place-statements c =
    sym (ap (λ b. ending_of b c.args.point.now) (birth_at-past c.args.width c.args.point.now c.args.statements.now c.args.birth.0 c.args.birth.1 (omega arith)))

pub returns-in-Update : goal.returns-in-Update
returns-in-Update c =
    sym (ap (λ b. ending_of b c.args.point.now)
    (birth_at-is c.args.width c.args.point.now c.args.statements.now c.args.birth.0 c.args.birth.1 c.index-statements-place.result (Update c.in-Update.sets c.in-Update.filter)
    (omega arith) c.index-statements-place.is c.in-Update.is))

pub returns-in-Delete : goal.returns-in-Delete
returns-in-Delete c =
    sym (ap (λ b. ending_of b c.args.point.now)
    (birth_at-is c.args.width c.args.point.now c.args.statements.now c.args.birth.0 c.args.birth.1 c.index-statements-place.result (Delete c.in-Delete.filter)
    (omega arith) c.index-statements-place.is c.in-Delete.is))

pub plays_tuple-requires-clause-items : goal.plays_tuple-requires-clause-items
plays_tuple-requires-clause-items c =
    rw c.as_slice-in-Insert.ensures
    (inserts-at c.args.statements.now c.args.birth.0 c.index-statements-place.result c.in-Insert.columns c.in-Insert.tuples c.args.point.now
    (omega arith) (sym c.index-statements-place.is ∙ c.in-Insert.is) c.requires.items)

pub plays_tuple-requires-clause-fits : goal.plays_tuple-requires-clause-fits
plays_tuple-requires-clause-fits c =
    let B : Option Birth → Type 0 = λ b. BirthFits b c.args.point.now in
    subst B
    (birth_at-insert c.args.width c.args.point.now c.args.statements.now c.args.birth.0 c.args.birth.1 c.index-statements-place.result
    c.in-Insert.columns c.as_slice.result.now c.in-Insert.tuples c.as_slice-in-Insert.result.now c.after-rest.result.now
    (omega arith) c.index-statements-place.is c.in-Insert.is c.as_slice.ensures c.as_slice-in-Insert.ensures c.after-rest.ensures)
    c.requires.fits

pub returns-in-Insert : goal.returns-in-Insert
returns-in-Insert c =
    c.plays_tuple.ensures
    ∙ sym (ap (λ b. ending_of b c.args.point.now)
    (birth_at-insert c.args.width c.args.point.now c.args.statements.now c.args.birth.0 c.args.birth.1 c.index-statements-place.result
    c.in-Insert.columns c.as_slice.result.now c.in-Insert.tuples c.as_slice-in-Insert.result.now c.after-rest.result.now
    (omega arith) c.index-statements-place.is c.in-Insert.is c.as_slice.ensures c.as_slice-in-Insert.ensures c.after-rest.ensures))
