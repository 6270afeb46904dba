use Rattle.std.proofs.Common.{◌≡◌, ◌∙◌, sym, arith, ◌+◌, ◌-◌, ◌<◌, ◌≤◌, length, ap, drop, slice_get}
use Rattle.std.specs.declared.option.Option.TheVariants.{Some}
use Rattle.qf_ir.specs.declared.ast.Statement.TheVariants.{Update, Delete, Insert}
use Rattle.qf_replay.specs.BirthPlaces.{births_from}
use Rattle.qf_replay.proofs.BirthSteps.{places-within, places-past, exists-here, place-here}
use Rattle.qf_replay.proofs.births.find_birth.Goals as goal
use Rattle.qf_replay.proofs.births.find_birth.Goals.{in-Update, in-Delete, in-Insert+else-tuple-len}

pub returns-then-tuple-len : goal.returns-then-tuple-len
returns-then-tuple-len c =
    let within : c.loop-i.tuple < length c.in-Insert.tuples = omega (arith, c.len.ensures, c.if-tuple-len.true) in
    sym (place-here c.args.statements.now c.loop-i.i c.index-statements-i.result (Insert c.in-Insert.columns c.in-Insert.tuples) c.loop-i.tuple _ c.loop-i-test.true c.index-statements-i.is c.in-Insert.is
    c.loop-i.invariant.exists c.loop-i.invariant.place)
    ∙ places-within c.loop-i.i 0 (length c.in-Insert.tuples) c.loop-i.tuple (births_from (c.loop-i.i + 1) (drop (c.loop-i.i + 1) c.args.statements.now)) within
    ∙ (let same : 0 + c.loop-i.tuple ≡ c.loop-i.tuple = omega arith in ap (λ t. Some (c.loop-i.i, t)) same)

pub loop-i-preserved : goal.loop-i-preserved
loop-i-preserved c =
    elim c.match-statement.branch [
      | in-Update w ↦ record {
        exists = rw w.tuple-is (exists-here c.args.statements.now c.loop-i.i c.index-statements-i.result (Update w.in-Update.sets w.in-Update.filter) c.loop-i.tuple _ c.loop-i-test.true c.index-statements-i.is w.in-Update.is c.loop-i.invariant.exists c.loop-i.invariant.place);
        small = omega (arith, w.tuple-is, c.loop-i.invariant.small);
        place = rw w.tuple-is (place-here c.args.statements.now c.loop-i.i c.index-statements-i.result (Update w.in-Update.sets w.in-Update.filter) c.loop-i.tuple _ c.loop-i-test.true c.index-statements-i.is w.in-Update.is c.loop-i.invariant.exists c.loop-i.invariant.place);
      }
      | in-Delete w ↦ record {
        exists = rw w.tuple-is (exists-here c.args.statements.now c.loop-i.i c.index-statements-i.result (Delete w.in-Delete.filter) c.loop-i.tuple _ c.loop-i-test.true c.index-statements-i.is w.in-Delete.is c.loop-i.invariant.exists c.loop-i.invariant.place);
        small = omega (arith, w.tuple-is, c.loop-i.invariant.small);
        place = rw w.tuple-is (place-here c.args.statements.now c.loop-i.i c.index-statements-i.result (Delete w.in-Delete.filter) c.loop-i.tuple _ c.loop-i-test.true c.index-statements-i.is w.in-Delete.is c.loop-i.invariant.exists c.loop-i.invariant.place);
      }
      | in-Insert+else-tuple-len w ↦
          let past : length w.in-Insert.tuples ≤ c.loop-i.tuple = omega (arith, w.len.ensures, w.if-tuple-len.false) in
          let next = drop (c.loop-i.i + 1) c.args.statements.now in
          let exists = exists-here c.args.statements.now c.loop-i.i c.index-statements-i.result (Insert w.in-Insert.columns w.in-Insert.tuples) c.loop-i.tuple _ c.loop-i-test.true c.index-statements-i.is w.in-Insert.is c.loop-i.invariant.exists c.loop-i.invariant.place in
          record {
            exists = omega (arith, exists, w.tuple-is, w.len-tuple.ensures, past);
            small = omega (arith, w.tuple-is, c.loop-i.invariant.small);
            place =
                rw w.tuple-is
                (ap (λ n. slice_get (births_from (c.loop-i.i + 1) next) (c.loop-i.tuple - n)) w.len-tuple.ensures
                ∙ sym (places-past c.loop-i.i 0 (length w.in-Insert.tuples) c.loop-i.tuple (births_from (c.loop-i.i + 1) next) past)
                ∙ place-here c.args.statements.now c.loop-i.i c.index-statements-i.result (Insert w.in-Insert.columns w.in-Insert.tuples) c.loop-i.tuple _ c.loop-i-test.true c.index-statements-i.is w.in-Insert.is
                c.loop-i.invariant.exists c.loop-i.invariant.place);
          }
    ]
