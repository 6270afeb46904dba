use Rattle.std.proofs.Common.{◌∙◌, ap, sym, ◌+◌, ◌++◌, length, drop, arith}
use Rattle.qf_base.specs.declared.names.RowName.TheVariants.{Inserted}
use Rattle.qf_ir.specs.declared.ast.Statement.TheVariants.{Insert}
use Rattle.qf_ir.specs.Replay.{named_rows, inserted_table}
use Rattle.qf_ir.specs.Life.{survivors, inserted_survivors}
use Rattle.qf_replay.proofs.Keeping.{Kept, kept_at, kept_update, kept_delete, kept_insert}
use Rattle.qf_replay.proofs.table.keep_inserted.Goals as goal
use Rattle.qf_replay.proofs.table.keep_inserted.Goals.{in-Update, in-Delete, in-Insert+in_ok-keep_tuples-in-Insert}

pub keep_tuples-requires : goal.keep_tuples-requires
keep_tuples-requires c =
    let whole = c.args.rows.now ++ inserted_survivors c.args.width c.args.point.now c.args.statements.now 0 in
    let before : Kept c.args.width c.args.statements.now c.args.point.now whole c.loop-i.i c.loop-i.rows c.loop-i.inserted =
    record { count = c.loop-i.invariant.count; fits = c.loop-i.invariant.fits; rows_are = c.loop-i.invariant.rows } in
    let at = kept_at c.args.width c.args.statements.now c.args.point.now whole c.loop-i.i c.index-statements-i.result (Insert c.in-Insert.columns c.in-Insert.tuples) c.loop-i.rows c.loop-i.inserted
    c.loop-i-test.true c.index-statements-i.is c.in-Insert.is before in
    record {
      count = omega (arith, at.count, c.requires.count, ap length c.as_slice-in-Insert.ensures);
      width = c.loop-i.invariant.width;
      room = c.loop-i.invariant.room;
      items = rw c.as_slice-in-Insert.ensures at.fits.0;
      lives = rw (c.after-rest.ensures, c.as_slice.ensures, c.as_slice-in-Insert.ensures) at.fits.1;
    }

pub loop-i-preserved : goal.loop-i-preserved
loop-i-preserved c =
    let whole = c.args.rows.now ++ inserted_survivors c.args.width c.args.point.now c.args.statements.now 0 in
    let before : Kept c.args.width c.args.statements.now c.args.point.now whole c.loop-i.i c.loop-i.rows c.loop-i.inserted =
    record { count = c.loop-i.invariant.count; fits = c.loop-i.invariant.fits; rows_are = c.loop-i.invariant.rows } in
    let after : Kept c.args.width c.args.statements.now c.args.point.now whole (c.loop-i.i + 1) c.match-statement.rows c.match-statement.inserted =
    elim c.match-statement.branch [
      | in-Update w ↦
          kept_update c.args.width c.args.statements.now c.args.point.now whole c.loop-i.i c.index-statements-i.result w.in-Update.sets w.in-Update.filter c.loop-i.rows c.match-statement.rows c.loop-i.inserted c.match-statement.inserted
          c.loop-i-test.true c.index-statements-i.is w.in-Update.is w.rows-is w.inserted-is before
      | in-Delete w ↦
          kept_delete c.args.width c.args.statements.now c.args.point.now whole c.loop-i.i c.index-statements-i.result w.in-Delete.filter c.loop-i.rows c.match-statement.rows c.loop-i.inserted c.match-statement.inserted
          c.loop-i-test.true c.index-statements-i.is w.in-Delete.is w.rows-is w.inserted-is before
      | in-Insert+in_ok-keep_tuples-in-Insert w ↦
          kept_insert c.args.width c.args.statements.now c.args.point.now whole c.loop-i.i c.index-statements-i.result w.in-Insert.columns w.in-Insert.tuples c.loop-i.rows c.match-statement.rows c.loop-i.inserted c.match-statement.inserted
          c.loop-i-test.true c.index-statements-i.is w.in-Insert.is
          (w.rows-is ∙ w.in_ok-keep_tuples-in-Insert.ensures
          ∙ ap (λ rest. c.loop-i.rows ++ survivors c.args.point.now rest (named_rows (λ k. Inserted k) c.loop-i.inserted (inserted_table c.args.width w.as_slice.result.now w.as_slice-in-Insert.result.now c.args.point.now))) w.after-rest.ensures
          ∙ ap (λ columns. c.loop-i.rows ++ survivors c.args.point.now (drop (c.loop-i.i + 1) c.args.statements.now) (named_rows (λ k. Inserted k) c.loop-i.inserted (inserted_table c.args.width columns w.as_slice-in-Insert.result.now c.args.point.now))) w.as_slice.ensures
          ∙ ap (λ tuples. c.loop-i.rows ++ survivors c.args.point.now (drop (c.loop-i.i + 1) c.args.statements.now) (named_rows (λ k. Inserted k) c.loop-i.inserted (inserted_table c.args.width w.in-Insert.columns tuples c.args.point.now))) w.as_slice-in-Insert.ensures)
          (w.inserted-is ∙ ap (λ n. c.loop-i.inserted + n) w.len.ensures) before
    ] in
    record {
      count = after.count;
      width = c.match-statement.auto.cells ∙ c.loop-i.invariant.width;
      room = c.match-statement.auto.fresh ∙ c.loop-i.invariant.room ∙ sym c.match-statement.auto.cells;
      fits = after.fits;
      rows = after.rows_are;
    }
