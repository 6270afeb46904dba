use Rattle.std.proofs.Common.{◌≡◌, ◌∙◌, ap, sym, subst, List, arith}
use Rattle.std.proofs.lemmas.List.{drop_more}
use Rattle.qf_ir.specs.declared.ast.Expr.{Expr}
use Rattle.qf_ir.specs.Replay.{inserted_cells}
use Rattle.qf_ir.specs.Fits.{TuplesFit}
use Rattle.qf_replay.proofs.Keeping.{tuple_fits, tuple_kept}
use Rattle.qf_replay.proofs.table.keep_tuples.Goals as goal

pub keep-requires : goal.keep-requires
keep-requires c =
    let made : c.insert_cells.new.cells ≡ inserted_cells c.args.width c.args.columns.now c.tuple-item.result c.args.point.now =
    c.insert_cells.ensures ∙ ap (λ (tuple : List Expr). inserted_cells c.args.width c.args.columns.now tuple c.args.point.now) c.as_slice.ensures in
    record {
      fits = (tuple_fits c.args.width c.args.columns.now c.args.tuples.now c.args.rest.now c.args.point.now c.loop-tuple.tuple-index c.tuple-item.result c.insert_cells.new.cells
          c.loop-tuple-test.true c.tuple-item.is made c.loop-tuple.invariant.lives).0;
      room = c.loop-tuple.invariant.room ∙ sym c.insert_cells.auto.cells;
    }

pub loop-tuple-preserved : goal.loop-tuple-preserved
loop-tuple-preserved c =
    let made : c.insert_cells.new.cells ≡ inserted_cells c.args.width c.args.columns.now c.tuple-item.result c.args.point.now =
    c.insert_cells.ensures ∙ ap (λ (tuple : List Expr). inserted_cells c.args.width c.args.columns.now tuple c.args.point.now) c.as_slice.ensures in
    let opened = drop_more c.args.tuples.now c.loop-tuple.tuple-index c.tuple-item.result c.loop-tuple-test.true in
    record {
      width = c.keep.auto.cells ∙ c.insert_cells.auto.cells ∙ c.loop-tuple.invariant.width;
      room = c.keep.auto.fresh ∙ c.loop-tuple.invariant.room ∙ sym (c.keep.auto.cells ∙ c.insert_cells.auto.cells);
      number = omega (arith, c.loop-tuple.invariant.number);
      items = (subst (λ (ts : List (List Expr)). TuplesFit ts c.args.point.now) opened c.loop-tuple.invariant.items).1;
      lives = (tuple_fits c.args.width c.args.columns.now c.args.tuples.now c.args.rest.now c.args.point.now c.loop-tuple.tuple-index c.tuple-item.result c.insert_cells.new.cells
          c.loop-tuple-test.true c.tuple-item.is made c.loop-tuple.invariant.lives).1;
      rows =
          tuple_kept c.args.width c.args.columns.now c.args.tuples.now c.args.rest.now c.args.point.now c.loop-tuple.tuple-index c.loop-tuple.number c.tuple-item.result c.insert_cells.new.cells c.loop-tuple.rows c.keep.new.rows _
          c.loop-tuple-test.true c.tuple-item.is made c.in_ok-keep.ensures c.loop-tuple.invariant.rows;
    }
