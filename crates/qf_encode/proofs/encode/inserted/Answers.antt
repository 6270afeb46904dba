use Rattle.std.proofs.Common.{◌+◌, ◌≤◌, ◌∷◌, ◌∙◌, ap, sym, arith, drop, length}
use Rattle.qf_encode.proofs.Loops.{opened}
use Rattle.qf_encode.proofs.RowBirths.{coding_past}
use Rattle.qf_encode.proofs.encode.inserted.Goals as goal
use Rattle.qf_encode.proofs.encode.inserted.Goals.{in-Update, in-Delete, in-Insert+else-place-len}

pub loop-i-preserved : goal.loop-i-preserved
loop-i-preserved c =
    let statements = c.args.statements.now in
    let i = c.loop-i.i in
    let rest = drop (i + 1) statements in
    let e = opened statements i c.index-statements-i.result c.loop-i-test.true c.index-statements-i.is in
    let within = rw e at c.loop-i.invariant.within in
    let turn = rw e at c.loop-i.invariant.turn in
    elim c.match-statement.branch [
      | in-Update w ↦ record {
        within = within.1;
        turn = turn.1;
        rest =
            let all = e ∙ ap (λ s. s ∷ rest) w.in-Update.is in
            rw w.place-is (rw all at c.loop-i.invariant.rest);
      }
      | in-Delete w ↦ record {
        within = within.1;
        turn = turn.1;
        rest =
            let all = e ∙ ap (λ s. s ∷ rest) w.in-Delete.is in
            rw w.place-is (rw all at c.loop-i.invariant.rest);
      }
      | in-Insert+else-place-len w ↦ record {
        within = within.1;
        turn = turn.1;
        rest =
            let all = e ∙ ap (λ s. s ∷ rest) w.in-Insert.is in
            let past : length w.in-Insert.tuples ≤ c.loop-i.place = omega (arith, w.len.ensures, w.if-place-len.false) in
            rw (w.place-is, w.len-place.ensures) (sym (coding_past c.args.width (drop i statements) w.in-Insert.columns w.in-Insert.tuples c.loop-i.place rest all past) ∙ c.loop-i.invariant.rest);
      }
    ]
