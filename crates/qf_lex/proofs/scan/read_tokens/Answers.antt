use Rattle.std.proofs.Common.{◌≡◌, ◌++◌, [], ◌-◌, length, sym, ◌∙◌, subst, arith}
use Rattle.std.proofs.lemmas.List.{append-nil}
use Rattle.std.proofs.lemmas.Result.{err_from_is_err_and}
use Rattle.qf_lex.specs.Pieces.{text_of, then_before, Fits}
use Rattle.qf_lex.specs.Views.{piece_of}
use Rattle.qf_lex.proofs.Scanning.{SoFar, more, unsound, is_stuck, rest_fits, shorter, token_is, no_token, stuck_at}
use Rattle.qf_lex.proofs.Cutting.{found_fits, found_none}
use Rattle.qf_lex.proofs.scan.read_tokens.Goals as goal
use Rattle.qf_lex.proofs.scan.read_tokens.Goals.{In-Some, in-Some-2+in_ok-push, in_default-2}

the_piece : (c : In-Some) → (c.loop-rest.rest.now ≡ text_of (piece_of c.in-Some.piece) ++ c.in-Some.after.now) × Fits c.loop-rest.before (piece_of c.in-Some.piece) c.in-Some.after.now
the_piece c = found_fits c.loop-rest.before c.loop-rest.rest.now (piece_of c.in-Some.piece) c.in-Some.after.now c.in-Some.ensures

pub returns-in_default-first_piece-clause-faults : goal.returns-in_default-first_piece-clause-faults
returns-in_default-first_piece-clause-faults c = λ _.
    is_stuck c.args.bytes.now c.loop-rest.rest.now c.loop-rest.before c.loop-rest.found c.stuck.result c.loop-rest.invariant
    (found_none c.loop-rest.before c.loop-rest.rest.now c.in_default-first_piece.ensures) (stuck_at _ c.loop-rest.rest.now c.stuck.result c.in-len1-up.len_at_least c.stuck.ensures)

pub overflow_sub-end : goal.overflow_sub-end
overflow_sub-end c =
    let p = the_piece c in
    omega (arith, shorter c.loop-rest.before (piece_of c.in-Some.piece) c.loop-rest.rest.now c.in-Some.after.now p.0 p.1, rest_fits c.loop-rest.invariant)

pub returns-in_err-kind-clause-faults : goal.returns-in_err-kind-clause-faults
returns-in_err-kind-clause-faults c =
    let q = err_from_is_err_and c.from_residual.result c.from_residual.ensures.1 in
    let p = the_piece (goal.at.returns-in_err-kind-clause-faults c).In-Some in
    rw (q.1, q.2) (λ _. unsound c.args.bytes.now c.loop-rest.rest.now c.in-Some.after.now c.loop-rest.before c.loop-rest.found (piece_of c.in-Some.piece) c.in_err-kind.field-0.0 c.loop-rest.invariant p.0 p.1 c.in_err-kind.ensures)

pub loop-rest-smaller : goal.loop-rest-smaller
loop-rest-smaller c =
    let p = the_piece (goal.at.loop-rest-smaller c).In-Some in
    shorter c.loop-rest.before (piece_of c.in-Some.piece) c.loop-rest.rest.now c.in-Some.after.now p.0 p.1

pub loop-rest-preserved : goal.loop-rest-preserved
loop-rest-preserved c =
    let p = the_piece (goal.at.loop-rest-preserved c).In-Some in
    let bytes = c.args.bytes.now in
    let rest = c.loop-rest.rest.now in
    let after = c.in-Some.after.now in
    let piece = piece_of c.in-Some.piece in
    let fits = rest_fits c.loop-rest.invariant in
    rw c.then_before-before.ensures (elim c.match-branch-2.branch [
      | in-Some-2+in_ok-push w ↦ rw (w.found-is, w.in_ok-push.ensures.ok) (
          more bytes rest after c.loop-rest.before c.loop-rest.found _ piece c.loop-rest.invariant p.0 p.1 c.in_ok-kind.ensures.1
          (token_is bytes rest after piece w.in-Some-2.kind fits p.0 (sym w.in-Some-2.is ∙ c.in_ok-kind.ensures.0)))
      | in_default-2 w ↦ rw w.found-is (
          subst (λ t. SoFar bytes after (then_before c.loop-rest.before piece) t) (append-nil c.loop-rest.found)
          (more bytes rest after c.loop-rest.before c.loop-rest.found [] piece c.loop-rest.invariant p.0 p.1 c.in_ok-kind.ensures.1
          (no_token (length bytes - length rest) piece (sym w.in_default-2.is ∙ c.in_ok-kind.ensures.0))))
    ])
