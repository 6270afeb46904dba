use Rattle.std.proofs.Common.{◌∙◌, sym, ap, arith, Some, None}
use Rattle.std.proofs.lemmas.Result.{err_from_is_err_and}
use Rattle.qf_grammar.specs.Statements.{statements_of}
use Rattle.qf_grammar.proofs.JudgingLaws.{left_count, nows, empty_piece, good_piece, stops_at, after_count, no_piece, a_piece, piece_count, from_left, all_read, start_is}
use Rattle.qf_grammar.proofs.judging.statements.Goals as goal

pub loop-left-init : goal.loop-left-init
loop-left-init c = (start_is c.args.numbers.now c.new-found.result c.args.lexemes.now c.new-found.ensures, omega arith)

pub returns-in_err-stated : goal.returns-in_err-stated
returns-in_err-stated c =
    let q = err_from_is_err_and c.from_residual.result c.from_residual.ensures.1 in
    rw (q.1, q.2) (stops_at c.args.numbers.now c.loop-left.first c.loop-left.number c.loop-left.found (statements_of c.args.numbers.now c.args.lexemes.now) c.in-Some.rest.now c.cut.result.0.now (nows c.cut.result.1) c.in_err-stated.field-0.0 c.cut.ensures (a_piece c.cut.result.0.now (sym c.has_lexemes.ensures ∙ c.if-has_lexemes.true)) c.in_err-stated.ensures (from_left c.args.numbers.now c.loop-left.first c.loop-left.number c.loop-left.found (statements_of c.args.numbers.now c.args.lexemes.now) c.loop-left.left (Some c.in-Some.rest) c.in-Some.is c.loop-left.invariant.0))

pub overflow_add-number : goal.overflow_add-number
overflow_add-number c = omega (arith, c.loop-left.invariant.1, c.requires)

pub loop-left-smaller-in_ok-push : goal.loop-left-smaller-in_ok-push
loop-left-smaller-in_ok-push c = omega (arith, after_count c.in-Some.rest.now c.cut.result.0.now (nows c.cut.result.1) c.cut.ensures, ap (λ o. left_count (nows o)) c.in-Some.is)

pub loop-left-preserved-in_ok-push : goal.loop-left-preserved-in_ok-push
loop-left-preserved-in_ok-push c = (
  rw (c.first_table-first.ensures, c.in_ok-push.ensures.ok) (good_piece c.args.numbers.now c.loop-left.first c.loop-left.number c.loop-left.found (statements_of c.args.numbers.now c.args.lexemes.now) c.in-Some.rest.now c.cut.result.0.now (nows c.cut.result.1) c.in_ok-stated.stated c.cut.ensures (a_piece c.cut.result.0.now (sym c.has_lexemes.ensures ∙ c.if-has_lexemes.true)) c.in_ok-stated.ensures (from_left c.args.numbers.now c.loop-left.first c.loop-left.number c.loop-left.found (statements_of c.args.numbers.now c.args.lexemes.now) c.loop-left.left (Some c.in-Some.rest) c.in-Some.is c.loop-left.invariant.0)),
  omega (arith, after_count c.in-Some.rest.now c.cut.result.0.now (nows c.cut.result.1) c.cut.ensures, ap (λ o. left_count (nows o)) c.in-Some.is, c.loop-left.invariant.1, piece_count c.cut.result.0.now (sym c.has_lexemes.ensures ∙ c.if-has_lexemes.true)),
)

pub loop-left-smaller : goal.loop-left-smaller
loop-left-smaller c = omega (arith, after_count c.in-Some.rest.now c.cut.result.0.now (nows c.cut.result.1) c.cut.ensures, ap (λ o. left_count (nows o)) c.in-Some.is)

pub loop-left-preserved : goal.loop-left-preserved
loop-left-preserved c =
    (empty_piece c.args.numbers.now c.loop-left.first c.loop-left.number c.loop-left.found (statements_of c.args.numbers.now c.args.lexemes.now) c.in-Some.rest.now c.cut.result.0.now (nows c.cut.result.1) c.cut.ensures (no_piece c.cut.result.0.now (sym c.has_lexemes.ensures ∙ c.if-has_lexemes.false)) (from_left c.args.numbers.now c.loop-left.first c.loop-left.number c.loop-left.found (statements_of c.args.numbers.now c.args.lexemes.now) c.loop-left.left (Some c.in-Some.rest) c.in-Some.is c.loop-left.invariant.0), omega (arith, after_count c.in-Some.rest.now c.cut.result.0.now (nows c.cut.result.1) c.cut.ensures, ap (λ o. left_count (nows o)) c.in-Some.is, c.loop-left.invariant.1))

pub returns : goal.returns
returns c = all_read c.loop-left.found (statements_of c.args.numbers.now c.args.lexemes.now) (from_left c.args.numbers.now c.loop-left.first c.loop-left.number c.loop-left.found (statements_of c.args.numbers.now c.args.lexemes.now) c.loop-left.left None c.in_default.is c.loop-left.invariant.0)
