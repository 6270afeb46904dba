use Rattle.std.proofs.Common.{◌∙◌, ap, ◌+◌, ◌||◌, refl}
use Rattle.std.proofs.lemmas.Result.{err_from_is_err_and}
use Rattle.qf_check.proofs.WalkLemmas.{told_taken}
use Rattle.qf_check.proofs.walk.Walk.step.Goals as goal

pub returns-in_err-visit_box-clause-err : goal.returns-in_err-visit_box-clause-err
returns-in_err-visit_box-clause-err c = λ nodes.
    let p = err_from_is_err_and c.from_residual.result c.from_residual.ensures.1 in
    rw (p.1, p.2) (c.in_err-visit_box.ensures.err nodes)

pub returns-clause-told : goal.returns-clause-told
returns-clause-told c =
    let middle = c.visit_box.new.self in
    told_taken c.args.grounds.now c.args.self.now middle
    (record { boxes = middle.boxes; made = middle.made; room = middle.room; line = c.in_ok-self.field-0; least = middle.least; any_open = c.either-self.result })
    c.args.node.now refl refl c.in_ok-visit_box.ensures.taken
    (c.in_ok-self.ensures ∙ ap (λ n. middle.line + n) c.in_ok-line_count.ensures)
    (c.either-self.ensures ∙ ap (λ b. middle.any_open || b) c.is_open.ensures)
