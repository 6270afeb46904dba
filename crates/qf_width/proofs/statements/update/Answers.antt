use Rattle.std.proofs.Common.{rules, ◌≡◌, ap, sym, ◌∙◌, length, IsTrue, true}
use Rattle.std.specs.List.{list_all}
use Rattle.qf_ir.specs.Width.{is_narrow, where_steps, sets_steps, sets_widths}
use Rattle.qf_width.specs.Sets.{set_intervals, put_in}
use Rattle.qf_width.proofs.SetSteps.{put-sets, length-set_intervals, all-behind}
use Rattle.qf_width.proofs.statements.update.Goals as goal

pub put-requires : goal.put-requires
put-requires c =
    let yes : IsTrue c.in_ok-work_out.field-0 = search rules in
    ap length (c.as_slice-3.ensures.value ∙ c.in_ok-work_out.ensures.fresh yes) ∙ length-set_intervals c.args.sets.now c.args.filter.now _ c.args.domains.now

pub returns-clause-widths : goal.returns-clause-widths
returns-clause-widths c narrow =
    let yes : IsTrue c.in_ok-work_out.field-0 = search rules in
    c.put.ensures.widths
    ∙ ap (λ fresh. put_in c.args.sets.now fresh c.args.widths.now)
    (c.as_slice-3.ensures.value ∙ c.in_ok-work_out.ensures.fresh yes ∙ ap (λ before. set_intervals c.args.sets.now c.args.filter.now before c.args.domains.now) c.as_slice-2.ensures)
    ∙ put-sets c.args.sets.now c.args.filter.now c.args.widths.now c.args.domains.now c.args.widths.now

pub returns-clause-narrow : goal.returns-clause-narrow
returns-clause-narrow c =
    let yes : IsTrue c.in_ok-work_out.field-0 = search rules in
    let filter_narrow : list_all is_narrow (where_steps c.args.filter.now c.args.widths.now c.args.domains.now) ≡ true = search rules in
    let sets_narrow : list_all is_narrow (sets_steps c.args.sets.now c.args.widths.now c.args.domains.now) ≡ true = search rules in
    let put_widths = c.put.ensures.widths
    ∙ ap (λ fresh. put_in c.args.sets.now fresh c.args.widths.now)
    (c.as_slice-3.ensures.value ∙ c.in_ok-work_out.ensures.fresh yes ∙ ap (λ before. set_intervals c.args.sets.now c.args.filter.now before c.args.domains.now) c.as_slice-2.ensures)
    ∙ put-sets c.args.sets.now c.args.filter.now c.args.widths.now c.args.domains.now c.args.widths.now in
    c.are_narrow.ensures ∙ ap (λ ws. list_all is_narrow ws) (c.as_slice-4.ensures ∙ put_widths)
    ∙ sym (all-behind (where_steps c.args.filter.now c.args.widths.now c.args.domains.now) (sets_steps c.args.sets.now c.args.widths.now c.args.domains.now)
    (sets_widths c.args.sets.now c.args.filter.now c.args.widths.now c.args.domains.now c.args.widths.now) filter_narrow sets_narrow)
