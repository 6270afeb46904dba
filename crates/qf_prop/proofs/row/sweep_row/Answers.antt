use Rattle.std.proofs.Common.{sym, ap, ◌∙◌, arith, List, pos, get_or, take, fold, ◌<◌, length, ◌+◌}
use Rattle.std.proofs.lemmas.List.{take_all, get_or_default}
use Rattle.qf_base.specs.Values.{Term}
use Rattle.qf_lin.specs.declared.inequality.Inequality.{Inequality}
use Rattle.qf_lin.specs.Inequalities.{tightened}
use Rattle.qf_prop.specs.Sweeps.{row_at}
use Rattle.qf_prop.proofs.Derivations.{leads_then, fits_after}
use Rattle.qf_prop.proofs.Rows.{row_is, term_named, term_more, row_ended}
use Rattle.qf_prop.proofs.row.sweep_row.Goals as goal

pub tighten_at-requires-clause-in_row : goal.tighten_at-requires-clause-in_row
tighten_at-requires-clause-in_row c =
    let row = row_at c.args.system.now.inequalities c.args.number in
    let i = c.loop-term.term-index in
    let t = get_or c.as_slice-terms.result.now i (pos 0, 0) in
    let terms = c.as_slice-terms.ensures ∙ ap (λ (r : Inequality). r.terms) (row_is c.args.system.now.inequalities c.args.number c.at-row.result.now (rw c.from.ensures at c.at-row.ensures)) in
    let long = ap length terms in
    let within : i < length row.terms = omega (arith, c.loop-term-test.true) in
    let is = ap (λ (ts : List Term). get_or ts i (pos 0, 0)) terms ∙ get_or_default row.terms i (pos 0, 0) t within in
    let fits = fits_after c.args.system.now c.loop-term.invariant.leads.0 c.args.trail.now.bounds c.loop-term.trail.bounds c.loop-term.invariant.leads.2 c.requires.fits in
    term_named c.args.system.now c.loop-term.trail.bounds c.args.number i t c.requires.number.0 c.requires.number.1 fits within is

pub returns-in_err-tighten_at-clause-leads : goal.returns-in_err-tighten_at-clause-leads
returns-in_err-tighten_at-clause-leads c =
    leads_then c.args.system.now c.args.trail.now c.loop-term.trail c.tighten_at.new.trail c.args.steps.now c.loop-term.steps c.tighten_at.new.steps c.loop-term.invariant.leads c.tighten_at.ensures.leads

pub returns-then-branch-clause-leads : goal.returns-then-branch-clause-leads
returns-then-branch-clause-leads c =
    leads_then c.args.system.now c.args.trail.now c.loop-term.trail c.tighten_at.new.trail c.args.steps.now c.loop-term.steps c.tighten_at.new.steps c.loop-term.invariant.leads c.tighten_at.ensures.leads

pub returns-then-branch-clause-bounds : goal.returns-then-branch-clause-bounds
returns-then-branch-clause-bounds c =
    let row = row_at c.args.system.now.inequalities c.args.number in
    let i = c.loop-term.term-index in
    let t = get_or c.as_slice-terms.result.now i (pos 0, 0) in
    let terms = c.as_slice-terms.ensures ∙ ap (λ (r : Inequality). r.terms) (row_is c.args.system.now.inequalities c.args.number c.at-row.result.now (rw c.from.ensures at c.at-row.ensures)) in
    let long = ap length terms in
    let within : i < length row.terms = omega (arith, c.loop-term-test.true) in
    let is = ap (λ (ts : List Term). get_or ts i (pos 0, 0)) terms ∙ get_or_default row.terms i (pos 0, 0) t within in
    let so_far = c.loop-term.invariant.so_far ∙ ap (λ (ts : List Term). fold (tightened row) c.args.trail.now.bounds (take i ts)) terms in
    let more = term_more row c.args.trail.now.bounds c.loop-term.trail.bounds c.tighten_at.new.trail.bounds i t within is so_far c.loop-term.invariant.nonempty c.in_ok-tighten_at.ensures.bounds in
    row_ended row c.args.trail.now.bounds c.tighten_at.new.trail.bounds (i + 1) more (sym c.in_ok-tighten_at.ensures.empty ∙ c.if-branch.true)

pub loop-term-preserved : goal.loop-term-preserved
loop-term-preserved c =
    let row = row_at c.args.system.now.inequalities c.args.number in
    let i = c.loop-term.term-index in
    let t = get_or c.as_slice-terms.result.now i (pos 0, 0) in
    let terms = c.as_slice-terms.ensures ∙ ap (λ (r : Inequality). r.terms) (row_is c.args.system.now.inequalities c.args.number c.at-row.result.now (rw c.from.ensures at c.at-row.ensures)) in
    let long = ap length terms in
    let within : i < length row.terms = omega (arith, c.loop-term-test.true) in
    let is = ap (λ (ts : List Term). get_or ts i (pos 0, 0)) terms ∙ get_or_default row.terms i (pos 0, 0) t within in
    let so_far = c.loop-term.invariant.so_far ∙ ap (λ (ts : List Term). fold (tightened row) c.args.trail.now.bounds (take i ts)) terms in
    let more = term_more row c.args.trail.now.bounds c.loop-term.trail.bounds c.tighten_at.new.trail.bounds i t within is so_far c.loop-term.invariant.nonempty c.in_ok-tighten_at.ensures.bounds in
    record {
      leads = leads_then c.args.system.now c.args.trail.now c.loop-term.trail c.tighten_at.new.trail c.args.steps.now c.loop-term.steps c.tighten_at.new.steps c.loop-term.invariant.leads c.tighten_at.ensures.leads;
      so_far = more ∙ ap (λ (ts : List Term). fold (tightened row) c.args.trail.now.bounds (take (i + 1) ts)) (sym terms);
      spelled = λ fit. c.tighten_at.ensures.spelled (c.loop-term.invariant.spelled fit);
      nonempty = sym c.in_ok-tighten_at.ensures.empty ∙ c.if-branch.false;
    }

pub returns-clause-bounds : goal.returns-clause-bounds
returns-clause-bounds c =
    let row = row_at c.args.system.now.inequalities c.args.number in
    let terms = c.as_slice-terms.ensures ∙ ap (λ (r : Inequality). r.terms) (row_is c.args.system.now.inequalities c.args.number c.at-row.result.now (rw c.from.ensures at c.at-row.ensures)) in
    let whole = take_all c.loop-term.term-index c.as_slice-terms.result.now (omega arith) in
    c.loop-term.invariant.so_far ∙ ap (fold (tightened row) c.args.trail.now.bounds) (whole ∙ terms)

pub tighten_at-requires-clause-fits : goal.tighten_at-requires-clause-fits
tighten_at-requires-clause-fits c =
    fits_after c.args.system.now c.loop-term.invariant.leads.0 c.args.trail.now.bounds c.loop-term.trail.bounds c.loop-term.invariant.leads.2 c.requires.fits

pub returns-in_err-tighten_at-clause-spelled : goal.returns-in_err-tighten_at-clause-spelled
returns-in_err-tighten_at-clause-spelled c = λ fit. c.tighten_at.ensures.spelled (c.loop-term.invariant.spelled fit)

pub returns-then-branch-clause-spelled : goal.returns-then-branch-clause-spelled
returns-then-branch-clause-spelled c = λ fit. c.tighten_at.ensures.spelled (c.loop-term.invariant.spelled fit)

pub returns-clause-spelled : goal.returns-clause-spelled
returns-clause-spelled c = c.loop-term.invariant.spelled
