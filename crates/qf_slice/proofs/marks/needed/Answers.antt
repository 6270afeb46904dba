use Rattle.std.proofs.Common.{◌≡◌, ◌∙◌, ap, sym, subst, arith, ℕ, ◌≤◌, length}
use Rattle.qf_ir.specs.Flow.{Place, Reaches}
use Rattle.qf_impact.proofs.Ranges.{plan-reaches}
use Rattle.qf_slice.specs.Marks.{AreNeeded, IsNeededSet}
use Rattle.qf_slice.proofs.Numbers.{set-is, if_ok}
use Rattle.qf_slice.proofs.marks.needed.Goals as goal

pub marked-requires : goal.marked-requires
marked-requires c =
    let few = c.statements-statements.ensures.sound.few_params in
    let len : length c.as_slice.result.now ≡ length c.args.program.now.olds = ap length c.as_slice.ensures ∙ c.in_ok-marks.ensures.len in
    omega (arith, few, len)

pub returns : goal.returns
returns c =
    let ss = c.args.program.now.statements in
    let marks = c.as_slice.result.now in
    let len : length marks ≡ length c.args.program.now.olds = ap length c.as_slice.ensures ∙ c.in_ok-marks.ensures.len in
    let own : (k : ℕ) (place : Place) → Reaches k ss place → (1 ≤ k) × (k ≤ length marks) =
    λ k place r. let range = plan-reaches c.args.program.now c.statements-statements.ensures.sound k place r in let low = range.0 in let high = range.1 in (low, omega (arith, high, len)) in
    if_ok c.new.result (λ params is places seeds_are.
    subst (IsNeededSet ss places) (sym is)
    (set-is ss places marks c.in_ok-params.params own c.in_ok-params.ensures (subst (AreNeeded ss places) (sym c.as_slice.ensures) (c.in_ok-marks.ensures.needed places seeds_are))))
    c.new.ensures
