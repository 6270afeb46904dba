use Rattle.std.proofs.Common.{◌≡◌, ◌∙◌, ap, sym, subst, arith, ℕ, ◌≤◌, length, List, Bool}
use Rattle.qf_ir.specs.Flow.{Place, Reaches}
use Rattle.qf_impact.specs.Reaches.{AreReaches}
use Rattle.qf_slice.specs.Marks.{AreNeeded, IsNext, AreSettled}
use Rattle.qf_slice.proofs.Marking.{marked-more, marks-are}
use Rattle.qf_slice.proofs.marks.needed_list.Goals as goal

pub loop-next-preserved : goal.loop-next-preserved
loop-next-preserved c =
    let ss = c.args.program.now.statements in
    let reaches = c.as_slice-reaches.result.now in
    let joined = c.loop-next.joined in
    let are : AreReaches ss reaches = subst (AreReaches ss) (sym c.as_slice-reaches.ensures) c.in_ok-reaches.ensures.reaches in
    let next : IsNext reaches c.loop-next.marks.items joined c.in-Some.next = subst (λ (ms : List Bool). IsNext reaches ms joined c.in-Some.next) c.as_slice.ensures.value c.in-Some.ensures.next in
    record {
      marked = marked-more ss c.args.seeds.now reaches are c.loop-next.marks.items joined c.add_all.new.self c.in-Some.next c.loop-next.invariant.marked next c.add_all.ensures;
      from = let within = next.within in omega (arith, within);
    }

pub returns-clause-needed : goal.returns-clause-needed
returns-clause-needed c places seeds_are =
    let ss = c.args.program.now.statements in
    let reaches = c.as_slice-reaches.result.now in
    let joined = c.loop-next.joined in
    let are : AreReaches ss reaches = subst (AreReaches ss) (sym c.as_slice-reaches.ensures) c.in_ok-reaches.ensures.reaches in
    let settled : AreSettled reaches c.loop-next.marks.items joined 0 (length reaches) =
    subst (λ (ms : List Bool). AreSettled reaches ms joined 0 (length reaches)) c.as_slice.ensures.value c.in_default.ensures.settled in
    let len : length reaches ≡ length c.args.program.now.olds = ap length c.as_slice-reaches.ensures ∙ c.in_ok-reaches.ensures.len in
    let own : (k : ℕ) (place : Place) → Reaches k ss place → (1 ≤ k) × (k ≤ length reaches) =
    λ k place r. let range = c.in_ok-reaches.ensures.own k place r in let low = range.0 in let high = range.1 in (low, omega (arith, high, len)) in
    subst (AreNeeded ss places) (sym c.from_vec.ensures)
    (marks-are ss c.args.seeds.now reaches are c.loop-next.marks.items joined c.loop-next.invariant.marked settled own places seeds_are)
