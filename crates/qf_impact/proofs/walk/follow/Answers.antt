use Rattle.std.proofs.Common.{◌≡◌, ◌∙◌, ◌+◌, ◌∷◌, ap, sym, subst, drop, List, arith}
use Rattle.std.specs.List.{AllByRecursion}
use Rattle.std.proofs.lemmas.List.{drop_more}
use Rattle.qf_ir.specs.declared.ast.Statement.{Statement}
use Rattle.qf_impact.specs.Sets.{set_at, IsWithin}
use Rattle.qf_impact.proofs.Chains.{SoFar, step-on}
use Rattle.qf_impact.proofs.walk.follow.Goals as goal

pub loop-statement-preserved : goal.loop-statement-preserved
loop-statement-preserved c =
    let ss = c.args.statements.now in
    let i = c.loop-statement.statement-index in
    let s = c.statement-item.result in
    let opened : drop i ss ≡ s ∷ drop (i + 1) ss = drop_more ss i s c.loop-statement-test.true ∙ ap (λ x. x ∷ drop (i + 1) ss) (sym c.statement-item.is) in
    let within = subst (AllByRecursion IsWithin) opened c.loop-statement.invariant.within in
    let changed = c.in_ok-advance.ensures in
    let len = changed.len in
    record {
      len = changed.len ∙ c.loop-statement.invariant.len;
      room = omega (arith, len);
      within = within.1;
      so_far = λ k low.
          step-on (c.args.first + k) ss s (drop (i + 1) ss) (set_at c.loop-statement.sets k) (set_at c.advance.new.sets k) (changed.each k (omega (arith, len)))
          (subst (λ (left : List Statement). SoFar (c.args.first + k) ss left (set_at c.loop-statement.sets k)) opened (c.loop-statement.invariant.so_far k (omega (arith, len))));
    }
