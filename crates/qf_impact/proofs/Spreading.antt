-- The assignments of an UPDATE, one after the other.
use Rattle.std.proofs.Common.{◌≡◌, ◌∙◌, ap, sym, ℕ, ◌+◌, ◌<◌, Bool, ◌&&◌, ◌||◌, List, ◌∷◌, ◌++◌, length, get_or, drop}
use Rattle.std.specs.List.{list_any}
use Rattle.std.proofs.lemmas.List.{drop_more}
use Rattle.qf_ir.specs.declared.ast.Atom.{Atom}
use Rattle.qf_ir.specs.declared.ast.Expr.{Expr}
use Rattle.qf_ir.specs.declared.column_set.ColumnSet.{ColumnSet}
use Rattle.qf_ir.specs.ColumnSets.{has}
use Rattle.qf_ir.specs.Flow.{Place, At, same_place}
use Rattle.qf_impact.specs.Atoms.{expr_atoms}
use Rattle.qf_impact.specs.Steps.{touches, carries}
use Rattle.qf_impact.specs.Sets.{set_at}
use Rattle.qf_impact.proofs.Tests.{or-assoc}

module _ (first : ℕ) (assignments : List (ℕ × Expr)) (filter : List Atom) (before : List ColumnSet) where
  -- the assignment at this place has been looked at too
  pub spread_step : (i k : ℕ) (s : ℕ × Expr) (atoms : List Atom) (target : ColumnSet) (reach next whole : Bool) (place : Place) → i < length assignments → s ≡ get_or assignments i s
      → atoms ≡ expr_atoms s.1 ++ filter → has target place ≡ same_place place (At s.0)
      → next ≡ (reach || (has target place && touches (first + k) (has (set_at before k)) atoms))
      → (reach || list_any (carries (first + k) (has (set_at before k)) filter place) (drop i assignments)) ≡ whole
      → (next || list_any (carries (first + k) (has (set_at before k)) filter place) (drop (i + 1) assignments)) ≡ whole
  spread_step i k s atoms target reach next whole place lt is made at grown so_far =
      let test : ℕ × Expr → Bool = carries (first + k) (has (set_at before k)) filter place in
      let rest : Bool = list_any test (drop (i + 1) assignments) in
      let opened : drop i assignments ≡ s ∷ drop (i + 1) assignments = drop_more assignments i s lt ∙ ap (λ (t : ℕ × Expr). t ∷ drop (i + 1) assignments) (sym is) in
      let this : next ≡ (reach || test s) =
      grown ∙ ap (λ (b : Bool). reach || (b && touches (first + k) (has (set_at before k)) atoms)) at
      ∙ ap (λ (xs : List Atom). reach || (same_place place (At s.0) && touches (first + k) (has (set_at before k)) xs)) made in
      ap (λ (b : Bool). b || rest) this ∙ or-assoc reach (test s) rest ∙ sym (ap (λ (ss : List (ℕ × Expr)). reach || list_any test ss) opened) ∙ so_far
