-- What is still to come of a parameter's reach, with the places that it has reached.
use Rattle.std.proofs.Common.{◌≡◌, ◌∙◌, sym, subst, refl, inl, inr, ◌⊎◌, ℕ, true, false, List, [], ◌∷◌}
use Rattle.std.specs.Bool.{Decides}
use Rattle.std.proofs.lemmas.Bool.{false≢true}
use Rattle.qf_ir.specs.declared.ast.Statement.{Statement}
use Rattle.qf_ir.specs.declared.column_set.ColumnSet.{ColumnSet}
use Rattle.qf_ir.specs.ColumnSets.{has}
use Rattle.qf_ir.specs.Flow.{Place, Chain, Reaches}
use Rattle.qf_impact.specs.Steps.{flows}
use Rattle.qf_impact.proofs.Flows.{flows-in, flows-out}

-- the parameter enters later, or a chain leads on from where it is
abbrev pub Coming : ℕ → List Statement → ColumnSet → Place → Type 0
Coming k ss set to = Reaches k ss to ⊎ ((from : Place) × (has set from ≡ true) × Chain from ss to)

-- .. which is all that reaches
pub record SoFar (k : ℕ) (all left : List Statement) (set : ColumnSet) : Type 0 where
  pub sound : (to : Place) → Coming k left set to → Reaches k all to
  pub complete : (to : Place) → Reaches k all to → Coming k left set to

pub at-first : (k : ℕ) (ss : List Statement) (set : ColumnSet) → ((place : Place) → has set place ≡ false) → SoFar k ss ss set
at-first k ss set none = record {
  sound = λ to coming. elim coming [ inl r ↦ r | inr h ↦ absurd (false≢true (sym (none h.0) ∙ h.1)) ];
  complete = λ to r. inl r;
}

pub step-on : (k : ℕ) (all : List Statement) (s : Statement) (left : List Statement) (old new : ColumnSet)
    → ((place : Place) → has new place ≡ flows k s (has old) place) → SoFar k all (s ∷ left) old → SoFar k all left new
step-on k all s left old new is so_far = record {
  sound = λ to coming. elim coming [
    | inl r ↦ so_far.sound to (inl (inr r))
    | inr h ↦ elim (flows-in k (has old) s h.0 (sym (is h.0) ∙ h.1)) [
      | inl enters ↦ so_far.sound to (inl (inl (h.0, enters, h.2)))
      | inr arrow ↦ so_far.sound to (inr (arrow.0, arrow.1, (h.0, arrow.2, h.2)))
    ]
  ];
  complete = λ to r. elim (so_far.complete to r) [
    | inl reaches ↦ elim reaches [
      | inl entered ↦ inr (entered.0, is entered.0 ∙ flows-out k (has old) s entered.0 (inl entered.1), entered.2)
      | inr later ↦ inl later
    ]
    | inr h ↦ inr (h.2.0, is h.2.0 ∙ flows-out k (has old) s h.2.0 (inr (h.0, h.1, h.2.1)), h.2.2)
  ];
}

pub at-last : (k : ℕ) (all : List Statement) (set : ColumnSet) → SoFar k all [] set → (place : Place) → Decides (has set place) (Reaches k all place)
at-last k all set so_far place = (
  λ e. so_far.sound place (inr (place, e, refl)),
  λ r. elim (so_far.complete place r) [ inl none ↦ absurd none | inr h ↦ subst (λ p. has set p ≡ true) h.2 h.1 ],
)
