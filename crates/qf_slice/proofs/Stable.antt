-- What can't be false is true, where it can be tested.
use Rattle.std.proofs.Common.{◌≡◌, ◌∙◌, ap, sym, refl, inl, inr, ◌⊎◌, Bool, true, false, ℤ}
use Rattle.std.specs.Ordering.{int_eq}
use Rattle.std.proofs.lemmas.Bool.{false≢true}
use Rattle.std.proofs.lemmas.Bool.Decides.{Decides-int_eq}
use Rattle.qf_base.specs.Values.{Interval}

pub stable : (b : Bool) → ((b ≡ true → ⊥) → ⊥) → b ≡ true
stable true h = refl
stable false h = absurd (h (λ e. false≢true e))

pub same-int : (x y : ℤ) → (x ≡ y) ⊎ (x ≡ y → ⊥)
same-int x y =
    elim (int_eq x y) as (λ b. int_eq x y ≡ b → (x ≡ y) ⊎ (x ≡ y → ⊥)) [
      | true ↦ λ e. inl ((Decides-int_eq x y).0 e)
      | false ↦ λ e. inr (λ same. false≢true (sym e ∙ (Decides-int_eq x y).1 same))
    ] refl

pub same-interval : (r s : Interval) → (r ≡ s) ⊎ (r ≡ s → ⊥)
same-interval r s =
    elim (same-int r.0 s.0) [
      | inl low ↦ elim (same-int r.1 s.1) [
        | inl high ↦ inl (ap (λ x. (x, r.1)) low ∙ ap (λ y. (s.0, y)) high)
        | inr apart ↦ inr (λ e. apart (ap (λ (t : Interval). t.1) e))
      ]
      | inr apart ↦ inr (λ e. apart (ap (λ (t : Interval). t.0) e))
    ]
