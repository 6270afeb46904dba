-- At most one point is least.
use Rattle.std.specs.Prelude.{◌≡◌, ℤ, List}
use Rattle.std.proofs.Common.{sym, ◌∙◌, ⊎_elim}
use Rattle.std.proofs.lemmas.Bool.{false≢true}
use Rattle.qf_point.specs.Points.{Price}
use Rattle.qf_point.specs.Least.{Least}
use Rattle.qf_point.proofs.PointLaws.{better_cases}

pub least_once : (Repairs : List ℤ → Type 0) (region : List (ℤ × ℤ)) (prices : List Price) (p q : List ℤ) → Least Repairs region prices p → Least Repairs region prices q → p ≡ q
least_once Repairs region prices p q h k =
    ⊎_elim (λ less. absurd (false≢true (sym (k.best p h.inside h.repairs) ∙ less)))
    (λ rest. ⊎_elim (λ same. same) (λ more. absurd (false≢true (sym (h.best q k.inside k.repairs) ∙ more))) rest)
    (better_cases prices p q)
