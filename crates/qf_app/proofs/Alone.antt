-- Domains without records have no fault.
use Rattle.std.proofs.Common.{◌≡◌, ℕ, ◌+◌, ℤ, List, [], ◌∷◌, refl, sym, ◌∙◌}
use Rattle.std.specs.declared.option.Option.{Option}
use Rattle.std.specs.declared.option.Option.TheVariants.{Some, None}
use Rattle.qf_point.specs.Domains.{first_fault}
use Rattle.qf_point.specs.declared.domains.DomainFault.{DomainFault}

no_fault : (first : ℕ) (olds : List ℤ) → first_fault first olds [] ≡ None
no_fault first [] = refl
no_fault first (old ∷ olds) = no_fault (first + 1) olds

none_not_some : (fault : DomainFault) → ◌≡◌ {A = Option DomainFault} None (Some fault) → ⊥
none_not_some fault same = cc

pub never_faulty : (olds : List ℤ) (fault : DomainFault) → first_fault 1 olds [] ≡ Some fault → ⊥
never_faulty olds fault is = none_not_some fault (sym (no_fault 1 olds) ∙ is)
