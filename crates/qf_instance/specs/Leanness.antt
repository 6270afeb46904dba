-- Valid and lean certificates of a problem.
use Rattle.std.specs.Prelude.{◌↔◌}
use Rattle.qf_base.specs.Values.{Bounds}
use Rattle.qf_goal.specs.Case.{Case, complained_rows, misses, first_failing}
use Rattle.qf_tree.specs.declared.cert.Cert.{Cert}
use Rattle.qf_tree.specs.Certificates.{Instance, IsValid}
use Rattle.qf_tree.specs.Lean.{Aims, IsLean}
use Rattle.qf_instance.specs.Instances.{IsInstance}

-- what lean trees of the problem look at: its complained rows, and which of its rows miss their goals
abbrev pub aims_of : Case → Aims
aims_of case = record {
  complained = complained_rows case;
  misses = λ point row. misses case point row;
  first_missed = λ point. first_failing case point;
}

-- the certificate is valid over the region, for the problem's instance
pub record IsValidFor (case : Case) (region : Bounds) (cert : Cert) : Type 0 where
  pub inst : Instance
  pub is_instance : IsInstance case inst
  pub valid : IsValid inst region cert

-- .. and its tree is lean there
pub record IsLeanFor (case : Case) (region : Bounds) (cert : Cert) : Type 0 where
  pub inst : Instance
  pub is_instance : IsInstance case inst
  pub lean : IsLean inst (aims_of case) region cert

-- whichever instance of the problem is taken
abbrev pub LeannessIsOne : Type 0
LeannessIsOne =
    (case : Case) (inst : Instance) (region : Bounds) (cert : Cert) → IsInstance case inst
    → (IsValidFor case region cert ↔ IsValid inst region cert) × (IsLeanFor case region cert ↔ IsLean inst (aims_of case) region cert)
