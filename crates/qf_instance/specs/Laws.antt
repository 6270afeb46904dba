-- Certificates for a problem: what they speak of is one thing, and where they are valid their claims hold.
use Rattle.std.specs.Prelude.{◌≡◌, ℕ, ◌-◌, Bool, false, List, length, ℤ, IsTrue}
use Rattle.std.specs.FinSet as set
use Rattle.std.specs.Ordering.{nat_cmp}
use Rattle.qf_base.specs.declared.names.Bound.{Bound}
use Rattle.qf_base.specs.declared.names.RowName.{RowName}
use Rattle.qf_base.specs.Values.{Bounds, IsWithin}
use Rattle.qf_lin.specs.declared.inequality.System.{System}
use Rattle.qf_lin.specs.Inequalities.{with_bound}
use Rattle.qf_lin.specs.Steps.{is_closable}
use Rattle.qf_circuit.specs.Circuits.{hull_of}
use Rattle.qf_point.specs.Points.{lower_half, upper_half}
use Rattle.qf_ir.specs.Plan.{RowExists}
use Rattle.qf_goal.specs.Case.{Case, misses}
use Rattle.qf_goal.specs.SeedPlaces.{case_seeds}
use Rattle.qf_goal.specs.SoundCase.{IsSoundCase}
use Rattle.qf_slice.specs.Marks.{AreNeeded, IsNeededSet}
use Rattle.qf_slice.specs.RootBox.{IsRootBox}
use Rattle.qf_tree.specs.declared.cert.Cert.{Cert}
use Rattle.qf_tree.specs.Certificates.{Instance, IsValid, IsFaithful, LiesInRoot, at_least, cuts_inside}
use Rattle.qf_encode.specs.Lives.{BoxIn}
use Rattle.qf_instance.specs.declared.row.RowSystem.{RowSystem}
use Rattle.qf_instance.specs.Instances.{instance_of, is_marked, IsInstance}
use Rattle.qf_instance.specs.Claims.{CaseClaim, BoxClaim}
use Rattle.qf_instance.specs.RowSystems.{IsRowSystem, FitsUnlessEmpty}

-- the root box and the set of the needed parameters make an instance
abbrev pub InstancesExist : Type 0
InstancesExist =
    (case : Case) (root : Bounds) (params : set.FinSet nat_cmp) → IsRootBox case root → IsNeededSet case.plan.statements (case_seeds case) params
    → IsInstance case (instance_of case root (λ k. set.contains params k))

-- .. and so do the root box and marks of the needed parameters
abbrev pub MarksMakeInstances : Type 0
MarksMakeInstances =
    (case : Case) (root : Bounds) (marks : List Bool) → IsSoundCase case → IsRootBox case root → AreNeeded case.plan.statements (case_seeds case) marks → length marks ≡ length case.plan.olds
    → IsInstance case (instance_of case root (λ k. is_marked marks k))

-- a problem has only one instance
abbrev pub InstancesAreOne : Type 0
InstancesAreOne = (case : Case) (one other : Instance) → IsInstance case one → IsInstance case other → one ≡ other

-- what the claims of certificates rest on
abbrev pub InstancesAreFaithful : Type 0
InstancesAreFaithful = (case : Case) (inst : Instance) → IsSoundCase case → IsInstance case inst → IsFaithful inst

-- where a certificate is valid over the root box, its claim holds of the problem
abbrev pub ValidCertificatesAreTrue : Type 0
ValidCertificatesAreTrue =
    (case : Case) (inst : Instance) (cert : Cert) → IsSoundCase case → IsInstance case inst → IsValid inst inst.root cert → CaseClaim case cert.answer (at_least inst inst.root cert)

-- where it is valid over a region in the root box, its claim holds of the region
abbrev pub ValidRegionsAreTrue : Type 0
ValidRegionsAreTrue =
    (case : Case) (inst : Instance) (region : Bounds) (cert : Cert) → IsSoundCase case → IsInstance case inst → LiesInRoot inst region → IsValid inst region cert → BoxClaim case region cert.answer (at_least inst region cert)

-- what is made for a row has the instance's system and hulls
abbrev pub RowsAreOfTheInstance : Type 0
RowsAreOfTheInstance =
    (case : Case) (inst : Instance) (row : RowName) (made : RowSystem) → IsInstance case inst → IsRowSystem case inst.root row made
    → (inst.system row ≡ made.system) × ((region : Bounds) → inst.hull row region ≡ hull_of region made.coded.circuit)

-- the root box lies in the domains, and none of its intervals is empty
abbrev pub RootBoxesSpan : Type 0
RootBoxesSpan =
    (case : Case) (root : Bounds) → IsSoundCase case → IsRootBox case root → BoxIn root case.domains.region × BoxIn root root

-- the points of a box in another lie in the other
abbrev pub BoxesHold : Type 0
BoxesHold = (region root : Bounds) → BoxIn region root → (q : List ℤ) → IsWithin q region → IsWithin q root

-- the halves of a box in another, cut inside, lie in the other, and none of their intervals is empty
abbrev pub BoxesHalve : Type 0
BoxesHalve =
    (region root : Bounds) (param : ℕ) (cut : ℤ) → BoxIn region root → IsTrue (cuts_inside region param cut)
    → BoxIn (lower_half region (param - 1) cut) root × BoxIn (upper_half region (param - 1) cut) root

-- taking a bound, be it of a step or of a case, leaves bounds over which a system can be used, unless they are empty
abbrev pub BoundsKeepFit : Type 0
BoundsKeepFit =
    (system : System) (bounds : Bounds) (var : ℕ) (bound : Bound) → FitsUnlessEmpty system bounds → FitsUnlessEmpty system (with_bound bounds var bound)

-- a point at which a row meets its goal keeps the row from closing the boxes that the point lies in
abbrev pub WitnessesLeaveOpen : Type 0
WitnessesLeaveOpen =
    (case : Case) (inst : Instance) (row : RowName) (region : Bounds) (point : List ℤ) → IsSoundCase case → IsInstance case inst → RowExists case.plan row → misses case point row ≡ false
    → IsWithin point inst.root → IsWithin point region → is_closable (inst.system row) (inst.hull row region) ≡ false
